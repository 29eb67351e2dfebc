use Rattle.std.proofs.Common.{ap}
use Rattle.std.specs.Option.{option_map}
use Rattle.llsc_base.specs.Sizes.{size_fault_name}
use Rattle.llsc_call.proofs.commands.machine_named.Goals as goal

pub returns-in-Run : goal.returns-in-Run
returns-in-Run c = rw c.in-Run.is (ap (option_map size_fault_name) c.whole_machine.ensures.fault)
