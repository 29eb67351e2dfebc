use Rattle.guest_thread.proofs.OneOutcome.{one_list_on}
use Rattle.rv32_guest.specs.Machine.{rv32}
use Rattle.rv32_guest.proofs.laws.histories_have_one_outcome.Goals as goal

pub returns : goal.returns
returns c program size budget history ends others one two = one_list_on rv32 program size budget history ends others one.ends two.ends
