use Rattle.std.proofs.Common.{◌+◌, ◌*◌}
use Rattle.llsc_words.specs.Request.{machine_by}
use Rattle.llsc_words.proofs.Counted.{fault_same, machine_same}
use Rattle.llsc_words.proofs.requests.RunNumbers.whole_machine.Goals as goal

pub returns-clause-fault : goal.returns-clause-fault
returns-clause-fault c =
    let n = c.args.self.now in
    fault_same (machine_by n.machine) c.all_threads.result (n.machine.threads * (1 + n.spare)) c.all_threads.ensures

pub returns-clause-machine : goal.returns-clause-machine
returns-clause-machine c =
    let n = c.args.self.now in
    machine_same (machine_by n.machine) c.all_threads.result (n.machine.threads * (1 + n.spare)) c.all_threads.ensures
