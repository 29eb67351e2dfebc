use Rattle.llsc_call.proofs.LoadAnswers.{guest_unmade}
use Rattle.llsc_call.proofs.commands.load.unit.Goals as goal

pub returns-in-Err-clause-refused : goal.returns-in-Err-clause-refused
returns-in-Err-clause-refused c =
    guest_unmade c.args.numbers.now.threads c.args.numbers.now.rounds c.in-Err.fault c.refuse_guest.result c.in-Err.ensures.fault c.refuse_guest.ensures.memory c.refuse_guest.ensures.named
