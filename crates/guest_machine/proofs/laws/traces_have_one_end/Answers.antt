use Rattle.std.proofs.Common.{sym, subst}
use Rattle.history.specs.Accesses.{history_of}
use Rattle.guest_thread.specs.Ends.{AreEnds}
use Rattle.guest_thread.proofs.OneOutcome.{one_list}
use Rattle.guest_machine.proofs.OneTrace.{one_trace}
use Rattle.guest_machine.proofs.laws.traces_have_one_end.Goals as goal

pub returns : goal.returns
returns g c program size seed budget accesses others ends more trace are trace_too are_too =
    one_list g.C.Core.set program size budget (history_of accesses) ends more are
    (subst (λ a. AreEnds g.C.Core.set program size budget (history_of a) more) (sym (one_trace g.C.Core.set program size seed budget accesses others trace trace_too)) are_too)
