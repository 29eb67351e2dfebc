use Rattle.std.proofs.Common.{[], false, inl}
use Rattle.guest_calls.specs.Run.{first_point}
use Rattle.guest_thread.specs.ThreadState.{thread_in}
use Rattle.guest_thread.proofs.Reached.{spent_ends}
use Rattle.guest_thread.proofs.guests.Guest.run.Goals as goal

pub returns-in-Stopped-clause-ends : goal.returns-in-Stopped-clause-ends
returns-in-Stopped-clause-ends g c = λ start. c.in-Stopped.ensures.comes (first_point start) []

pub returns-in-Spent-clause-ends : goal.returns-in-Spent-clause-ends
returns-in-Spent-clause-ends g c = λ start come.
    let ran = c.in-Spent.ensures.comes (first_point start) [] come in
    (ran.0, (ran.1.0, inl (spent_ends g.C.Core.set false c.args.code.now.program c.args.budget (first_point start) ran.0 (thread_in g.C.Core.machine c.run_on.new.self) ran.1.1)))
