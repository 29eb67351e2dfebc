use Rattle.std.proofs.Common.{sym, ap, ◌∙◌, false}
use Rattle.guest_core.specs.Machine.{given}
use Rattle.guest_calls.specs.Run.{first_point}
use Rattle.guest_thread.specs.ThreadState.{ThreadStateOf, thread_in}
use Rattle.guest_thread.proofs.Reached.{after_reply}
use Rattle.guest_thread.proofs.Printed.{after_byte_reply}
use Rattle.guest_thread.proofs.guests.Guest.give.Goals as goal

pub returns-in-None-clause-on : goal.returns-in-None-clause-on
returns-in-None-clause-on g c = λ stocked program budget point pairs ask awaits.
    let seen = c.self.view_is in
    after_reply g.C.Core.set stocked program budget point pairs ask c.args.reply (thread_in g.C.Core.machine c.args.self.now)
    (record { cpu = g.C.Core.machine c.give.new.self; steps = c.self.inside.steps; output = c.self.inside.output; printing = c.self.inside.printing })
    awaits (sym (ap (λ (s : ThreadStateOf g.row.C.Denot). s.printing) seen) ∙ c.in-None.is) c.in-None.is
    (c.give.ensures.state ∙ ap (λ (s : ThreadStateOf g.row.C.Denot). given (g.C.Core.machine s.cpu) c.args.reply) seen)
    (ap (λ (s : ThreadStateOf g.row.C.Denot). s.steps) seen) (ap (λ (s : ThreadStateOf g.row.C.Denot). s.output) seen)

pub returns-in-None-clause-comes : goal.returns-in-None-clause-comes
returns-in-None-clause-comes g c = λ program budget start. returns-in-None-clause-on g c false program budget (first_point start)

pub returns-in-Some-clause-on : goal.returns-in-Some-clause-on
returns-in-Some-clause-on g c = λ stocked program budget point pairs ask awaits.
    after_byte_reply g.C.Core.set stocked program budget point pairs ask c.args.reply (thread_in g.C.Core.machine c.args.self.now) (thread_in g.C.Core.machine c.print.new.self) c.in-Some.printing awaits
    (sym (ap (λ (s : ThreadStateOf g.row.C.Denot). s.printing) c.self.view_is) ∙ c.in-Some.is) c.print.ensures.byte

pub returns-in-Some-clause-comes : goal.returns-in-Some-clause-comes
returns-in-Some-clause-comes g c = λ program budget start. returns-in-Some-clause-on g c false program budget (first_point start)
