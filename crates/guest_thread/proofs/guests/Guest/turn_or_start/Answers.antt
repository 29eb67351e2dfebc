use Rattle.std.proofs.Common.{rules, ◌+◌, length, sym, ap, subst, ◌∙◌, Option, MatchOption}
use Rattle.guest_core.specs.Machine.{next_of, after_of, wanted_of}
use Rattle.guest_thread.specs.declared.guests.Turn.{Turn}
use Rattle.guest_thread.specs.ThreadState.{ThreadStateOf, thread_in}
use Rattle.guest_thread.specs.Under.{HasComeFrom, ComesToFrom}
use Rattle.guest_thread.proofs.Reached.{after_asking, after_step, after_stop}
use Rattle.guest_thread.proofs.Calling.{after_call, after_start}
use Rattle.guest_thread.proofs.guests.Guest.turn_or_start.Goals as goal

pub returns-in-Access-clause-comes : goal.returns-in-Access-clause-comes
returns-in-Access-clause-comes g c = λ budget point pairs come less.
    let seen = c.self.view_is in
    let none = c.requires.at_turn.printing in
    after_asking g.C.Core.set c.args.starts c.args.image.now budget point pairs c.in-Access.ask (thread_in g.C.Core.machine c.args.self.now)
    (record { cpu = g.C.Core.machine c.next.new.self; steps = c.self.inside.steps; output = c.self.inside.output; printing = c.self.inside.printing })
    come less none (ap (λ (s : ThreadStateOf g.row.C.Denot). s.printing) seen ∙ none)
    (c.in-Access.ensures.wanted ∙ ap (λ (s : ThreadStateOf g.row.C.Denot). wanted_of (next_of g.C.Core.set c.args.image.now (g.C.Core.machine s.cpu))) seen)
    (c.next.ensures.state ∙ ap (λ (s : ThreadStateOf g.row.C.Denot). after_of g.C.Core.set c.args.image.now (g.C.Core.machine s.cpu)) seen)
    (ap (λ (s : ThreadStateOf g.row.C.Denot). s.steps) seen) (ap (λ (s : ThreadStateOf g.row.C.Denot). s.output) seen)

pub returns-in_default-clause-comes : goal.returns-in_default-clause-comes
returns-in_default-clause-comes g c = λ budget point pairs come less.
    let seen = c.self.view_is in
    let none = c.requires.at_turn.printing in
    let moved : ThreadStateOf _ = record { cpu = g.C.Core.machine c.next.new.self; steps = c.self.inside.steps; output = c.self.inside.output; printing = c.self.inside.printing } in
    let come_to : Option Turn → Type 0 = λ r. MatchOption r (HasComeFrom g.C.Core.set c.args.starts c.args.image.now budget point pairs (thread_in g.C.Core.machine c.call-called.new.self))
    (λ turn. ComesToFrom g.C.Core.set c.args.starts c.args.image.now budget point pairs turn (thread_in g.C.Core.machine c.call-called.new.self)) in
    subst come_to (sym c.turn.ensures ∙ c.in_default.is)
    (after_call g.C.Core.set c.args.starts c.args.image.now budget point pairs c.in-Call.call (length c.args.image.now.bytes) (thread_in g.C.Core.machine c.args.self.now) moved
    (thread_in g.C.Core.machine c.call-called.new.self) c.call-called.result come less none
    (c.in-Call.ensures.wanted ∙ ap (λ (s : ThreadStateOf g.row.C.Denot). wanted_of (next_of g.C.Core.set c.args.image.now (g.C.Core.machine s.cpu))) seen)
    (c.next.ensures.state ∙ ap (λ (s : ThreadStateOf g.row.C.Denot). after_of g.C.Core.set c.args.image.now (g.C.Core.machine s.cpu)) seen)
    (ap (λ (s : ThreadStateOf g.row.C.Denot). s.steps) seen) (ap (λ (s : ThreadStateOf g.row.C.Denot). s.output) seen) (ap (λ (s : ThreadStateOf g.row.C.Denot). s.printing) seen ∙ none)
    (search rules) c.call-called.ensures.made)

pub returns-in-Some-clause-comes : goal.returns-in-Some-clause-comes
returns-in-Some-clause-comes g c = λ budget point pairs come less.
    let seen = c.self.view_is in
    let none = c.requires.at_turn.printing in
    let moved : ThreadStateOf _ = record { cpu = g.C.Core.machine c.next.new.self; steps = c.self.inside.steps; output = c.self.inside.output; printing = c.self.inside.printing } in
    let come_to : Option Turn → Type 0 = λ r. MatchOption r (HasComeFrom g.C.Core.set c.args.starts c.args.image.now budget point pairs (thread_in g.C.Core.machine c.call-called.new.self))
    (λ turn. ComesToFrom g.C.Core.set c.args.starts c.args.image.now budget point pairs turn (thread_in g.C.Core.machine c.call-called.new.self)) in
    subst come_to (sym c.turn.ensures ∙ c.in-Some.is)
    (after_call g.C.Core.set c.args.starts c.args.image.now budget point pairs c.in-Call.call (length c.args.image.now.bytes) (thread_in g.C.Core.machine c.args.self.now) moved
    (thread_in g.C.Core.machine c.call-called.new.self) c.call-called.result come less none
    (c.in-Call.ensures.wanted ∙ ap (λ (s : ThreadStateOf g.row.C.Denot). wanted_of (next_of g.C.Core.set c.args.image.now (g.C.Core.machine s.cpu))) seen)
    (c.next.ensures.state ∙ ap (λ (s : ThreadStateOf g.row.C.Denot). after_of g.C.Core.set c.args.image.now (g.C.Core.machine s.cpu)) seen)
    (ap (λ (s : ThreadStateOf g.row.C.Denot). s.steps) seen) (ap (λ (s : ThreadStateOf g.row.C.Denot). s.output) seen) (ap (λ (s : ThreadStateOf g.row.C.Denot). s.printing) seen ∙ none)
    (search rules) c.call-called.ensures.made)

pub returns-in-Done-clause-comes : goal.returns-in-Done-clause-comes
returns-in-Done-clause-comes g c = λ budget point pairs come less.
    let seen = c.self.view_is in
    let none = c.requires.at_turn.printing in
    after_step g.C.Core.set c.args.starts c.args.image.now budget point pairs (thread_in g.C.Core.machine c.args.self.now)
    (record { cpu = g.C.Core.machine c.next.new.self; steps = c.self.inside.steps + 1; output = c.self.inside.output; printing = c.self.inside.printing })
    come less none (ap (λ (s : ThreadStateOf g.row.C.Denot). s.printing) seen ∙ none)
    (c.in-Done.ensures.wanted ∙ ap (λ (s : ThreadStateOf g.row.C.Denot). wanted_of (next_of g.C.Core.set c.args.image.now (g.C.Core.machine s.cpu))) seen)
    (c.next.ensures.state ∙ ap (λ (s : ThreadStateOf g.row.C.Denot). after_of g.C.Core.set c.args.image.now (g.C.Core.machine s.cpu)) seen)
    (ap (λ (s : ThreadStateOf g.row.C.Denot). s.steps + 1) seen) (ap (λ (s : ThreadStateOf g.row.C.Denot). s.output) seen)

pub returns-in-Stopped-clause-comes : goal.returns-in-Stopped-clause-comes
returns-in-Stopped-clause-comes g c = λ budget point pairs come less.
    let seen = c.self.view_is in
    after_stop g.C.Core.set c.args.starts c.args.image.now budget point pairs c.in-Stopped.stop (thread_in g.C.Core.machine c.args.self.now)
    (record { cpu = g.C.Core.machine c.next.new.self; steps = c.self.inside.steps; output = c.self.inside.output; printing = c.self.inside.printing })
    come less c.requires.at_turn.printing
    (c.in-Stopped.ensures.wanted ∙ ap (λ (s : ThreadStateOf g.row.C.Denot). wanted_of (next_of g.C.Core.set c.args.image.now (g.C.Core.machine s.cpu))) seen)
    (ap (λ (s : ThreadStateOf g.row.C.Denot). s.steps) seen) (ap (λ (s : ThreadStateOf g.row.C.Denot). s.output) seen)

pub returns-then-is_start_call-clause-comes : goal.returns-then-is_start_call-clause-comes
returns-then-is_start_call-clause-comes g c = λ budget point pairs come less.
    let seen = c.self.view_is in
    after_start g.C.Core.set c.args.starts c.args.image.now budget point pairs c.in-Call.call (thread_in g.C.Core.machine c.args.self.now)
    (record { cpu = g.C.Core.machine c.next.new.self; steps = c.self.inside.steps; output = c.self.inside.output; printing = c.self.inside.printing })
    come less c.requires.at_turn.printing
    (c.in-Call.ensures.wanted ∙ ap (λ (s : ThreadStateOf g.row.C.Denot). wanted_of (next_of g.C.Core.set c.args.image.now (g.C.Core.machine s.cpu))) seen)
    (c.next.ensures.state ∙ ap (λ (s : ThreadStateOf g.row.C.Denot). after_of g.C.Core.set c.args.image.now (g.C.Core.machine s.cpu)) seen)
    (ap (λ (s : ThreadStateOf g.row.C.Denot). s.steps) seen) (ap (λ (s : ThreadStateOf g.row.C.Denot). s.output) seen) (search rules)
