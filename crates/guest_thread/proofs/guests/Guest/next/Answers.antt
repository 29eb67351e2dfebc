use Rattle.std.proofs.Common.{sym, ap, ◌∙◌, subst, false, rules}
use Rattle.guest_calls.specs.Run.{first_point}
use Rattle.guest_thread.specs.declared.guests.Turn.TheVariants as turn
use Rattle.guest_thread.specs.ThreadState.{ThreadStateOf, thread_in}
use Rattle.guest_thread.specs.Under.{ComesTo}
use Rattle.guest_thread.proofs.Reached.{at_budget}
use Rattle.guest_thread.proofs.Printed.{asking_byte}
use Rattle.guest_thread.proofs.guests.Guest.next.Goals as goal

pub returns-in-Some-clause-comes : goal.returns-in-Some-clause-comes
returns-in-Some-clause-comes g c = λ start pairs come.
    subst (λ ask. ComesTo g.C.Core.set c.args.image.now c.args.budget start pairs (turn.Asks ask) (thread_in g.C.Core.machine c.args.self.now)) (sym c.byte_ask.ensures)
    (asking_byte g.C.Core.set false c.args.image.now c.args.budget (first_point start) pairs (thread_in g.C.Core.machine c.args.self.now) c.in-Some.printing come (sym (ap (λ (s : ThreadStateOf g.row.C.Denot). s.printing) c.self.view_is) ∙ c.in-Some.is))

pub returns-in-Some-turn-clause-comes : goal.returns-in-Some-turn-clause-comes
returns-in-Some-turn-clause-comes g c = λ start pairs come.
    c.in-Some-turn.ensures.comes c.args.budget start pairs (c.loop-self.invariant.way start pairs come) (search rules)

pub loop-self-preserved : goal.loop-self-preserved
loop-self-preserved g c =
    let on = c.in_default-turn.ensures.goes_on in
    record {
      at_turn = on.at_turn;
      within = search rules;
      way = λ start pairs come. c.in_default-turn.ensures.comes c.args.budget start pairs (c.loop-self.invariant.way start pairs come) (search rules);
      kept = search rules;
    }

pub returns-clause-comes : goal.returns-clause-comes
returns-clause-comes g c = λ start pairs come.
    at_budget g.C.Core.set false c.args.image.now c.args.budget (first_point start) pairs (thread_in g.C.Core.machine c.loop-self.self) (c.loop-self.invariant.way start pairs come) c.loop-self.invariant.at_turn.printing (search rules)
