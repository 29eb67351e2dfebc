use Rattle.std.proofs.Common.{rules, sym, ap, ◌∙◌, subst}
use Rattle.guest_thread.specs.declared.guests.Turn.TheVariants as turn
use Rattle.guest_thread.specs.ThreadState.{ThreadStateOf, thread_in}
use Rattle.guest_thread.specs.Under.{ComesToFrom}
use Rattle.guest_thread.proofs.Reached.{spent_by}
use Rattle.guest_thread.proofs.Printed.{asking_byte}
use Rattle.guest_thread.proofs.guests.Guest.one_turn.Goals as goal

pub returns-in-Some-clause-comes : goal.returns-in-Some-clause-comes
returns-in-Some-clause-comes g c = λ point pairs come.
    subst (λ ask. ComesToFrom g.C.Core.set c.args.starts c.args.image.now c.args.budget point pairs (turn.Asks ask) (thread_in g.C.Core.machine c.args.self.now)) (sym c.byte_ask.ensures)
    (asking_byte g.C.Core.set c.args.starts c.args.image.now c.args.budget point pairs (thread_in g.C.Core.machine c.args.self.now) c.in-Some.printing come (sym (ap (λ (s : ThreadStateOf g.row.C.Denot). s.printing) c.self.view_is) ∙ c.in-Some.is))

pub returns-then-self-budget-clause-comes : goal.returns-then-self-budget-clause-comes
returns-then-self-budget-clause-comes g c = λ point pairs come.
    spent_by g.C.Core.set c.args.starts c.args.image.now c.args.budget point pairs (thread_in g.C.Core.machine c.args.self.now) come (search rules) (search rules)
