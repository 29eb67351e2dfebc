-- A reply leads a thread on, and a store that memory refuses ends it.
use Rattle.std.proofs.Common.{◌≡◌, ℕ, Bool, List, ◌∷◌, [], ◌∙◌, ap, length, refl, sym, subst, append-nil, inl, inr}
use Rattle.llsc_base.specs.Images.{Program}
use Rattle.guest_core.specs.Machine.{InstructionSet}
use Rattle.guest_core.specs.Ports.{IsRefused, goes, refused, stays}
use Rattle.guest_calls.specs.Run.{Pair, PointOf}
use Rattle.guest_thread.specs.declared.guests.Event.{Event}
use Rattle.guest_thread.specs.declared.guests.Event.TheVariants as event
use Rattle.guest_thread.specs.ThreadState.{ThreadOf, thread_in}
use Rattle.guest_thread.specs.inner.ThreadState.{IsPendingAfterEvent}
use Rattle.guest_thread.specs.Under.{HasComeFrom}
use Rattle.guest_thread.specs.inner.Under.{ComesToEvent}
use Rattle.guest_thread.proofs.Ways.{further}
use Rattle.guest_thread.proofs.Refusing.{ended_on}
use Rattle.guest_thread.proofs.guests.Guest.pass.Goals as goal

-- what a turn over an image comes to, in the program that it is
comes_to : {I S : Type 0} (set : InstructionSet I S) (starts : Bool) {image program : Program} (budget : ℕ) (event : Event) (old new : ThreadOf I S) → image ≡ program
    → ((from : PointOf I S) (pairs : List Pair) → HasComeFrom set starts image budget from pairs old → ComesToEvent set starts image budget from pairs event new)
    → (from : PointOf I S) (pairs : List Pair) → HasComeFrom set starts program budget from pairs old → ComesToEvent set starts program budget from pairs event new
comes_to {I} {S} set starts budget event old new same comes =
    subst (λ p. (from : PointOf I S) (pairs : List Pair) → HasComeFrom set starts p budget from pairs old → ComesToEvent set starts p budget from pairs event new) same comes

comes_on : {I S : Type 0} (set : InstructionSet I S) (starts : Bool) {image program : Program} (budget : ℕ) (old new : ThreadOf I S) → image ≡ program
    → ((from : PointOf I S) (pairs : List Pair) → HasComeFrom set starts image budget from pairs old → HasComeFrom set starts image budget from pairs new)
    → (from : PointOf I S) (pairs : List Pair) → HasComeFrom set starts program budget from pairs old → HasComeFrom set starts program budget from pairs new
comes_on {I} {S} set starts budget old new same comes =
    subst (λ p. (from : PointOf I S) (pairs : List Pair) → HasComeFrom set starts p budget from pairs old → HasComeFrom set starts p budget from pairs new) same comes

pub returns-in-Some-reply-clause-goes_on : goal.returns-in-Some-reply-clause-goes_on
returns-in-Some-reply-clause-goes_on g c = rw (sym c.image-image.ensures) (record {
  ready = c.give.ensures.ready (length c.image-image.result.now.bytes) c.args.budget
      (subst (λ e. IsPendingAfterEvent (length c.image-image.result.now.bytes) c.args.budget e (thread_in g.C.Core.machine c.one_turn.new.self)) (c.in-Turns.is ∙ ap event.Turns c.in-Asks.is) c.in-Some.ensures.pending).waiting;
  bounded = (c.give.ensures.moved (c.in-Some.ensures.kept c.requires.running.bounded).bounded).bounded;
})

pub returns-in-Some-reply-clause-comes : goal.returns-in-Some-reply-clause-comes
returns-in-Some-reply-clause-comes g c = λ point before come. (
  (c.in-Asks.ask, c.in-Some-reply.reply) ∷ [],
  (
    goes [] c.args.port.now c.reply.new.self c.in-Asks.ask c.in-Some-reply.reply stays
        (subst (λ r. g.P.TryPort.replies c.args.port.now c.in-Asks.ask r c.reply.new.self) c.in-Some-reply.is c.reply.ensures.replied),
    c.give.ensures.on _ _ _ _ _ _ (subst (λ e. ComesToEvent g.C.Core.set c.args.starts c.args.code.now.program c.args.budget point before e (thread_in g.C.Core.machine c.one_turn.new.self)) (c.in-Turns.is ∙ ap event.Turns c.in-Asks.is)
        (comes_to g.C.Core.set c.args.starts c.args.budget c.in-Some.event (thread_in g.C.Core.machine c.args.self.now) (thread_in g.C.Core.machine c.one_turn.new.self) c.image-image.ensures c.in-Some.ensures.comes point before come)).1,
  ),
)

pub returns-in_default-clause-later : goal.returns-in_default-clause-later
returns-in_default-clause-later g c =
    let ends = c.in_default.ensures.later in
    further (thread_in g.C.Core.machine c.args.self.now) (thread_in g.C.Core.machine c.one_turn.new.self) c.requires.running.bounded ends.0 ends.1

pub returns-in_default-clause-comes : goal.returns-in_default-clause-comes
returns-in_default-clause-comes g c = λ point before come. (
  [],
  (
    stays,
    subst (λ all. HasComeFrom g.C.Core.set c.args.starts c.args.code.now.program c.args.budget point all (thread_in g.C.Core.machine c.one_turn.new.self)) (sym (append-nil before)) (comes_on g.C.Core.set c.args.starts c.args.budget (thread_in g.C.Core.machine c.args.self.now) (thread_in g.C.Core.machine c.one_turn.new.self) c.image-image.ensures c.in_default.ensures.comes point before come),
  ),
)

pub returns-in-Starts-clause-comes : goal.returns-in-Starts-clause-comes
returns-in-Starts-clause-comes g c = λ point before come.
    (stays, subst (λ e. ComesToEvent g.C.Core.set c.args.starts c.args.code.now.program c.args.budget point before e (thread_in g.C.Core.machine c.one_turn.new.self)) c.in-Starts.is (comes_to g.C.Core.set c.args.starts c.args.budget c.in-Some.event (thread_in g.C.Core.machine c.args.self.now) (thread_in g.C.Core.machine c.one_turn.new.self) c.image-image.ensures c.in-Some.ensures.comes point before come))

pub returns-in-Spent-clause-comes : goal.returns-in-Spent-clause-comes
returns-in-Spent-clause-comes g c = λ point before come.
    (stays, subst (λ e. ComesToEvent g.C.Core.set c.args.starts c.args.code.now.program c.args.budget point before e (thread_in g.C.Core.machine c.one_turn.new.self)) c.in-Spent.is (comes_to g.C.Core.set c.args.starts c.args.budget c.in-Some.event (thread_in g.C.Core.machine c.args.self.now) (thread_in g.C.Core.machine c.one_turn.new.self) c.image-image.ensures c.in-Some.ensures.comes point before come))

pub returns-in-Ended-clause-comes : goal.returns-in-Ended-clause-comes
returns-in-Ended-clause-comes g c = λ point before come.
    (stays, inl (subst (λ e. ComesToEvent g.C.Core.set c.args.starts c.args.code.now.program c.args.budget point before e (thread_in g.C.Core.machine c.one_turn.new.self)) (c.in-Turns.is ∙ ap event.Turns c.in-Ended.is) (comes_to g.C.Core.set c.args.starts c.args.budget c.in-Some.event (thread_in g.C.Core.machine c.args.self.now) (thread_in g.C.Core.machine c.one_turn.new.self) c.image-image.ensures c.in-Some.ensures.comes point before come)))

pub returns-clause-comes : goal.returns-clause-comes
returns-clause-comes g c = λ point before come. (
  refused [] c.args.port.now c.reply.new.self c.in-Asks.ask stays
      (subst (λ r. g.P.TryPort.replies c.args.port.now c.in-Asks.ask r c.reply.new.self) c.in_default-reply.is c.reply.ensures.replied),
  inr (
    c.in-Store.place.addr,
    (
      subst (IsRefused (g.P.Port.refuses c.reply.new.self)) c.in-Store.is c.in_default-reply.ensures.refused,
      refl,
      ended_on g.C.Core.set c.args.starts c.args.code.now.program c.args.budget point before c.in-Store.place c.in-Store.field-1 c.in-Asks.ask (thread_in g.C.Core.machine c.one_turn.new.self)
          (subst (λ e. ComesToEvent g.C.Core.set c.args.starts c.args.code.now.program c.args.budget point before e (thread_in g.C.Core.machine c.one_turn.new.self)) (c.in-Turns.is ∙ ap event.Turns c.in-Asks.is)
          (comes_to g.C.Core.set c.args.starts c.args.budget c.in-Some.event (thread_in g.C.Core.machine c.args.self.now) (thread_in g.C.Core.machine c.one_turn.new.self) c.image-image.ensures c.in-Some.ensures.comes point before come)).1 c.in-Store.is,
    ),
  ),
)
