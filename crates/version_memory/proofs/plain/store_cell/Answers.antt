use Rattle.std.proofs.Common.{ℕ, Option, None, Some, IfSome, refl}
use Rattle.version_rule.specs.Kept.{origin_of}
use Rattle.shared_memory.proofs.Waits.{waits-more, waits-not}
use Rattle.version_memory.proofs.Waited.{none-waits, stored-waits}
use Rattle.version_memory.proofs.plain.store_cell.Goals as goal

pub returns-in-Done-clause-done : goal.returns-in-Done-clause-done
returns-in-Done-clause-done g c = c.in-Done.ensures.done c.in-Done.stamp refl

pub returns-in-Waits-clause-spent : goal.returns-in-Waits-clause-spent
returns-in-Waits-clause-spent g c is =
    let spent = c.store_later.ensures.spent is in (
      none-waits (origin_of c.args.shared.now.key) c.args.seat.now.me c.try_store.new.seat.me c.store_later.new.seat.me
          (waits-more (origin_of c.args.shared.now.key) c.args.seat.now.me c.args.seat.now.me c.try_store.new.seat.me (waits-not c.args.seat.now.me) (c.in-Waits.ensures.waits refl)) spent.0,
      spent.1,
    )

some_on : {P Q : ℕ → Type 0} (o : Option ℕ) → ((n : ℕ) → P n → Q n) → IfSome o P → IfSome o Q
some_on None f held = tt
some_on (Some n) f held = f n held

pub returns-in-Waits-clause-done : goal.returns-in-Waits-clause-done
returns-in-Waits-clause-done g c = some_on c.store_later.result
    (λ (stamp : ℕ). stored-waits (origin_of c.args.shared.now.key) c.args.seat.now.me c.try_store.new.seat.me c.store_later.new.seat.me
    (waits-more (origin_of c.args.shared.now.key) c.args.seat.now.me c.args.seat.now.me c.try_store.new.seat.me (waits-not c.args.seat.now.me) (c.in-Waits.ensures.waits refl))
    c.args.target.place c.args.target.value stamp)
    c.store_later.ensures.done
