use Rattle.std.proofs.Common.{ℕ, false, true, inl, inr, subst}
use Rattle.std.proofs.lemmas.Bool.{OnFalse_at, OnFalse_from, OnTrue_at, OnTrue_from}
use Rattle.history.specs.Operation.{entries_of_operation, fail, store}
use Rattle.history.specs.declared.entry.Cause.TheVariants.{Absent, Lost}
use Rattle.hst_memory.specs.Exact.{IsExact}
use Rattle.hst_memory.specs.Kept.{origin_of}
use Rattle.hst_memory.proofs.Betweens.{lead-held, sees-goes}
use Rattle.hst_memory.proofs.calls.HstMemorySharedMemory.store_ex.Goals as goal

pub returns-then-ne-clause-failed : goal.returns-then-ne-clause-failed
returns-then-ne-clause-failed g c t single =
    let pass = c.args.pass.now in
    let target = c.target-target.result in (
      Absent,
      rw (← c.target-target.ensures.place, ← c.target-target.ensures.value)
          (sees-goes (origin_of c.args.self.now.table.shared.key) pass.seat.me c.fail_absent.new.seat.me pass.has pass.number pass.reserved t
          (λ (u : ℕ). entries_of_operation u (fail target.place target.value Absent)) _ pass.between single c.fail_absent.ensures.goes),
    )

pub returns-then-ne-clause-exact : goal.returns-then-ne-clause-exact
returns-then-ne-clause-exact g c t single =
    let pass = c.args.pass.now in
    let target = c.target-target.result in
    rw (← c.target-target.ensures.place, ← c.target-target.ensures.value)
    (subst (λ (u : ℕ). IsExact c.args.self.now.table.shared.key.size u target.place target.value false pass.seat.me.0.seen c.fail_absent.new.seat.me.0.seen)
    (single.only pass.seat.me.0.lead (lead-held pass.seat.me pass.has pass.number pass.reserved pass.between)) c.fail_absent.ensures.exact)

pub returns-then-ne-clause-causes : goal.returns-then-ne-clause-causes
returns-then-ne-clause-causes g c t single =
    let pass = c.args.pass.now in
    let target = c.target-target.result in
    inl (rw (← c.target-target.ensures.place, ← c.target-target.ensures.value)
    (sees-goes (origin_of c.args.self.now.table.shared.key) pass.seat.me c.fail_absent.new.seat.me pass.has pass.number pass.reserved t
    (λ (u : ℕ). entries_of_operation u (fail target.place target.value Absent)) _ pass.between single c.fail_absent.ensures.goes))

pub returns-clause-done : goal.returns-clause-done
returns-clause-done g c =
    let pass = c.args.pass.now in
    let target = c.target-target.result in
    OnTrue_from c.store_ex_cell.result _ (λ is t single. rw (← c.target-target.ensures.place, ← c.target-target.ensures.value)
    (sees-goes (origin_of c.args.self.now.table.shared.key) pass.seat.me c.store_ex_cell.new.seat.me pass.has pass.number pass.reserved t
    (λ (u : ℕ). entries_of_operation u (store target.place target.value true)) _ pass.between single (OnTrue_at is c.store_ex_cell.ensures.done)))

pub returns-clause-failed : goal.returns-clause-failed
returns-clause-failed g c =
    let pass = c.args.pass.now in
    let target = c.target-target.result in
    OnFalse_from c.store_ex_cell.result _ (λ is t single. (
      Lost,
      rw (← c.target-target.ensures.place, ← c.target-target.ensures.value)
          (sees-goes (origin_of c.args.self.now.table.shared.key) pass.seat.me c.store_ex_cell.new.seat.me pass.has pass.number pass.reserved t
          (λ (u : ℕ). entries_of_operation u (fail target.place target.value Lost)) _ pass.between single (OnFalse_at is c.store_ex_cell.ensures.failed)),
    ))

pub returns-clause-exact : goal.returns-clause-exact
returns-clause-exact g c t single =
    let pass = c.args.pass.now in
    let target = c.target-target.result in
    rw (← c.target-target.ensures.place, ← c.target-target.ensures.value)
    (subst (λ (u : ℕ). IsExact c.args.self.now.table.shared.key.size u target.place target.value c.store_ex_cell.result pass.seat.me.0.seen c.store_ex_cell.new.seat.me.0.seen)
    (single.only pass.seat.me.0.lead (lead-held pass.seat.me pass.has pass.number pass.reserved pass.between)) c.store_ex_cell.ensures.exact)

pub returns-clause-causes : goal.returns-clause-causes
returns-clause-causes g c =
    let pass = c.args.pass.now in
    let target = c.target-target.result in
    OnFalse_from c.store_ex_cell.result _ (λ is t single. inr (rw (← c.target-target.ensures.place, ← c.target-target.ensures.value)
    (sees-goes (origin_of c.args.self.now.table.shared.key) pass.seat.me c.store_ex_cell.new.seat.me pass.has pass.number pass.reserved t
    (λ (u : ℕ). entries_of_operation u (fail target.place target.value Lost)) _ pass.between single (OnFalse_at is c.store_ex_cell.ensures.failed))))
