use Rattle.std.proofs.Common.{ℕ, ◌≡◌, ◌∙◌, ◌≤◌, ◌<◌, List, Option, None, IsTrue, get_or, length, replicate, slice_index, sum_by, refl, sym, ap, subst, arith}
use Rattle.std.proofs.lemmas.List.{length-replicate}
use Rattle.std.specs.List.{count_by}
use Rattle.std.specs.Int.{is_power_of_two}
use Rattle.std.proofs.lemmas.Option.{slice_get_within}
use Rattle.llsc_base.proofs.Cells.{class_of-lt}
use Rattle.shared_memory.proofs.FirstWords.{some-class}
use Rattle.version_memory.specs.Memory.{pass_seen}
use Rattle.run_merge.specs.inner.Filling.{AreSmall, IsStack}
use Rattle.run_merge.specs.inner.Tables.{class_at, is_read_at}
use Rattle.run_merge.specs.Taking.{row_at}
use Rattle.run_merge.specs.declared.logs.Log.{Log}
use Rattle.run_merge.specs.declared.logs.Stamped.{Stamped}
use Rattle.run_merge.specs.declared.merging.Merging.{Merging}
use Rattle.run_merge.proofs.Filled.{begun_is, log_short, small_log}
use Rattle.run_merge.proofs.filling.begun.Goals as goal

pub widths_of-widths-requires-clause-small : goal.widths_of-widths-requires-clause-small
widths_of-widths-requires-clause-small c = λ t log at.
    subst AreSmall (sym (c.requires.logs.each t log at)) (small_log c.args.size.now (pass_seen c.args.pass.now) t c.requires.few)

pub counts_of-left-requires-clause-spots : goal.counts_of-left-requires-clause-spots
counts_of-left-requires-clause-spots c t log at i d less =
    let size = c.args.size.now in
    let one = get_or log.entries.items i d in
    let class = class_at size one in
    let some = some-class size.classes (subst (λ n. IsTrue (is_power_of_two n)) c.classes-classes.ensures.number c.classes-classes.ensures.power) in
    let known : class < length c.widths_of-widths.result.items = omega (arith, class_of-lt size.classes (row_at size one) some, c.widths_of-widths.ensures.len) in
    let inside = c.stacked-base.ensures.stack.within class known in
    omega (
      arith,
      inside,
      c.widths_of-widths.ensures.wide t log at i d less less,
      ap (λ b. slice_index b class) c.as_slice.ensures.value,
      ap length (c.in_ok-none.ensures.items_if_clones_equal (λ y is. is)),
      length-replicate {A = ℕ} c.stacked-base.result.1 0,
    )

pub counts_of-left-requires-clause-short : goal.counts_of-left-requires-clause-short
counts_of-left-requires-clause-short c = λ t log at.
    let inside : t < length c.args.logs.now = slice_get_within c.args.logs.now t log at in
    let short = log_short c.args.size.now (pass_seen c.args.pass.now) c.requires.known c.requires.few t (omega (arith, inside, c.requires.logs.many)) in
    subst (λ (l : List Stamped). length l ≤ 1000000) (sym (c.requires.logs.each t log at)) short

pub returns : goal.returns
returns c =
    let size = c.args.size.now in
    let seen = pass_seen c.args.pass.now in
    let logs = c.args.logs.now in
    let widths = c.widths_of-widths.result.items in
    let bases = c.stacked-base.result.0.items in
    let end = c.stacked-base.result.1 in
    let some = some-class size.classes (subst (λ n. IsTrue (is_power_of_two n)) c.classes-classes.ensures.number c.classes-classes.ensures.power) in
    let stack : IsStack widths size.classes bases end = subst (λ n. IsStack widths n bases end) c.widths_of-widths.ensures.len c.stacked-base.ensures.stack in
    let m : Merging = record { at = c.in_ok-at.at; base = c.stacked-base.result.0; left = c.counts_of-left.result; count = c.in_ok-count.count; reservations = c.in_ok-reservations.reservations; out = c.in_ok-out.out } in
    begun_is size seen logs c.requires.logs c.requires.known widths bases end some c.widths_of-widths.ensures.wide stack m
    c.in_ok-out.ensures.items refl (c.stacked-base.ensures.len ∙ c.widths_of-widths.ensures.len)
    (c.counts_of-left.ensures.len ∙ ap length (c.in_ok-none.ensures.items_if_clones_equal (λ y is. is)) ∙ length-replicate end 0)
    (λ k. subst (λ b. slice_index c.counts_of-left.result.items k ≡ sum_by (λ (log : Log). count_by (is_read_at size b k) log.entries.items) logs) c.as_slice.ensures.value (c.counts_of-left.ensures.left k))
    (c.in_ok-count.ensures.items_if_clones_equal (λ y is. is) ∙ ap (λ n. replicate n 0) c.classes-classes.ensures.number)
    (c.in_ok-at.ensures.items_if_clones_equal (λ y is. is) ∙ ap (λ n. replicate n 0) c.threads-threads.ensures.number)
    (ap length c.in_ok-reservations.ensures ∙ length-replicate {A = Option Stamped} _ None ∙ c.threads-threads.ensures.number)
