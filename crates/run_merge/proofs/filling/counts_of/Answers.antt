use Rattle.std.proofs.Common.{◌≡◌, ◌∙◌, ◌<◌, ◌+◌, ℕ, Some, get_or, slice_get, length, take, slice_index, sum_by, refl, sym, ap, arith}
use Rattle.std.specs.List.{count_by}
use Rattle.std.proofs.lemmas.Option.{slice_get_read}
use Rattle.std.proofs.lemmas.List.Sums.{count_by-le-length, sum_by_more}
use Rattle.run_merge.specs.inner.Tables.{is_read_at}
use Rattle.run_merge.specs.declared.logs.Log.{Log}
use Rattle.run_merge.proofs.filling.counts_of.Goals as goal

pub loop-t-preserved : goal.loop-t-preserved
loop-t-preserved c =
    let inv = c.loop-t.invariant in
    let t = c.loop-t.t in
    let logs = c.args.logs.now in
    let log = c.index-logs-t.result in
    let inside : t < length logs = omega (arith, c.loop-t-test.true) in
    let got : log ≡ get_or logs t log = c.index-logs-t.is in
    let at : slice_get logs t ≡ Some log = slice_get_read logs (length logs) t log refl inside got in
    let reads_at : ℕ → Log → ℕ = λ k log. count_by (is_read_at c.args.size.now c.args.base.now k) log.entries.items in
    let here : (k : ℕ) → slice_index c.counted-left.result.items k ≡ slice_index c.loop-t.left.items k + reads_at k log =
    λ k. c.counted-left.ensures.left k ∙ ap (λ l. slice_index c.loop-t.left.items k + count_by (is_read_at c.args.size.now c.args.base.now k) l) (c.as_slice.ensures.value ∙ ap (λ (l : Log). l.entries.items) (sym got)) in
    record {
      len = c.counted-left.ensures.len ∙ inv.len;
      left = λ k. here k ∙ ap (λ n. n + reads_at k log) (inv.left k) ∙ ap (λ l. sum_by (reads_at k) (take t logs) + reads_at k l) got ∙ sym (sum_by_more (reads_at k) logs t log inside);
      few = λ k. omega (arith, here k, inv.few k, count_by-le-length (is_read_at c.args.size.now c.args.base.now k) log.entries.items, c.requires.short t log at);
    }
