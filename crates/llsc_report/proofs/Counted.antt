-- The lines and the sum of the first counters.
use Rattle.std.proofs.Common.{◌≡◌, ℕ, zero, suc, ◌+◌, ◌*◌, ◌<◌, ◌≤◌, [], ◌++◌, refl, sym, ◌∙◌, ap, arith}
use Rattle.std.specs.List.{range_with_len, sum_by}
use Rattle.std.proofs.lemmas.List.Sums.{sum_by_push}
use Rattle.llsc_host.specs.Writes.{Broke}
use Rattle.llsc_host.specs.declared.host.Host.{Ghosts}
use Rattle.llsc_report.specs.Summary.{counter_line, counter_lines, load_line, load_summary, summary_by, total_line, total_of}
use Rattle.guest_gen.specs.Namings.{namings_of}
use Rattle.guest_gen.proofs.Totals.{all_namings}
use Rattle.llsc_host.proofs.FirstTexts.{range_more, texts_broke, texts_more}

pub no_lines : (held : ℕ → ℕ) → counter_lines held 0 ≡ []
unfolding counter_lines
no_lines held = refl

-- the line of one counter more
pub counters_more : (held : ℕ → ℕ) (i : ℕ) → counter_lines held (i + 1) ≡ counter_lines held i ++ counter_line i (held i)
unfolding counter_lines
counters_more held i = texts_more (λ k. counter_line k (held k)) i

-- the first lines cut short are all lines cut short
pub counters_broke : {S : Type 0} (host : Ghosts S) (held : ℕ → ℕ) (i n : ℕ) (old new : S) → i ≤ n → Broke host old new (counter_lines held i) → Broke host old new (counter_lines held n)
unfolding counter_lines
counters_broke host held i n old new less broke = texts_broke host (λ k. counter_line k (held k)) i n old new less broke

pub no_total : (held : ℕ → ℕ) → total_of held 0 ≡ 0
unfolding total_of
no_total held = refl

-- one counter more is summed up
pub total_more : (held : ℕ → ℕ) (i : ℕ) → total_of held (i + 1) ≡ total_of held i + held i
unfolding total_of
total_more held i = ap (sum_by held) (range_more i) ∙ sum_by_push held (range_with_len 0 i) i

-- Counters that hold the same are shown alike.

lines_same : (one two : ℕ → ℕ) (n : ℕ) → ((i : ℕ) → i < n → one i ≡ two i) → counter_lines one n ≡ counter_lines two n
lines_same one two zero same = no_lines one ∙ sym (no_lines two)
lines_same one two (suc n) same =
    let more : suc n ≡ n + 1 = omega arith in
    let before : counter_lines one n ≡ counter_lines two n = lines_same one two n (λ i below. same i (omega arith)) in
    ap (counter_lines one) more ∙ counters_more one n ∙ ap (λ t. t ++ counter_line n (one n)) before
    ∙ ap (λ v. counter_lines two n ++ counter_line n v) (same n (omega arith)) ∙ sym (counters_more two n) ∙ ap (counter_lines two) (sym more)

total_same : (one two : ℕ → ℕ) (n : ℕ) → ((i : ℕ) → i < n → one i ≡ two i) → total_of one n ≡ total_of two n
total_same one two zero same = no_total one ∙ sym (no_total two)
total_same one two (suc n) same =
    let more : suc n ≡ n + 1 = omega arith in
    let before : total_of one n ≡ total_of two n = total_same one two n (λ i below. same i (omega arith)) in
    ap (total_of one) more ∙ total_more one n ∙ ap (λ t. t + one n) before
    ∙ ap (λ v. total_of two n + v) (same n (omega arith)) ∙ sym (total_more two n) ∙ ap (total_of two) (sym more)

pub summary_same : (seed threads rounds : ℕ) (one two : ℕ → ℕ) → ((i : ℕ) → i < 16 → one i ≡ two i)
    → summary_by seed threads rounds one ≡ summary_by seed threads rounds two
summary_same seed threads rounds one two same =
    let lines : counter_lines one 16 ≡ counter_lines two 16 = lines_same one two 16 same in
    let total : total_of one 16 ≡ total_of two 16 = total_same one two 16 same in
    rw (lines, total) refl

total-namings : (seed threads rounds : ℕ) → total_of (namings_of seed threads rounds) 16 ≡ threads * rounds
unfolding total_of
total-namings seed threads rounds = all_namings seed threads rounds

-- the summary of counters that hold their namings
pub summary_named : (seed threads rounds : ℕ) (held : ℕ → ℕ) → ((i : ℕ) → i < 16 → held i ≡ namings_of seed threads rounds i)
    → summary_by seed threads rounds held ≡ load_summary seed threads rounds
summary_named seed threads rounds held same =
    summary_same seed threads rounds held (namings_of seed threads rounds) same
    ∙ ap (λ n. load_line seed threads rounds ++ (counter_lines (namings_of seed threads rounds) 16 ++ total_line n)) (total-namings seed threads rounds)
