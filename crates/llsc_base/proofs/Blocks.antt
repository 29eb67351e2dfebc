-- A block that passes the tests as one piece, and its words.
use Rattle.std.proofs.Common.{◌≡◌, ℕ, zero, suc, ◌+◌, ◌*◌, ◌%◌, ◌^◌, ◌≤◌, Bool, true, false, None, List, [], ◌∷◌, length, nat_lt, max, min, not, ◌&&◌, arith, refl, ap, ◌∙◌, eq-eqb}
use Rattle.std.proofs.lemmas.Bool.{or_from, or_parts}
use Rattle.llsc_base.specs.Memory.{is_aligned}
use Rattle.llsc_base.specs.Images.{Program, bar_of, first_barred, or_later, touches_read_only, word_place}
use Rattle.llsc_base.proofs.Bars.{bar_of-none}
use Rattle.llsc_base.specs.declared.images.Span.{Span}

-- a span that some addresses don't touch isn't touched by fewer of them
span_apart : (write : Bool) (start end from to low high : ℕ) → from ≤ low → high ≤ to
    → (not write && nat_lt (max start from) (min end to)) ≡ false → (not write && nat_lt (max start low) (min end high)) ≡ false
span_apart true start end from to low high above below apart = refl
span_apart false start end from to low high above below apart = grind arith

-- addresses that touch no span that isn't written, and fewer of them
pub touches_read_only-part : (spans : List Span) (from to low high : ℕ) → from ≤ low → high ≤ to
    → touches_read_only spans from to ≡ false → touches_read_only spans low high ≡ false
touches_read_only-part [] from to low high above below apart = refl
touches_read_only-part (span ∷ spans) from to low high above below apart =
    let both = or_parts _ _ apart in
    or_from _ _ (span_apart span.write span.start span.end from to low high above below both.0)
    (touches_read_only-part spans from to low high above below both.1)

-- as above, where only a store is tested
kept_part : (store : Bool) (spans : List Span) (from to low high : ℕ) → from ≤ low → high ≤ to
    → (store && touches_read_only spans from to) ≡ false → (store && touches_read_only spans low high) ≡ false
kept_part true spans from to low high above below apart = touches_read_only-part spans from to low high above below apart
kept_part false spans from to low high above below apart = refl

-- nothing stands against a word that lies in a block that passes
word_passes : (program : Program) (store : Bool) (addr end : ℕ)
    → addr % 4 ≡ 0 → addr + 4 ≤ end → end ≤ length program.bytes → end ≤ 2 ^ 32
    → (store && touches_read_only program.spans addr end) ≡ false
    → bar_of program (word_place addr) store ≡ None
word_passes program store addr end aligned within inside below apart =
    let here : addr % 2 ^ 32 ≡ addr = omega (arith, within, below) in
    let straight : is_aligned (word_place addr) ≡ true = rw here (eq-eqb _ _ aligned) in
    let ends : addr % 2 ^ 32 + 4 ≤ length program.bytes = rw here (omega (arith, within, inside)) in
    let kept : (store && touches_read_only program.spans (addr % 2 ^ 32) (addr % 2 ^ 32 + 4)) ≡ false =
    rw here (kept_part store program.spans addr end addr (addr + 4) (omega arith) within apart) in
    bar_of-none program (word_place addr) store straight ends kept

-- no word is barred of a block that is aligned, lies in memory and touches no span that isn't written
pub block_passes : (program : Program) (store : Bool) (addr count : ℕ)
    → addr % 4 ≡ 0 → addr + 4 * count ≤ length program.bytes → addr + 4 * count ≤ 2 ^ 32
    → (store && touches_read_only program.spans addr (addr + 4 * count)) ≡ false
    → first_barred program store addr count ≡ None
unfolding first_barred
block_passes program store addr zero aligned inside below apart = refl
block_passes program store addr (suc count) aligned inside below apart =
    let end : addr + 4 * suc count ≡ addr + 4 + 4 * count = omega arith in
    let next : (addr + 4) % 4 ≡ 0 = omega (arith, aligned) in
    let rest : first_barred program store (addr + 4) count ≡ None =
    block_passes program store (addr + 4) count next (rw end at inside) (rw end at below)
    (kept_part store program.spans addr (addr + 4 * suc count) (addr + 4) (addr + 4 + 4 * count) (omega arith) (omega arith) apart) in
    let word : bar_of program (word_place addr) store ≡ None =
    word_passes program store addr (addr + 4 * suc count) aligned (omega arith) inside below apart in
    ap (λ bar. or_later (addr % 2 ^ 32) bar (first_barred program store (addr + 4) count)) word ∙ rest
