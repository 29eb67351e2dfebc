-- The first word that is barred, by the words before it.
use Rattle.std.proofs.Common.{◌≡◌, ℕ, zero, suc, ◌+◌, ◌*◌, ◌-◌, ◌%◌, ◌^◌, ◌<◌, Bool, None, arith, refl, ◌∙◌, ap}
use Rattle.llsc_base.specs.Images.{Program, bar_of, first_barred, or_later, word_place}

-- no word is barred of none
pub barred_none : (program : Program) (store : Bool) (addr count : ℕ) → count ≡ 0 → first_barred program store addr count ≡ None
unfolding first_barred
barred_none program store addr zero e = refl
barred_none program store addr (suc count) e = absurd (omega (arith, e))

-- the first of some words, and the others
pub barred_step : (program : Program) (store : Bool) (addr count i : ℕ) → i < count
    → first_barred program store (addr + 4 * i) (count - i) ≡ or_later ((addr + 4 * i) % 2 ^ 32) (bar_of program (word_place (addr + 4 * i)) store) (first_barred program store (addr + 4 * (i + 1)) (count - (i + 1)))
unfolding first_barred
barred_step program store addr count i less =
    let split : count - i ≡ suc (count - (i + 1)) = omega (arith, less) in
    let next : addr + 4 * i + 4 ≡ addr + 4 * (i + 1) = omega arith in
    ap (first_barred program store (addr + 4 * i)) split
    ∙ ap (λ (a : ℕ). or_later ((addr + 4 * i) % 2 ^ 32) (bar_of program (word_place (addr + 4 * i)) store) (first_barred program store a (count - (i + 1)))) next
