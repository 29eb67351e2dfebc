-- What is kept of a program, from an address on and in the slots of its pages.
use Rattle.std.proofs.Common.{◌≡◌, ◌+◌, ◌*◌, ◌/◌, ◌%◌, ◌<◌, ◌≤◌, ◌-◌, ◌^◌, ℕ, zero, suc, Bool, true, false, List, [], ◌∷◌, Result, Ok, length, get_or, set, slice_index, take, drop, length-take, length-drop, get_or-take, get_or-drop, get_or-set_same, get_or-set_other, length-set, ◌≢◌, ⊎_elim, arith, subst, sym, ap, refl, ◌∙◌}
use Rattle.std.proofs.lemmas.Bool.{cases_eq, false≢true}
use Rattle.llsc_base.specs.Images.{Program}
use Rattle.llsc_base.specs.Words.{low32}
use Rattle.llsc_base.specs.declared.outside.Stop.{Stop}
use Rattle.guest_core.specs.Paged.{AreRightIn, IsInstrAt}
use Rattle.guest_core.specs.Known.{AreRightFrom, EndsUnmet, IsRightAt}

not_met : (b : Bool) → (b ≡ true → ⊥) → b ≡ false
not_met true never = absurd (never refl)
not_met false _ = refl

-- the last of them wasn't met
pub ends_by_last : {R : Type 0} (is_met : R → Bool) (last : ℕ) (all : List R) → suc last ≡ length all
    → ((d : R) → is_met (get_or all last d) ≡ true → ⊥) → EndsUnmet is_met all
ends_by_last is_met last [] is unmet = absurd (omega (arith, is))
ends_by_last is_met zero (one ∷ []) is unmet = not_met (is_met one) (unmet one)
ends_by_last is_met (suc last) (one ∷ []) is unmet = absurd (omega (arith, is))
ends_by_last is_met zero (one ∷ next ∷ rest) is unmet = absurd (omega (arith, is))
ends_by_last is_met (suc last) (one ∷ next ∷ rest) is unmet = ends_by_last is_met last (next ∷ rest) (omega (arith, is)) unmet

-- behind one that was met there are more
pub ends_behind : {R : Type 0} (is_met : R → Bool) (one : R) (rest : List R) → is_met one ≡ true → EndsUnmet is_met (one ∷ rest) → EndsUnmet is_met rest
ends_behind is_met one [] met ends = absurd (false≢true (sym ends ∙ met))
ends_behind is_met one (next ∷ rest) met ends = ends

module _ {R : Type 0} (is_met : R → Bool) where
  -- what was met is what was kept before, and isn't between two places
  pub record IsAsBefore (old new : List R) (from upto at : ℕ) (d : R) : Type 0 where
    pub same : get_or new at d ≡ get_or old at d
    pub apart : from ≤ at → upto ≤ at

  abbrev pub AreAsBefore : List R → List R → ℕ → ℕ → Type 0
  AreAsBefore old new from upto = (at : ℕ) (d : R) → is_met (get_or new at d) ≡ true → IsAsBefore old new from upto at d

  pub one_cleared : (old new : List R) (from upto : ℕ) (unmet : R) → is_met unmet ≡ false → upto < length new → AreAsBefore old new from upto → AreAsBefore old (set new upto unmet) from (upto + 1)
  one_cleared old new from upto unmet never low before at d met = ⊎_elim
      (λ is.
      let same : get_or (set new upto unmet) at d ≡ unmet = ap (λ k. get_or (set new upto unmet) k d) is ∙ get_or-set_same new upto unmet d low in
      absurd (false≢true (sym never ∙ subst (λ (r : R). is_met r ≡ true) same met)))
      (λ other.
      let same : get_or (set new upto unmet) at d ≡ get_or new at d = get_or-set_other new upto at unmet d other in
      let was = before at d (subst (λ (r : R). is_met r ≡ true) same met) in
      record { same = same ∙ was.same; apart = λ above. let after = was.apart above in omega (arith, after, other) })
      (cases_eq at upto)

module _ {I R : Type 0} (is_met : R → Bool) (found : Program → ℕ → Result I Stop) (instr_of : R → I) (is_right : R → Type 0) (program : Program) where
  -- they are right from an address on if each is right at its own
  pub right_by_each : (addr : ℕ) (all : List R) → addr < 2 ^ 32
      → ((at : ℕ) (d : R) → at < length all → IsRightAt is_met found instr_of is_right program (low32 (addr + 4 * at)) (get_or all at d))
      → AreRightFrom is_met found instr_of is_right program addr all
  right_by_each addr [] small each = tt
  right_by_each addr (one ∷ rest) small each =
      let first : low32 (addr + 4 * 0) ≡ addr = omega (arith, small) in (
        subst (λ a. IsRightAt is_met found instr_of is_right program a one) first (each 0 one (omega arith)),
        right_by_each (low32 (addr + 4)) rest (omega arith) (λ at d below.
            let there : low32 (addr + 4 * suc at) ≡ low32 (low32 (addr + 4) + 4 * at) = omega arith in
            subst (λ a. IsRightAt is_met found instr_of is_right program a (get_or rest at d)) there (each (suc at) d (omega (arith, below)))),
      )

  -- what a slot keeps from the place of an address on, where it has the page of that
  module _ (numbers : List ℕ) (all : List R) (addr slot from : ℕ) (many : length all ≡ 4112) (each : AreRightIn is_met found instr_of is_right program numbers all)
      (is_slot : slot ≡ addr / 1024 % 16) (is_from : from ≡ addr / 4 % 4096 + slot) where
    part : List R
    part = take (slot * 257 + 257 - from) (drop from all)

    -- the place in the slot is that in the page
    in_slot : from ≡ slot * 257 + addr / 4 % 256
    in_slot = omega (arith, is_slot, is_from)

    part_length : length part ≡ 257 - addr / 4 % 256
    unfolding part
    part_length = simp (length-take, length-drop) (omega (arith, in_slot, many, is_slot))

    part_met : (at : ℕ) (d : R) → at < 257 - addr / 4 % 256 → is_met (get_or part at d) ≡ true
        → IsInstrAt is_met found instr_of is_right program numbers (from + at) (get_or part at d)
    unfolding part
    part_met at d below met =
        let same : get_or (take (slot * 257 + 257 - from) (drop from all)) at d ≡ get_or all (from + at) d =
        get_or-take (slot * 257 + 257 - from) (drop from all) at d (omega (arith, below, in_slot)) ∙ get_or-drop from all at d in
        subst (λ (r : R). IsInstrAt is_met found instr_of is_right program numbers (from + at) r) (sym same)
        (each (from + at) d (omega (arith, below, many, is_slot, in_slot)) (subst (λ (r : R). is_met r ≡ true) same met))

    pub part_right : addr < 2 ^ 32 → addr % 4 ≡ 0 → slice_index numbers slot ≡ addr / 1024
        → AreRightFrom is_met found instr_of is_right program addr (take (slot * 257 + 257 - from) (drop from all))
    unfolding part
    part_right small aligned known = right_by_each addr part small (λ at d below met.
        let under : at < 257 - addr / 4 % 256 = omega (arith, below, part_length) in
        let one = part_met at d under met in
        let of_place : (from + at) % 257 ≡ addr / 4 % 256 + at = omega (arith, in_slot, under) in
        let of_slot : (from + at) / 257 ≡ slot = omega (arith, in_slot, under) in
        let number : slice_index numbers ((from + at) / 257) ≡ addr / 1024 = ap (slice_index numbers) of_slot ∙ known in
        let inside : addr / 4 % 256 + at < 256 = omega (arith, one.inside, of_place) in
        let there : 1024 * slice_index numbers ((from + at) / 257) + 4 * ((from + at) % 257) ≡ low32 (addr + 4 * at) =
        omega (arith, number, of_place, small, aligned, inside) in
        (subst (λ a. found program a ≡ Ok (instr_of (get_or part at d))) there one.means, one.right))

    pub part_ends : EndsUnmet is_met (take (slot * 257 + 257 - from) (drop from all))
    unfolding part
    part_ends = ends_by_last is_met (256 - addr / 4 % 256) part (omega (arith, part_length)) (λ d met.
        let one = part_met (256 - addr / 4 % 256) d (omega arith) met in
        absurd (omega (arith, one.inside, in_slot)))

  -- ---- one more is kept

  pub right_set : (numbers : List ℕ) (all : List R) (addr : ℕ) (ready : R) → length all ≡ 4112 → addr % 4 ≡ 0 → slice_index numbers (addr / 1024 % 16) ≡ addr / 1024
      → AreRightIn is_met found instr_of is_right program numbers all → IsRightAt is_met found instr_of is_right program addr ready
      → AreRightIn is_met found instr_of is_right program numbers (set all (addr / 1024 % 16 * 257 + addr / 4 % 256) ready)
  right_set numbers all addr ready many aligned number each right at d below met =
      let here : ℕ = addr / 1024 % 16 * 257 + addr / 4 % 256 in
      let under : at < length all = omega (arith, below, length-set all here ready) in ⊎_elim
      (λ is.
      let low : here < length all = omega (arith, many) in
      let same : get_or (set all here ready) at d ≡ ready = ap (λ k. get_or (set all here ready) k d) is ∙ get_or-set_same all here ready d low in
      let shown = right (subst (λ (r : R). is_met r ≡ true) same met) in
      let of_slot : at / 257 ≡ addr / 1024 % 16 = omega (arith, is) in
      let numbered : slice_index numbers (at / 257) ≡ addr / 1024 = ap (slice_index numbers) of_slot ∙ number in
      let of_place : at % 257 ≡ addr / 4 % 256 = omega (arith, is) in
      let there : addr ≡ 1024 * slice_index numbers (at / 257) + 4 * (at % 257) = omega (arith, numbered, of_place, aligned) in
      subst (λ (r : R). IsInstrAt is_met found instr_of is_right program numbers at r) (sym same) (record {
        inside = omega (arith, of_place);
        means = subst (λ a. found program a ≡ Ok (instr_of ready)) there shown.0;
        right = shown.1;
      }))
      (λ other.
      let same : get_or (set all here ready) at d ≡ get_or all at d = get_or-set_other all here at ready d other in
      subst (λ (r : R). IsInstrAt is_met found instr_of is_right program numbers at r) (sym same) (each at d under (subst (λ (r : R). is_met r ≡ true) same met)))
      (cases_eq at here)

  -- ---- a slot is cleared

  pub right_cleared : (numbers : List ℕ) (old new : List R) (slot number : ℕ) → length new ≡ length old → AreAsBefore is_met old new (slot * 257) (slot * 257 + 257)
      → AreRightIn is_met found instr_of is_right program numbers old → AreRightIn is_met found instr_of is_right program (set numbers slot number) new
  right_cleared numbers old new slot number long before each at d below met =
      let was = before at d met in
      let one = each at d (omega (arith, below, long)) (subst (λ (r : R). is_met r ≡ true) was.same met) in
      let other : at / 257 ≢ slot = λ is. let after = was.apart (omega (arith, is)) in absurd (omega (arith, is, after)) in
      subst (λ (r : R). IsInstrAt is_met found instr_of is_right program (set numbers slot number) at r) (sym was.same) (record {
        inside = one.inside;
        means = subst (λ n. found program (1024 * n + 4 * (at % 257)) ≡ Ok (instr_of (get_or old at d))) (sym (get_or-set_other numbers slot (at / 257) number 0 other)) one.means;
        right = one.right;
      })
