-- Where there is one thread, each turn is its own, whatever the numbers are.
use Rattle.std.proofs.Common.{◌≡◌, ◌⊎◌, ℕ, ◌/◌, ◌%◌, ◌^◌, List, [], ◌∷◌, Some, None, slice_get, sym, ◌∙◌, ap, inl, inr, arith}
use Rattle.std.specs.List.{range_with_len}
use Rattle.llsc_base.specs.Images.{Program}
use Rattle.llsc_base.specs.Sizes.{Numbers}
use Rattle.history.specs.declared.entry.Access.{Access}
use Rattle.guest_machine.specs.Turns.{drawn, turn_of, without, Takes, begins, makes, stops, IsTrace}
use Rattle.guest_core.specs.Machine.{InstructionSet}

-- thread 0 alone, or nobody
abbrev pub IsOneOrNone : List ℕ → Type 0
IsOneOrNone live = (live ≡ 0 ∷ []) ⊎ (live ≡ [])

pub only : (x : ℕ) → turn_of x (0 ∷ []) ≡ Some 0
only x = ap (λ k. slice_get (0 ∷ []) k) (let first : x / 2 ^ 33 % 1 ≡ 0 = omega arith in first)

some_same : (t other : ℕ) → Some t ≡ Some other → t ≡ other
some_same t other same = cc

-- whose turn it is by one number, it is by any other
pub same_turn : (x y t : ℕ) (live : List ℕ) → IsOneOrNone live → turn_of x live ≡ Some t → (turn_of y live ≡ Some t) × (t ≡ 0)
same_turn x y t live (inl one) turn =
    let zero_t : t ≡ 0 = some_same t 0 (sym turn ∙ ap (turn_of x) one ∙ only x) in
    (ap (turn_of y) one ∙ only y ∙ ap Some (sym zero_t), zero_t)
same_turn x y t live (inr none) turn = absurd (let h : None ≡ Some t = ap (turn_of x) (sym none) ∙ turn in let f : ⊥ = cc in f)

-- with the one taken out there is nobody
alone_without : (t : ℕ) (live : List ℕ) → IsOneOrNone live → t ≡ 0 → IsOneOrNone (without t live)
alone_without t live (inl one) same = inr (ap (without t) one ∙ ap (λ u. without u (0 ∷ [])) same)
alone_without t live (inr none) same = inr (ap (without t) none)

module _ {I S : Type 0} (set : InstructionSet I S) where
  -- the same turns from another number
  pub record FromAny (program : Program) (size : Numbers) (seed budget : ℕ) (live : List ℕ) (accesses : List Access) : Type 0 where
    pub alone : IsOneOrNone live
    pub number : ℕ
    pub takes : Takes set program size seed budget number live accesses

  pub from_any : (program : Program) (size : Numbers) (seed other budget x : ℕ) (live : List ℕ) (accesses : List Access) → size.threads ≡ 1
      → Takes set program size seed budget x live accesses → FromAny program size other budget live accesses
  from_any program size seed other budget _ _ _ one begins = record {
    alone = inl (ap (range_with_len 0) one);
    number = other;
    takes = begins;
  }
  from_any program size seed other budget _ _ _ one (makes x live accesses t ask before turn asks) =
      let was = from_any program size seed other budget x live accesses one before in
      record {
        alone = was.alone;
        number = drawn was.number;
        takes = makes was.number live accesses t ask was.takes (same_turn (drawn x) (drawn was.number) t live was.alone turn).0 asks;
      }
  from_any program size seed other budget _ _ _ one (stops x live accesses t stop steps output before turn ends) =
      let was = from_any program size seed other budget x live accesses one before in
      let same = same_turn (drawn x) (drawn was.number) t live was.alone turn in
      record {
        alone = alone_without t live was.alone same.1;
        number = drawn was.number;
        takes = stops was.number live accesses t stop steps output was.takes same.0 ends;
      }

  pub any_seed : (program : Program) (size : Numbers) (seed other budget : ℕ) (accesses : List Access) → size.threads ≡ 1
      → IsTrace set program size seed budget accesses → IsTrace set program size other budget accesses
  any_seed program size seed other budget accesses one trace =
      let all = from_any program size seed other budget trace.0 [] accesses one trace.1 in
      (all.number, all.takes)
