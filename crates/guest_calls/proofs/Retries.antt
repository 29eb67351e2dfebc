-- A loop that makes an exclusive pair until its store-exclusive succeeds, by what is asked and replied: for any guest.
use Rattle.std.proofs.Common.{◌≡◌, ℕ, ◌%◌, ◌^◌, List, [], ◌∷◌, sym, subst, inl, inr}
use Rattle.std.proofs.lemmas.Bool.{cases_eq}
use Rattle.llsc_base.specs.declared.access.Place.{Place}
use Rattle.llsc_base.specs.declared.outside.Ask.TheVariants.{LoadEx, StoreEx}
use Rattle.guest_calls.specs.Run.{Pair}

-- one turn: a load-exclusive of a place, and a store-exclusive of what is made of its value. Where that was replied 0 in its 32
-- bits, it goes on behind the loop, and else it is at the loop's begin again
pub record IsTurn (place : Place) (made : ℕ → ℕ) (Begin Behind : List Pair → Type 0) (pairs : List Pair) : Type 0 where
  pub value : ℕ
  pub reply : ℕ
  pub rest : List Pair
  pub are : pairs ≡ (LoadEx place, value) ∷ (StoreEx place (made value), reply) ∷ rest
  pub leaves : reply % 2 ^ 32 ≡ 0 → Behind rest
  pub again : (reply % 2 ^ 32 ≡ 0 → ⊥) → Begin rest

-- all turns: those that failed, and the one that stored
pub data AreTurns (place : Place) (made : ℕ → ℕ) (Behind : List Pair → Type 0) : List Pair → Type 0 where
  last : (value reply : ℕ) (rest : List Pair) → reply % 2 ^ 32 ≡ 0 → Behind rest
      → AreTurns place made Behind ((LoadEx place, value) ∷ (StoreEx place (made value), reply) ∷ rest)
  failed : (value reply : ℕ) (rest : List Pair) → (reply % 2 ^ 32 ≡ 0 → ⊥) → AreTurns place made Behind rest
      → AreTurns place made Behind ((LoadEx place, value) ∷ (StoreEx place (made value), reply) ∷ rest)

-- Where each turn is so, the loop is left by one that stored: by the pairs that are left, whatever the number of steps.
pub turns : (place : Place) (made : ℕ → ℕ) (Begin Behind : List Pair → Type 0)
    → ((pairs : List Pair) → Begin pairs → IsTurn place made Begin Behind pairs)
    → (pairs : List Pair) → Begin pairs → AreTurns place made Behind pairs
turns place made Begin Behind turn [] begins = let none = (turn [] begins).are in absurd (let f : ⊥ = cc in f)
turns place made Begin Behind turn (one ∷ []) begins = let none = (turn (one ∷ []) begins).are in absurd (let f : ⊥ = cc in f)
turns place made Begin Behind turn (one ∷ two ∷ pairs) begins =
    let first = turn (one ∷ two ∷ pairs) begins in
    let are = first.are in
    let same : first.rest ≡ pairs = cc in
    subst (AreTurns place made Behind) (sym are)
    (elim (cases_eq (first.reply % 2 ^ 32) 0) [
      | inl stored ↦ last first.value first.reply first.rest stored (first.leaves stored)
      | inr other ↦ failed first.value first.reply first.rest other
          (subst (AreTurns place made Behind) (sym same)
          (turns place made Begin Behind turn pairs (subst Begin same (first.again other))))
    ])
