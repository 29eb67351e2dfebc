-- What a thread of the counter guest asks, and what is replied.
use Rattle.guest_gen.specs.Counters.{counter_place}
use Rattle.std.specs.Prelude.{◌≡◌, ℕ, ◌+◌, ◌%◌, ◌^◌, List, [], ◌∷◌}
use Rattle.llsc_base.specs.declared.outside.Ask.TheVariants.{LoadEx, StoreEx}
use Rattle.guest_calls.specs.Run.{Pair}

-- a word that was loaded, and one more
abbrev pub one_more : ℕ → ℕ
one_more value = (value % 2 ^ 32 + 1) % 2 ^ 32

-- The accesses and replies of a thread that adds 1 to each of these counters in order: each time a load-exclusive of the
-- counter's word and a store-exclusive of one more, again and again until that is replied 0.
pub data AreTries : (named : List ℕ) → List Pair → Type 0 where
  none : AreTries [] []
  stored : (index value reply : ℕ) (named : List ℕ) (pairs : List Pair) → reply % 2 ^ 32 ≡ 0
      → AreTries named pairs
      → AreTries (index ∷ named) ((LoadEx (counter_place index), value) ∷ (StoreEx (counter_place index) (one_more value), reply) ∷ pairs)
  failed : (index value reply : ℕ) (named : List ℕ) (pairs : List Pair) → (reply % 2 ^ 32 ≡ 0 → ⊥)
      → AreTries (index ∷ named) pairs
      → AreTries (index ∷ named) ((LoadEx (counter_place index), value) ∷ (StoreEx (counter_place index) (one_more value), reply) ∷ pairs)
