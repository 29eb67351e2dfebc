-- Only proofs and inner contracts need these words beside those of `specs/Hands`.
-- What a seat of the queue knows, and weights of the numbers of guests.
use Rattle.std.specs.Prelude.{◌≡◌, ◌≤◌, ℕ, List, sum_by}
use Rattle.atomic_table.specs.Seated.{TableId}
use Rattle.llsc_base.specs.Images.{Program}
use Rattle.llsc_base.specs.Sizes.{Numbers}
use Rattle.slice_pool.specs.declared.views.Hand.{Hand}
use Rattle.slice_pool.specs.declared.views.Key.{Key}
use Rattle.slice_pool.specs.Hands.{downto}

abbrev pub key_of : TableId → Program → Numbers → (slice budget : ℕ) → Key
key_of memory program size slice budget = record { memory = memory; program = program; size = size; slice = slice; budget = budget }

-- a seat has a part, and its guests run by this
pub record IsSeated (key : Key) (v : Hand) : Type 0 where
  pub some_part : 1 ≤ v.parts
  pub key_is : v.key ≡ key

abbrev pub parts_of : Hand → ℕ
parts_of v = v.parts

-- the weights of the numbers that a seat holds
abbrev pub share : (ℕ → ℕ) → Hand → ℕ
share weight v = sum_by weight v.held

-- The same numbers, each as often, in whatever order: whichever weights numbers have, their sum is the same.
abbrev pub AreSame : List ℕ → List ℕ → Type 0
AreSame xs ys = (weight : ℕ → ℕ) → sum_by weight xs ≡ sum_by weight ys

-- each of the numbers below one at most once, and no other
abbrev pub AreFew : ℕ → List ℕ → Type 0
AreFew count xs = (weight : ℕ → ℕ) → sum_by weight xs ≤ sum_by weight (downto count)
