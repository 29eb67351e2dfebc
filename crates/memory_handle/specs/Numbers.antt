-- Which numbers a handle holds. This project's own.
use Rattle.std.specs.Prelude.{ℕ, ◌≤◌, ◌<◌, Bool}
use Rattle.shared_memory.specs.Seen.{IsOneOf}

-- the numbers from one on, up to another
pub record AreFrom (first upto : ℕ) (numbers : ℕ → Bool) : Type 0 where
  pub here : (thread : ℕ) → first ≤ thread → thread < upto → IsOneOf thread numbers
  pub only : (thread : ℕ) → IsOneOf thread numbers → (first ≤ thread) × (thread < upto)
