-- What passes have seen of the history, and which thread numbers they hold: this project's own.
use Rattle.std.specs.Prelude.{◌≡◌, ◌≤◌, ◌==◌, ◌&&◌, ◌||◌, ℕ, not, nat_lt, if◌then◌else◌, Bool, true, List, ◌++◌, length}
use Rattle.history.specs.Parts.{entries_of}
use Rattle.history.specs.Cause.{writes_in_class}
use Rattle.history.specs.declared.entry.Entry.{Entry}
use Rattle.shared_memory.specs.Origin.{Origin, IsLegalFrom}
use Rattle.llsc_base.specs.Memory.{class_of, row_of}
use Rattle.llsc_base.specs.declared.access.Place.{Place}

-- a history begins with these entries
abbrev pub IsFront : List Entry → List Entry → Type 0
IsFront front history = (rest : List Entry) × (history ≡ front ++ rest)

-- more of the history was seen, legal as a whole, and in what was added the entries of the thread are just these
pub record Sees (origin : Origin) (thread : ℕ) (old own new : List Entry) : Type 0 where
  pub added : List Entry
  pub longer : new ≡ old ++ added
  pub mine : entries_of thread added ≡ own
  pub legal : IsLegalFrom origin new

-- the longer of two lists
abbrev pub longer : List Entry → List Entry → List Entry
longer xs ys = if nat_lt (length xs) (length ys) then ys else xs

-- a number is one of those that a test takes
abbrev pub IsOneOf : ℕ → (ℕ → Bool) → Type 0
IsOneOf thread numbers = numbers thread ≡ true

-- it is the only one
pub record IsSingle (thread : ℕ) (numbers : ℕ → Bool) : Type 0 where
  pub has : IsOneOf thread numbers
  pub only : (other : ℕ) → IsOneOf other numbers → other ≡ thread

-- all of them but one
abbrev pub all_but : ℕ → (ℕ → Bool) → ℕ → Bool
all_but thread numbers = λ other. numbers other && not (other == thread)

-- those of both
abbrev pub joint : (ℕ → Bool) → (ℕ → Bool) → ℕ → Bool
joint mine yours = λ other. mine other || yours other

-- what was seen says of each of these threads all that a longer list says
abbrev pub SaysAllOf : (ℕ → Bool) → List Entry → List Entry → Type 0
SaysAllOf numbers seen longer = (thread : ℕ) → IsOneOf thread numbers → entries_of thread longer ≡ entries_of thread seen

-- a class may take no write: it has had all that it takes, by what was seen
pub record IsUsedUp (origin : Origin) (place : Place) (class writes : ℕ) (seen : List Entry) : Type 0 where
  pub spends : origin.spends ≡ true
  pub class_is : class ≡ class_of origin.size.classes (row_of origin.size.granule place)
  pub writes_are : writes ≡ origin.size.limit
  pub used_up : origin.size.limit ≤ writes_in_class origin.size (row_of origin.size.granule place) seen
