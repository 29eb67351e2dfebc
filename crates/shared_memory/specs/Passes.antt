-- What a seat of a memory's table knows, as the memories share it: this project's own.
use Rattle.std.specs.Prelude.{◌≡◌, replicate, ℕ, Bool, false, List, [], slice_index_or, ◌∷◌, true, zero, suc}
use Rattle.shared_memory.specs.declared.views.Part.{Part}
use Rattle.shared_memory.specs.declared.views.View.{View}
use Rattle.shared_memory.specs.Seen.{IsFront, SaysAllOf, longer}

-- whether a number is marked in a list of marks
abbrev pub marked : List Bool → ℕ → Bool
marked marks thread = slice_index_or marks thread false

-- one mark, at a number
abbrev pub one_mark : ℕ → List Bool
one_mark zero = true ∷ []
one_mark (suc thread) = false ∷ one_mark thread

-- no numbers, and nothing seen
abbrev pub nobody : Part
nobody = record { numbers = []; seen = [] }

-- a pass that was joined is as such from then on: of what its parts had seen the one is a front of the other, and the longer,
-- which is kept, says all of each one's threads
pub record IsSettled {D : Type 0} (old new : View D) : Type 0 where
  pub view : new ≡ record old { left = nobody; right = nobody }
  pub left : old.seen ≡ longer old.left.seen old.right.seen → IsFront old.left.seen old.seen × SaysAllOf (marked old.left.numbers) old.left.seen old.seen
  pub right : old.seen ≡ longer old.left.seen old.right.seen → IsFront old.right.seen old.seen × SaysAllOf (marked old.right.numbers) old.right.seen old.seen

-- the view of a pass that holds the numbers of so many threads, of which none has made an access
abbrev pub first_view : {D : Type 0} → ℕ → D → View D
first_view threads doing = record { numbers = replicate threads true; lead = 0; seen = []; left = nobody; right = nobody; doing = doing }
