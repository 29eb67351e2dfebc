-- When a store-exclusive succeeds on this memory. This project's own, as DDI 0406C A3.4 leaves it to an implementation.
use Rattle.std.specs.Prelude.{◌≡◌, ℕ, Bool, true, false, Some, List, ◌∷◌, ◌++◌}
use Rattle.std.specs.List.{list_any}
use Rattle.llsc_base.specs.Memory.{row_of}
use Rattle.llsc_base.specs.Sizes.{Numbers}
use Rattle.llsc_base.specs.declared.access.Place.{Place}
use Rattle.history.specs.Cause.{is_start_of_another, since_watch}
use Rattle.history.specs.Reservation.{reservation_of}
use Rattle.history.specs.declared.entry.Cause.{Cause}
use Rattle.history.specs.declared.entry.Entry.{Entry}
use Rattle.history.specs.declared.entry.Entry.TheVariants.{Begin, Fail}
use Rattle.shared_memory.specs.Seen.{IsFront}

-- after a history a thread holds a reservation on the row of a place, and since then no write of another has begun in the
-- class of the row, nor a load-exclusive of another with a reservation
pub record IsUndisturbed (size : Numbers) (thread : ℕ) (place : Place) (history : List Entry) : Type 0 where
  pub reserved : reservation_of size thread history ≡ Some (row_of size.granule place)
  pub quiet : list_any (is_start_of_another size thread (row_of size.granule place)) (since_watch thread history) ≡ false

-- the entry that decides a store-exclusive: the Begin of one that succeeds, and the Fail of one that doesn't
abbrev pub Decides : ℕ → Place → ℕ → Bool → Entry → Type 0
Decides thread place value true entry = entry ≡ Begin thread place
Decides thread place value false entry = (cause : Cause) × (entry ≡ Fail thread place value cause)

-- a store-exclusive has succeeded just where its thread was undisturbed, by the history before the entry that decided it
pub record IsExact (size : Numbers) (thread : ℕ) (place : Place) (value : ℕ) (result : Bool) (old new : List Entry) : Type 0 where
  pub past : List Entry
  pub entry : Entry
  pub later : List Entry
  pub are : new ≡ past ++ (entry ∷ later)
  pub since : IsFront old past
  pub decides : Decides thread place value result entry
  pub succeeds : IsUndisturbed size thread place past → result ≡ true
  pub succeeded : result ≡ true → IsUndisturbed size thread place past
