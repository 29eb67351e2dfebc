-- What is known of the threads of a record and of its store-exclusives, event by event.
use Rattle.std.specs.Prelude.{◌≡◌, ℕ, ◌*◌, ◌/◌, ◌<◌, ◌≤◌, ◌^◌, [], All, Option, List, length, slice_index_or}
use Rattle.llsc_base.specs.Images.{Program}
use Rattle.history.specs.declared.entry.Access.{Access}
use Rattle.run_explainer.specs.Attempts.{attempts_at, attempts_of, tally_of}
use Rattle.run_explainer.specs.Reservations.{reservation_of}
use Rattle.run_explainer.specs.declared.attempts.Attempt.{Attempt}
use Rattle.run_explainer.specs.declared.events.Event.{Event}
use Rattle.run_explainer.specs.declared.explainer.Explainer.{Explainer}
use Rattle.run_explainer.specs.declared.reservations.Reservation.{Reservation}
use Rattle.run_explainer.specs.declared.tallies.Tally.{Tally}

-- of each thread what these events say of it
abbrev pub Knows : (granule : ℕ) → List (Option Reservation) → List Event → Type 0
Knows granule reservations seen =
    (thread : ℕ) (other : Option Reservation) → thread < length reservations → slice_index_or reservations thread other ≡ reservation_of granule thread seen

-- the tally of those of some attempts that each instruction made, by its address in words
abbrev pub AreTallies : List Tally → List Attempt → Type 0
AreTallies tallies attempts =
    (word : ℕ) (other : Tally) → word < length tallies → slice_index_or tallies word other ≡ tally_of (attempts_at (4 * word) attempts)

-- an explainer has counted these attempts, by instructions and all together
pub record HasTallied (explainer : Explainer) (attempts : List Attempt) : Type 0 where
  pub tallies : AreTallies explainer.tallies.items attempts
  pub all : explainer.all ≡ tally_of attempts

-- an explainer knows what these events say
pub record HasSeen (explainer : Explainer) (seen : List Event) : Type 0 where
  pub reservations : Knows explainer.granule explainer.reservations.items seen
  pub tallied : HasTallied explainer (attempts_of explainer.granule seen)

-- an explainer that has seen nothing yet can take in the events of these accesses of a program's run
pub record CanExplain (program : Program) (accesses : List Access) (explainer : Explainer) : Type 0 where
  pub start : HasSeen explainer []
  pub rows : explainer.granule ≤ 8
  pub few : length accesses ≤ 1000000
  pub threads : All (λ access. access.thread < length explainer.reservations.items) accesses
  pub numbers : length explainer.reservations.items < 2 ^ 32
  pub words : length explainer.tallies.items ≡ length program.bytes / 4
  pub small : length program.bytes < 2 ^ 32
