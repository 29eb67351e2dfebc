-- Only proofs and inner contracts need these words.
-- What is known of threads and of store-exclusives, and what it becomes by one event more.
use Rattle.std.specs.Prelude.{ℕ, ◌+◌, ◌<◌, ◌^◌, ◌&&◌, cond, Bool, true, false, IfSome, Option, Some, None, List, length}
use Rattle.std.specs.Option.{option_map}
use Rattle.history.specs.declared.entry.Deed.{Deed}
use Rattle.history.specs.declared.entry.Deed.TheVariants as deed
use Rattle.run_explainer.specs.Attempts.{has_come_back, is_otherwise, is_stored, is_without, is_written}
use Rattle.run_explainer.specs.Explaining.{HasSeen, HasTallied, Knows}
use Rattle.run_explainer.specs.Events.{is_by, is_load_ex, row_at}
use Rattle.run_explainer.specs.Reservations.{gives_up, takes_away}
use Rattle.run_explainer.specs.declared.attempts.Attempt.{Attempt}
use Rattle.run_explainer.specs.declared.attempts.Outcome.{Outcome}
use Rattle.run_explainer.specs.declared.events.Event.{Event}
use Rattle.run_explainer.specs.declared.explainer.Explainer.{Explainer}
use Rattle.run_explainer.specs.declared.reservations.Reservation.{Reservation}
use Rattle.run_explainer.specs.declared.reservations.Writes.{Writes}
use Rattle.run_explainer.specs.declared.tallies.Tally.{Tally}

-- a store-exclusive, whether or not it succeeded
abbrev pub is_attempt : Deed → Bool
is_attempt deed.StoreEx = true
is_attempt deed.StoreFail = true
is_attempt _ = false

-- one write more
abbrev pub one_more : Option Writes → Event → Writes
one_more None event = record { first = event; last = event; count = 1 }
one_more (Some writes) event = record { first = writes.first; last = event; count = writes.count + 1 }

-- the first event of a kind, and the writes, after an event that is of the kind or not
abbrev pub own_after : Bool → Option Event → Event → Option Event
own_after here (Some own) event = Some own
own_after true None event = Some event
own_after false None event = None

abbrev pub writes_after : Bool → Option Writes → Event → Option Writes
writes_after true writes event = Some (one_more writes event)
writes_after false writes event = writes

-- what is known of a reservation after an event that is no load-exclusive of its thread
abbrev pub after_event : (granule thread : ℕ) → Reservation → Event → Reservation
after_event granule thread reservation event =
    let row = row_at granule reservation.load in
    record {
      load = reservation.load;
      own = own_after (gives_up granule thread row event) reservation.own event;
      writes = writes_after (takes_away granule thread row event) reservation.writes event;
    }

abbrev pub after_by : (granule thread : ℕ) → Bool → Option Reservation → Event → Option Reservation
after_by granule thread true reservation event = Some (record { load = event; own = None; writes = None })
after_by granule thread false reservation event = option_map (λ known. after_event granule thread known event) reservation

-- what is known of a thread after an event
abbrev pub reservation_after : (granule thread : ℕ) → Option Reservation → Event → Option Reservation
reservation_after granule thread reservation event =
    after_by granule thread (is_by thread event && is_load_ex event.access.deed) reservation event

-- one write more can be counted
abbrev pub CanCount : Option Reservation → Type 0
CanCount reservation = IfSome reservation (λ known. IfSome known.writes (λ writes. writes.count + 1 < 2 ^ 32))

-- by fewer than a million events
abbrev pub KnowsFew : (granule : ℕ) → List (Option Reservation) → Type 0
KnowsFew granule reservations = (seen : List Event) × Knows granule reservations seen × (length seen < 1000000)

-- one attempt more of this outcome
abbrev pub counted : Tally → Outcome → Tally
counted tally outcome = record {
  stored = tally.stored + cond (is_stored outcome) 1 0;
  written = tally.written + cond (is_written outcome) 1 0;
  without = tally.without + cond (is_without outcome) 1 0;
  otherwise = tally.otherwise + cond (is_otherwise outcome) 1 0;
  came_back = tally.came_back + cond (has_come_back outcome) 1 0;
}

-- how many it is of
abbrev pub sum_of : Tally → ℕ
sum_of tally = tally.stored + (tally.written + tally.without + tally.otherwise)

-- one attempt more can be counted
pub record CanTally (tally : Tally) : Type 0 where
  pub stored : tally.stored + 1 < 2 ^ 32
  pub written : tally.written + 1 < 2 ^ 32
  pub without : tally.without + 1 < 2 ^ 32
  pub otherwise : tally.otherwise + 1 < 2 ^ 32
  pub came_back : tally.came_back + 1 < 2 ^ 32

-- fewer than a million
abbrev pub HasTalliedFew : Explainer → Type 0
HasTalliedFew explainer = (attempts : List Attempt) × HasTallied explainer attempts × (length attempts < 1000000)

-- before fewer than a million
abbrev pub HasSeenFew : Explainer → Type 0
HasSeenFew explainer = (seen : List Event) × HasSeen explainer seen × (length seen < 1000000)
