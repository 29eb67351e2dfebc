-- The mark of a thread is on the row of its reservation, as long as that stands.
use Rattle.std.proofs.Common.{◌≡◌, ℕ, ◌&&◌, ◌||◌, ◌==◌, not, inl, inr, Bool, true, false, if◌then◌else◌, Option, Some, None, List, [], ◌∷◌, ◌++◌, nat_eq, refl, sym, ap, subst, ◌∙◌, append-nil, append_assoc}
use Rattle.std.proofs.lemmas.Bool.{cases_Bool, cases_eq, eq-eqb, ne_eqb}
use Rattle.std.proofs.lemmas.List.{map-append}
use Rattle.llsc_base.specs.Images.{Program}
use Rattle.llsc_base.specs.Memory.{row_of}
use Rattle.llsc_base.specs.Sizes.{Numbers}
use Rattle.llsc_base.specs.declared.access.Place.{Place}
use Rattle.history.specs.Accesses.{entry_by, entry_of, history_of}
use Rattle.history.specs.ArmLegal.{IsArmLegal, MayAccess}
use Rattle.history.specs.Monitor.{at_rest_by, marked_row, monitor_after, unless_on}
use Rattle.history.specs.declared.entry.Deed.{Deed}
use Rattle.history.specs.declared.entry.Deed.TheVariants as deed
use Rattle.history.proofs.Appends.{IsArmLegal-front, IsArmLegal-last, monitor_after-push}
use Rattle.history.proofs.Marks.{get_or-replicate_none, granule-monitor_after, mark_step, marked_row-accessed}
use Rattle.run_checker.specs.declared.sightings.Sighting.{Sighting}
use Rattle.run_explainer.specs.Marks.{accesses_in, marked_behind, reserved_row, row_unless}
use Rattle.run_explainer.specs.Reservations.{gives_up, reservation_of, takes_away}
use Rattle.run_explainer.specs.inner.Steps.{after_by, own_after, reservation_after, writes_after}
use Rattle.run_explainer.specs.declared.events.Event.{Event}
use Rattle.run_explainer.specs.declared.reservations.Reservation.{Reservation}
use Rattle.run_explainer.specs.declared.reservations.Writes.{Writes}
use Rattle.run_explainer.proofs.Since.{is_load, reservation_more}

abbrev event_by : ℕ → ℕ → Deed → Place → ℕ → Sighting → Event
event_by index thread made place value sighting =
    record { index = index; access = record { thread = thread; deed = made; place = place; value = value }; sighting = sighting }

abbrev no_row : Option ℕ
no_row = None

never : (b : Bool) → (b && false) ≡ true → ⊥
never true is = cc
never false is = cc

-- ---- what an event leaves of a reserved row

none_either : (b : Bool) → (if b then no_row else no_row) ≡ no_row
none_either true = refl
none_either false = refl

unless_ended : (row : ℕ) (own : Option Event) (writes : Option Writes) (event : Event) (up away : Bool)
    → row_unless row (own_after up own event) (writes_after away writes event) ≡ (if up || away then None else row_unless row own writes)
unless_ended row (Some own) writes event up away = sym (none_either (up || away))
unless_ended row None writes event true away = refl
unless_ended row None writes event false true = refl
unless_ended row None None event false false = refl
unless_ended row None (Some some) event false false = refl

-- ---- what the same event leaves of a mark

same_either : (a b : ℕ) → (a == b) ≡ (b == a)
same_either a b = elim (cases_eq a b) [
  | inl same ↦ eq-eqb a b same ∙ sym (eq-eqb b a (sym same))
  | inr apart ↦ ne_eqb a b apart ∙ sym (ne_eqb b a (λ same. apart (sym same)))
]

unless_row : (written row : ℕ) (own : Option Event) (writes : Option Writes)
    → unless_on written (row_unless row own writes) ≡ (if written == row then None else row_unless row own writes)
unless_row written row None None = ap (λ b. if b then None else Some row) (same_either row written)
unless_row written row None (Some some) = sym (none_either (written == row))
unless_row written row (Some own) writes = sym (none_either (written == row))

-- by a store, a store-exclusive, or another end of a reservation, whether or not it is the thread's own and to the row
by_store : (own here : Bool) (mark left : Option ℕ) → left ≡ (if here then None else mark)
    → (if own && false then None else left) ≡ (if (own && (false || (true && here))) || (not own && (true && here)) then None else mark)
by_store true true mark left is = is
by_store true false mark left is = is
by_store false true mark left is = is
by_store false false mark left is = is

by_store_ex : (own here : Bool) (mark left : Option ℕ) → left ≡ (if here then None else mark)
    → (if own && true then None else left) ≡ (if (own && (true || (true && here))) || (not own && (true && here)) then None else mark)
by_store_ex true true mark left is = refl
by_store_ex true false mark left is = refl
by_store_ex false true mark left is = is
by_store_ex false false mark left is = is

by_end : (own : Bool) (mark : Option ℕ) → (if own then None else mark) ≡ (if (own && true) || (not own && false) then None else mark)
by_end true mark = refl
by_end false mark = refl

by_load : (own : Bool) (mark : Option ℕ) → mark ≡ (if (own && false) || (not own && false) then None else mark)
by_load true mark = refl
by_load false mark = refl

by_load_ex : (own : Bool) (mark new : Option ℕ) → (own && true) ≡ false → (if own then new else mark) ≡ (if (own && false) || (not own && false) then None else mark)
by_load_ex true mark new other = cc
by_load_ex false mark new other = refl

mark_left : (granule t row : ℕ) (own : Option Event) (writes : Option Writes) (index thread : ℕ) (made : Deed) (place : Place) (value : ℕ) (sighting : Sighting)
    → is_load t (event_by index thread made place value sighting) ≡ false
    → mark_step granule t (row_unless row own writes) (entry_by made thread place value)
    ≡ (if gives_up granule t row (event_by index thread made place value sighting) || takes_away granule t row (event_by index thread made place value sighting) then None else row_unless row own writes)
mark_left granule t row own writes index thread deed.Load place value sighting other = by_load (nat_eq thread t) (row_unless row own writes)
mark_left granule t row own writes index thread deed.LoadEx place value sighting other =
    by_load_ex (nat_eq thread t) (row_unless row own writes) (Some (row_of granule place)) other
mark_left granule t row own writes index thread deed.Store place value sighting other =
    by_store (nat_eq thread t) (row_of granule place == row) (row_unless row own writes) (unless_on (row_of granule place) (row_unless row own writes)) (unless_row (row_of granule place) row own writes)
mark_left granule t row own writes index thread deed.StoreEx place value sighting other =
    by_store_ex (nat_eq thread t) (row_of granule place == row) (row_unless row own writes) (unless_on (row_of granule place) (row_unless row own writes)) (unless_row (row_of granule place) row own writes)
mark_left granule t row own writes index thread deed.StoreFail place value sighting other = by_end (nat_eq thread t) (row_unless row own writes)
mark_left granule t row own writes index thread deed.Clear place value sighting other = by_end (nat_eq thread t) (row_unless row own writes)

-- ---- the mark and the reserved row go on alike

unmarked_stays : (granule t index thread : ℕ) (made : Deed) (place : Place) (value : ℕ) (sighting : Sighting)
    → is_load t (event_by index thread made place value sighting) ≡ false → mark_step granule t None (entry_by made thread place value) ≡ None
unmarked_stays granule t index thread deed.Load place value sighting other = refl
unmarked_stays granule t index thread deed.LoadEx place value sighting other =
    by_load_ex (nat_eq thread t) None (Some (row_of granule place)) other ∙ none_either ((nat_eq thread t && false) || (not (nat_eq thread t) && false))
unmarked_stays granule t index thread deed.Store place value sighting other = none_either (nat_eq thread t && false)
unmarked_stays granule t index thread deed.StoreEx place value sighting other = none_either (nat_eq thread t && true)
unmarked_stays granule t index thread deed.StoreFail place value sighting other = none_either (nat_eq thread t)
unmarked_stays granule t index thread deed.Clear place value sighting other = none_either (nat_eq thread t)

-- by an event that is no load-exclusive of the thread
step_other : (granule t : ℕ) (reservation : Option Reservation) (event : Event) → is_load t event ≡ false
    → mark_step granule t (reserved_row granule reservation) (entry_of event.access) ≡ reserved_row granule (after_by granule t false reservation event)
step_other granule t None event other = unmarked_stays granule t event.index event.access.thread event.access.deed event.access.place event.access.value event.sighting other
step_other granule t (Some known) event other =
    let row = row_of granule known.load.access.place in
    mark_left granule t row known.own known.writes event.index event.access.thread event.access.deed event.access.place event.access.value event.sighting other
    ∙ sym (unless_ended row known.own known.writes event (gives_up granule t row event) (takes_away granule t row event))

-- by a load-exclusive of the thread
loaded : (granule t index thread : ℕ) (made : Deed) (place : Place) (value : ℕ) (sighting : Sighting) (mark : Option ℕ)
    → is_load t (event_by index thread made place value sighting) ≡ true → mark_step granule t mark (entry_by made thread place value) ≡ Some (row_of granule place)
loaded granule t index thread deed.LoadEx place value sighting mark own = of_own (nat_eq thread t) own
  where
    of_own : (b : Bool) → (b && true) ≡ true → (if b then Some (row_of granule place) else mark) ≡ Some (row_of granule place)
    of_own true own = refl
    of_own false own = cc
loaded granule t index thread deed.Load place value sighting mark own = absurd (never (nat_eq thread t) own)
loaded granule t index thread deed.Store place value sighting mark own = absurd (never (nat_eq thread t) own)
loaded granule t index thread deed.StoreEx place value sighting mark own = absurd (never (nat_eq thread t) own)
loaded granule t index thread deed.StoreFail place value sighting mark own = absurd (never (nat_eq thread t) own)
loaded granule t index thread deed.Clear place value sighting mark own = absurd (never (nat_eq thread t) own)

pub step : (granule t : ℕ) (reservation : Option Reservation) (event : Event)
    → mark_step granule t (reserved_row granule reservation) (entry_of event.access) ≡ reserved_row granule (reservation_after granule t reservation event)
step granule t reservation event = elim (cases_Bool (is_load t event)) [
  | inl own ↦
      loaded granule t event.index event.access.thread event.access.deed event.access.place event.access.value event.sighting (reserved_row granule reservation) own
      ∙ ap (λ b. reserved_row granule (after_by granule t b reservation event)) (sym own)
  | inr other ↦
      step_other granule t reservation event other
      ∙ ap (λ b. reserved_row granule (after_by granule t b reservation event)) (sym other)
]

-- ---- over events

-- their accesses are what Arm's memory and monitors allow
abbrev pub AreLegal : Program → Numbers → List Event → Type 0
AreLegal program size events = IsArmLegal (at_rest_by size.granule program.bytes size.threads) (history_of (accesses_in events))

history_split : (front back : List Event) → history_of (accesses_in (front ++ back)) ≡ history_of (accesses_in front) ++ history_of (accesses_in back)
history_split front back = ap history_of (map-append (λ (event : Event). event.access) front back) ∙ map-append entry_of (accesses_in front) (accesses_in back)

pub legal_front : (program : Program) (size : Numbers) (front back : List Event) → AreLegal program size (front ++ back) → AreLegal program size front
legal_front program size front back legal =
    let start = at_rest_by size.granule program.bytes size.threads in
    IsArmLegal-front start (history_of (accesses_in front)) (history_of (accesses_in back)) (subst (IsArmLegal start) (history_split front back) legal)

-- the last may stand where it does
pub legal_last : (program : Program) (size : Numbers) (events : List Event) (event : Event) → AreLegal program size (events ++ event ∷ [])
    → MayAccess (monitor_after (at_rest_by size.granule program.bytes size.threads) (history_of (accesses_in events))) (entry_of event.access)
legal_last program size events event legal =
    let start = at_rest_by size.granule program.bytes size.threads in
    IsArmLegal-last start (history_of (accesses_in events)) (entry_of event.access) (subst (IsArmLegal start) (history_split events (event ∷ [])) legal)

module _ (program : Program) (size : Numbers) (thread : ℕ) where
  abbrev IsMarked : List Event → Type 0
  IsMarked events = AreLegal program size events → marked_behind program size thread events ≡ reserved_row size.granule (reservation_of size.granule thread events)

  more : (events : List Event) (event : Event) → IsMarked events → IsMarked (events ++ event ∷ [])
  more events event was legal =
      let start = at_rest_by size.granule program.bytes size.threads in
      let entries = history_of (accesses_in events) in
      let before = was (legal_front program size events (event ∷ []) legal) in
      ap (λ l. marked_row (monitor_after start l) thread) (history_split events (event ∷ []))
      ∙ ap (λ m. marked_row m thread) (monitor_after-push start entries (entry_of event.access))
      ∙ marked_row-accessed (monitor_after start entries) (entry_of event.access) thread (legal_last program size events event legal)
      ∙ ap (λ g. mark_step g thread (marked_row (monitor_after start entries) thread) (entry_of event.access)) (granule-monitor_after start entries)
      ∙ ap (λ mark. mark_step size.granule thread mark (entry_of event.access)) before
      ∙ step size.granule thread (reservation_of size.granule thread events) event
      ∙ ap (reserved_row size.granule) (sym (reservation_more size.granule thread events event))

  from_front : (front back : List Event) → IsMarked front → IsMarked (front ++ back)
  from_front front [] was = subst IsMarked (sym (append-nil front)) was
  from_front front (event ∷ back) was = subst IsMarked (append_assoc front (event ∷ []) back) (from_front (front ++ event ∷ []) back (more front event was))

  -- the mark of a thread behind events is what they say of its reservation
  pub mark_is : (events : List Event) → IsMarked events
  mark_is events = from_front [] events (λ legal. get_or-replicate_none size.threads thread)
