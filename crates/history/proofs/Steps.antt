-- What one more entry at the end does to what stands since the last entry of a kind, and to reservations and flights.
use Rattle.std.proofs.Common.{◌≡◌, ℕ, ◌&&◌, ◌||◌, Bool, true, false, if◌then◌else◌, List, [], ◌∷◌, ◌++◌, Option, Some, None, nat_eq, refl, sym, ap, ◌∙◌}
use Rattle.std.specs.List.{list_any}
use Rattle.std.proofs.lemmas.List.Folds.{list_any-append}
use Rattle.llsc_base.specs.Sizes.{Numbers}
use Rattle.llsc_base.specs.Memory.{class_of, row_of}
use Rattle.llsc_base.specs.declared.access.Place.{Place}
use Rattle.history.specs.Since.{Since, begin_of, is_end_of, or_here, since_last, watch_of}
use Rattle.history.specs.Reservation.{ends_reservation, reservation_of, reserved_since}
use Rattle.history.specs.Cause.{flight_of, flight_since}
use Rattle.history.specs.Standing.{Standing, is_of_class, joined, standing_after, standing_of}
use Rattle.history.specs.declared.entry.Cause.{Cause}
use Rattle.history.specs.declared.entry.Entry.{Entry}
use Rattle.history.specs.declared.entry.Entry.TheVariants.{Read, Write, Fail, Clear, Watch, Miss, Begin, End, Start}
use Rattle.history.proofs.Ends.{by_ends}
use Rattle.history.proofs.Appends.{standing_after-push}

-- ---- since the last entry of a kind

-- the last entry of a kind, after one more entry
abbrev pub since_step : Option Since → Option Place → Entry → Option Since
since_step old (Some place) entry = Some (record { place = place; later = [] })
since_step (Some since) None entry = Some (record { place = since.place; later = since.later ++ entry ∷ [] })
since_step None None entry = None

or_here-step : (old : Option Since) (new here : Option Place) (later : List Entry) (entry : Entry)
    → or_here (since_step old new entry) here (later ++ entry ∷ []) ≡ since_step (or_here old here later) new entry
or_here-step old (Some place) here later entry = refl
or_here-step (Some since) None here later entry = refl
or_here-step None None (Some place) later entry = refl
or_here-step None None None later entry = refl

since_none : (kind : Entry → Option Place) (entry : Entry) (here : Option Place) → or_here None here [] ≡ since_step None here entry
since_none kind entry (Some place) = refl
since_none kind entry None = refl

pub since_last-push : (kind : Entry → Option Place) (entries : List Entry) (entry : Entry)
    → since_last kind (entries ++ entry ∷ []) ≡ since_step (since_last kind entries) (kind entry) entry
since_last-push kind [] entry = since_none kind entry (kind entry)
since_last-push kind (first ∷ entries) entry =
    ap (λ (old : Option Since). or_here old (kind first) (entries ++ entry ∷ [])) (since_last-push kind entries entry)
    ∙ or_here-step (since_last kind entries) (kind entry) (kind first) entries entry

-- whether one of a list with one more passes
pub any-push : (test : Entry → Bool) (later : List Entry) (entry : Entry) → list_any test (later ++ entry ∷ []) ≡ (list_any test later || test entry)
any-push test later entry = list_any-append test later (entry ∷ []) ∙ elim (test entry) as (λ b. (list_any test later || (b || false)) ≡ (list_any test later || b)) [
  | true ↦ refl
  | false ↦ refl
]

-- ---- the write of a thread that is in flight

-- it, after one more entry
abbrev pub flight_step : ℕ → Option Place → Entry → Option Place
flight_step t flight (Begin thread place) = if nat_eq thread t then Some place else flight
flight_step t flight (End thread place) = if nat_eq thread t then None else flight
flight_step t flight _ = flight

-- an entry that ends a flight or doesn't
still : (t : ℕ) (old : Option Since) (entry : Entry)
    → flight_since t (since_step old None entry) ≡ (if is_end_of t entry then None else flight_since t old)
still t None entry = elim (is_end_of t entry) as (λ b. flight_since t None ≡ (if b then None else flight_since t None)) [ true ↦ refl | false ↦ refl ]
still t (Some since) entry = rw (any-push (is_end_of t) since.later entry) (elim (list_any (is_end_of t) since.later) as (λ a. (if a || is_end_of t entry then None else Some since.place) ≡ (if is_end_of t entry then None else (if a then None else Some since.place))) [
  | true ↦ elim (is_end_of t entry) as (λ b. flight_since t None ≡ (if b then None else flight_since t None)) [ true ↦ refl | false ↦ refl ]
  | false ↦ refl
])

begins : (t thread : ℕ) (place : Place) (old : Option Since) (own : Bool)
    → flight_since t (since_step old (if own then Some place else None) (Begin thread place)) ≡ (if own then Some place else flight_since t old)
begins t thread place old true = refl
begins t thread place old false = still t old (Begin thread place)

flies : (t : ℕ) (old : Option Since) (entry : Entry)
    → flight_since t (since_step old (begin_of t entry) entry) ≡ flight_step t (flight_since t old) entry
flies t old (Begin thread place) = begins t thread place old (nat_eq thread t)
flies t old (End thread place) = still t old (End thread place)
flies t old (Read thread place value ex) = still t old (Read thread place value ex)
flies t old (Write thread place value ex) = still t old (Write thread place value ex)
flies t old (Fail thread place value cause) = still t old (Fail thread place value cause)
flies t old (Clear thread) = still t old (Clear thread)
flies t old (Watch thread place) = still t old (Watch thread place)
flies t old (Miss thread place) = still t old (Miss thread place)
flies t old (Start thread child entry arg) = still t old (Start thread child entry arg)

pub flight_of-push : (t : ℕ) (entries : List Entry) (entry : Entry) → flight_of t (entries ++ entry ∷ []) ≡ flight_step t (flight_of t entries) entry
flight_of-push t entries entry = ap (flight_since t) (since_last-push (begin_of t) entries entry) ∙ flies t (since_last (begin_of t) entries) entry

-- ---- the reservation of a thread

-- it, after one more entry
abbrev pub reserved_step : Numbers → ℕ → Option ℕ → Entry → Option ℕ
reserved_step size t reserved (Write thread place value ex) = if nat_eq thread t && ex then None else reserved
reserved_step size t reserved (Fail thread place value cause) = if nat_eq thread t then None else reserved
reserved_step size t reserved (Clear thread) = if nat_eq thread t then None else reserved
reserved_step size t reserved (Watch thread place) = if nat_eq thread t then Some (row_of size.granule place) else reserved
reserved_step size t reserved (Miss thread place) = if nat_eq thread t then None else reserved
reserved_step size t reserved (Begin thread place) =
    if nat_eq thread t && is_of_class size (class_of size.classes (row_of size.granule place)) reserved then None else reserved
reserved_step size t reserved _ = reserved

-- how things stand of it
pub joined-reserved : (size : Numbers) (s : Standing) (e : Entry) (t : ℕ) → (joined size s e).reserved t ≡ reserved_step size t (s.reserved t) e
joined-reserved size s (Read thread place value ex) t = refl
joined-reserved size s (Write thread place value ex) t = refl
joined-reserved size s (Fail thread place value cause) t = refl
joined-reserved size s (Clear thread) t = refl
joined-reserved size s (Watch thread place) t = refl
joined-reserved size s (Miss thread place) t = refl
joined-reserved size s (Begin thread place) t = refl
joined-reserved size s (End thread place) t = refl
joined-reserved size s (Start thread child entry arg) t = refl

-- what an entry leaves of a reservation, where it isn't a Watch of the thread
abbrev ended : Numbers → ℕ → Entry → Option ℕ → Option ℕ
ended size t entry None = None
ended size t entry (Some row) = if ends_reservation size t row entry then None else Some row

kept : (size : Numbers) (t : ℕ) (old : Option Since) (entry : Entry)
    → reserved_since size t (since_step old None entry) ≡ ended size t entry (reserved_since size t old)
kept size t None entry = refl
kept size t (Some since) entry =
    let row = row_of size.granule since.place in
    rw (any-push (ends_reservation size t row) since.later entry)
    (elim (list_any (ends_reservation size t row) since.later) as (λ a. (if a || ends_reservation size t row entry then None else Some row) ≡ ended size t entry (if a then None else Some row)) [
      | true ↦ refl
      | false ↦ refl
    ])

none_left : (b : Bool) → (let n : Option ℕ = None in n) ≡ (if b then None else None)
none_left true = refl
none_left false = refl

ended-own : (size : Numbers) (t thread : ℕ) (place : Place) (value : ℕ) (ex : Bool) (reserved : Option ℕ)
    → ended size t (Write thread place value ex) reserved ≡ (if nat_eq thread t && ex then None else reserved)
ended-own size t thread place value ex None = none_left (nat_eq thread t && ex)
ended-own size t thread place value ex (Some row) = refl

ended-fail : (size : Numbers) (t thread : ℕ) (place : Place) (value : ℕ) (cause : Cause) (reserved : Option ℕ)
    → ended size t (Fail thread place value cause) reserved ≡ (if nat_eq thread t then None else reserved)
ended-fail size t thread place value cause None = none_left (nat_eq thread t)
ended-fail size t thread place value cause (Some row) = refl

ended-clear : (size : Numbers) (t thread : ℕ) (reserved : Option ℕ) → ended size t (Clear thread) reserved ≡ (if nat_eq thread t then None else reserved)
ended-clear size t thread None = none_left (nat_eq thread t)
ended-clear size t thread (Some row) = refl

ended-miss : (size : Numbers) (t thread : ℕ) (place : Place) (reserved : Option ℕ) → ended size t (Miss thread place) reserved ≡ (if nat_eq thread t then None else reserved)
ended-miss size t thread place None = none_left (nat_eq thread t)
ended-miss size t thread place (Some row) = refl

ended-begin : (size : Numbers) (t thread : ℕ) (place : Place) (reserved : Option ℕ)
    → ended size t (Begin thread place) reserved
    ≡ (if nat_eq thread t && is_of_class size (class_of size.classes (row_of size.granule place)) reserved then None else reserved)
ended-begin size t thread place None = none_left (nat_eq thread t && false)
ended-begin size t thread place (Some row) = refl

ended-not : (size : Numbers) (t : ℕ) (entry : Entry) (reserved : Option ℕ) → ((row : ℕ) → ends_reservation size t row entry ≡ false)
    → ended size t entry reserved ≡ reserved
ended-not size t entry None not_ended = refl
ended-not size t entry (Some row) not_ended = rw (not_ended row) refl

watches : (size : Numbers) (t thread : ℕ) (place : Place) (old : Option Since) (own : Bool)
    → reserved_since size t (since_step old (if own then Some place else None) (Watch thread place))
    ≡ (if own then Some (row_of size.granule place) else reserved_since size t old)
watches size t thread place old true = refl
watches size t thread place old false =
    kept size t old (Watch thread place) ∙ ended-not size t (Watch thread place) (reserved_since size t old) (λ row. refl)

reserves : (size : Numbers) (t : ℕ) (old : Option Since) (entry : Entry)
    → reserved_since size t (since_step old (watch_of t entry) entry) ≡ reserved_step size t (reserved_since size t old) entry
reserves size t old (Read thread place value ex) =
    kept size t old (Read thread place value ex) ∙ ended-not size t (Read thread place value ex) (reserved_since size t old) (λ row. refl)
reserves size t old (Write thread place value ex) =
    kept size t old (Write thread place value ex) ∙ ended-own size t thread place value ex (reserved_since size t old)
reserves size t old (Fail thread place value cause) =
    kept size t old (Fail thread place value cause) ∙ ended-fail size t thread place value cause (reserved_since size t old)
reserves size t old (Clear thread) = kept size t old (Clear thread) ∙ ended-clear size t thread (reserved_since size t old)
reserves size t old (Watch thread place) = watches size t thread place old (nat_eq thread t)
reserves size t old (Miss thread place) = kept size t old (Miss thread place) ∙ ended-miss size t thread place (reserved_since size t old)
reserves size t old (Begin thread place) = kept size t old (Begin thread place) ∙ ended-begin size t thread place (reserved_since size t old)
reserves size t old (End thread place) =
    kept size t old (End thread place) ∙ ended-not size t (End thread place) (reserved_since size t old) (λ row. refl)
reserves size t old (Start thread child entry arg) =
    kept size t old (Start thread child entry arg) ∙ ended-not size t (Start thread child entry arg) (reserved_since size t old) (λ row. refl)

pub reservation_of-push : (size : Numbers) (t : ℕ) (entries : List Entry) (entry : Entry)
    → reservation_of size t (entries ++ entry ∷ []) ≡ reserved_step size t (reservation_of size t entries) entry
reservation_of-push size t entries entry =
    ap (reserved_since size t) (since_last-push (watch_of t) entries entry) ∙ reserves size t (since_last (watch_of t) entries) entry

-- the reservation of a thread is how things stand of it
pub reservation_of-standing : (size : Numbers) (t : ℕ) (bytes : List ℕ) (history : List Entry)
    → reservation_of size t history ≡ (standing_after size (standing_of bytes) history).reserved t
reservation_of-standing size t bytes history = by_ends (λ entries. reservation_of size t entries ≡ (standing_after size (standing_of bytes) entries).reserved t) refl more history
  where
    more : (entries : List Entry) (e : Entry) → reservation_of size t entries ≡ (standing_after size (standing_of bytes) entries).reserved t
        → reservation_of size t (entries ++ e ∷ []) ≡ (standing_after size (standing_of bytes) (entries ++ e ∷ [])).reserved t
    more entries e same =
        rw (standing_after-push size (standing_of bytes) entries e)
        (reservation_of-push size t entries e
        ∙ ap (λ (r : Option ℕ). reserved_step size t r e) same
        ∙ sym (joined-reserved size (standing_after size (standing_of bytes) entries) e t))
