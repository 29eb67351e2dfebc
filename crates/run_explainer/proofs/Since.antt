-- What came of a thread's last reservation, by one event more.
use Rattle.std.proofs.Common.{◌≡◌, ◌≢◌, ℕ, ◌+◌, ◌^◌, ◌<◌, ◌≤◌, ◌&&◌, ◌||◌, ◌==◌, not, Bool, true, false, cond, Option, Some, None, IfSome, List, [], ◌∷◌, ◌++◌, length, refl, sym, ap, subst, ◌∙◌, append-nil, length-append, arith}
use Rattle.std.specs.List.{filter, find}
use Rattle.std.specs.Option.{option_map, option_or}
use Rattle.std.proofs.lemmas.Bool.{ne_eqb}
use Rattle.std.proofs.lemmas.List.Elements.{filter-append}
use Rattle.std.proofs.lemmas.List.Folds.{find-append}
use Rattle.std.proofs.lemmas.List.Sums.{count_by-le-length, length-filter}
use Rattle.history.specs.declared.entry.Deed.{Deed}
use Rattle.run_explainer.specs.Events.{is_by, is_ending, is_load_ex, is_write, row_at}
use Rattle.run_explainer.specs.Reservations.{Since, gives_up, last_of, or_here, reservation_of, reservation_since, since_load_ex, takes_away, writes_of}
use Rattle.run_explainer.specs.inner.Steps.{CanCount, after_by, after_event, own_after, reservation_after, writes_after}
use Rattle.run_explainer.specs.declared.events.Event.{Event}
use Rattle.run_explainer.specs.declared.reservations.Reservation.{Reservation}
use Rattle.run_explainer.specs.declared.reservations.Writes.{Writes}

-- ---- the last load-exclusive

abbrev pub since_at : Event → List Event → Since
since_at event later = record { event = event; later = later }

-- the last one of a kind after one event more, which is of the kind or not
abbrev since_after : Bool → Option Since → Event → Option Since
since_after true since event = Some (since_at event [])
since_after false since event = option_map (λ (s : Since). since_at s.event (s.later ++ event ∷ [])) since

or_here_after : (since : Option Since) (here last : Bool) (first event : Event) (events : List Event)
    → or_here (since_after last since event) here first (events ++ event ∷ []) ≡ since_after last (or_here since here first events) event
or_here_after None true true first event events = refl
or_here_after None true false first event events = refl
or_here_after None false true first event events = refl
or_here_after None false false first event events = refl
or_here_after (Some since) here true first event events = refl
or_here_after (Some since) here false first event events = refl

since_one : (here : Bool) (event : Event) → or_here None here event [] ≡ since_after here None event
since_one true event = refl
since_one false event = refl

-- an event is a load-exclusive of a thread
abbrev pub is_load : ℕ → Event → Bool
is_load thread event = is_by thread event && is_load_ex event.access.deed

since_more : (thread : ℕ) (events : List Event) (event : Event)
    → since_load_ex thread (events ++ event ∷ []) ≡ since_after (is_load thread event) (since_load_ex thread events) event
since_more thread [] event = since_one (is_load thread event) event
since_more thread (first ∷ events) event =
    ap (λ s. or_here s (is_load thread first) first (events ++ event ∷ [])) (since_more thread events event)
    ∙ or_here_after (since_load_ex thread events) (is_load thread first) (is_load thread event) first event events

-- ---- its own end, and others' writes

one_found : (here : Bool) (event : Event) → cond here (Some event) None ≡ own_after here None event
one_found true event = refl
one_found false event = refl

found_or : (p : Event → Bool) (found : Option Event) (event : Event) → option_or found (find p (event ∷ [])) ≡ own_after (p event) found event
found_or p (Some own) event = refl
found_or p None event = one_found (p event) event

find_more : (p : Event → Bool) (events : List Event) (event : Event) → find p (events ++ event ∷ []) ≡ own_after (p event) (find p events) event
find_more p events event = find-append p events (event ∷ []) ∙ found_or p (find p events) event

last_is : (first : Event) (events : List Event) (event : Event) → last_of first (events ++ event ∷ []) ≡ event
last_is first [] event = refl
last_is first (next ∷ events) event = last_is next events event

one_longer : (first : Event) (events : List Event) (event : Event) → length (first ∷ (events ++ event ∷ [])) ≡ length (first ∷ events) + 1
one_longer first events event = let more = length-append events (event ∷ []) in omega (arith, more)

writes_more : (here : Bool) (events : List Event) (event : Event)
    → writes_of (events ++ cond here (event ∷ []) []) ≡ writes_after here (writes_of events) event
writes_more true [] event = refl
writes_more true (first ∷ events) event =
    ap (λ last. Some (record { first = first; last = last; count = length (first ∷ (events ++ event ∷ [])) })) (last_is first events event)
    ∙ ap (λ n. Some (record { first = first; last = event; count = n })) (one_longer first events event)
writes_more false events event = ap writes_of (append-nil events)

-- ---- the reservation

abbrev reservation_with : Reservation → Option Event → Option Writes → Reservation
reservation_with known own writes = record { load = known.load; own = own; writes = writes }

known_more : (granule thread : ℕ) (since : Since) (event : Event)
    → reservation_since granule thread (since_at since.event (since.later ++ event ∷ [])) ≡ after_event granule thread (reservation_since granule thread since) event
known_more granule thread since event =
    let row = row_at granule since.event in
    let up = gives_up granule thread row in
    let away = takes_away granule thread row in
    ap (λ own. reservation_by since.event own (writes_of (filter away (since.later ++ event ∷ [])))) (find_more up since.later event)
    ∙ ap (reservation_by since.event (own_after (up event) (find up since.later) event))
    (ap writes_of (filter-append away since.later (event ∷ [])) ∙ writes_more (away event) (filter away since.later) event)
  where
    reservation_by : Event → Option Event → Option Writes → Reservation
    reservation_by load own writes = record { load = load; own = own; writes = writes }

reservation_by_kind : (granule thread : ℕ) (last : Bool) (since : Option Since) (event : Event)
    → option_map (reservation_since granule thread) (since_after last since event) ≡ after_by granule thread last (option_map (reservation_since granule thread) since) event
reservation_by_kind granule thread true since event = refl
reservation_by_kind granule thread false None event = refl
reservation_by_kind granule thread false (Some since) event = ap Some (known_more granule thread since event)

-- what is known of a thread, by one event more
pub reservation_more : (granule thread : ℕ) (seen : List Event) (event : Event)
    → reservation_of granule thread (seen ++ event ∷ []) ≡ reservation_after granule thread (reservation_of granule thread seen) event
reservation_more granule thread seen event =
    ap (option_map (reservation_since granule thread)) (since_more thread seen event)
    ∙ reservation_by_kind granule thread (is_load thread event) (since_load_ex thread seen) event

-- ---- an event that changes nothing

and_false : (b : Bool) → (b && false) ≡ false
and_false true = refl
and_false false = refl

own_kept : (own : Option Event) (event : Event) → own_after false own event ≡ own
own_kept None event = refl
own_kept (Some own) event = refl

-- an event that is no load-exclusive, no write, and ends no reservation
pub record IsQuiet (made : Deed) : Type 0 where
  pub loads : is_load_ex made ≡ false
  pub writes : is_write made ≡ false
  pub ends : is_ending made ≡ false

known_kept : (granule thread : ℕ) (event : Event) (known : Reservation)
    → gives_up granule thread (row_at granule known.load) event ≡ false → takes_away granule thread (row_at granule known.load) event ≡ false
    → after_event granule thread known event ≡ known
known_kept granule thread event known up away =
    let row = row_at granule known.load in
    ap (λ b. reservation_with known (own_after b known.own event) (writes_after (takes_away granule thread row event) known.writes event)) up
    ∙ ap (λ own. reservation_with known own (writes_after (takes_away granule thread row event) known.writes event)) (own_kept known.own event)
    ∙ ap (λ b. reservation_with known known.own (writes_after b known.writes event)) away

kept : (granule thread : ℕ) (event : Event)
    → ((row : ℕ) → gives_up granule thread row event ≡ false) → ((row : ℕ) → takes_away granule thread row event ≡ false)
    → (reservation : Option Reservation) → after_by granule thread false reservation event ≡ reservation
kept granule thread event up away None = refl
kept granule thread event up away (Some known) =
    ap Some (known_kept granule thread event known (up (row_at granule known.load)) (away (row_at granule known.load)))

not_taken : (granule thread row : ℕ) (event : Event) → is_write event.access.deed ≡ false → takes_away granule thread row event ≡ false
not_taken granule thread row event writes =
    ap (λ b. not (is_by thread event) && (b && (row_at granule event == row))) writes ∙ and_false (not (is_by thread event))

pub quiet_keeps : (granule thread : ℕ) (reservation : Option Reservation) (event : Event) → IsQuiet event.access.deed
    → reservation_after granule thread reservation event ≡ reservation
quiet_keeps granule thread reservation event quiet =
    ap (λ b. after_by granule thread b reservation event) (ap (λ b. is_by thread event && b) quiet.loads ∙ and_false (is_by thread event))
    ∙ kept granule thread event up (λ row. not_taken granule thread row event quiet.writes) reservation
  where
    up : (row : ℕ) → gives_up granule thread row event ≡ false
    up row = ap (λ b. is_by thread event && (b || (is_write event.access.deed && (row_at granule event == row)))) quiet.ends
        ∙ ap (λ b. is_by thread event && (b && (row_at granule event == row))) quiet.writes ∙ and_false (is_by thread event)

-- an event of another thread that is no write
pub others_keep : (granule thread : ℕ) (reservation : Option Reservation) (event : Event) → event.access.thread ≢ thread → is_write event.access.deed ≡ false
    → reservation_after granule thread reservation event ≡ reservation
others_keep granule thread reservation event other writes =
    ap (λ b. after_by granule thread (b && is_load_ex event.access.deed) reservation event) another
    ∙ kept granule thread event up (λ row. not_taken granule thread row event writes) reservation
  where
    another : is_by thread event ≡ false
    another = ne_eqb event.access.thread thread other

    up : (row : ℕ) → gives_up granule thread row event ≡ false
    up row = ap (λ b. b && (is_ending event.access.deed || (is_write event.access.deed && (row_at granule event == row)))) another

-- ---- how many writes

writes_few : (events : List Event) → IfSome (writes_of events) (λ writes. writes.count ≤ length events)
writes_few [] = tt
writes_few (event ∷ events) = omega arith

since_few : (thread : ℕ) (events : List Event) → IfSome (since_load_ex thread events) (λ since. length since.later < length events)
since_few thread [] = tt
since_few thread (first ∷ events) = few_here (since_load_ex thread events) (is_load thread first) first events (since_few thread events)
  where
    few_here : (since : Option Since) (here : Bool) (first : Event) (events : List Event)
        → IfSome since (λ s. length s.later < length events) → IfSome (or_here since here first events) (λ s. length s.later < length (first ∷ events))
    few_here (Some since) here first events few = omega (arith, few)
    few_here None true first events few = omega arith
    few_here None false first events few = tt

filter_few : (p : Event → Bool) (events : List Event) → length (filter p events) ≤ length events
filter_few p events = subst (λ n. n ≤ length events) (sym (length-filter p events)) (count_by-le-length p events)

pub reservation_few : (granule thread : ℕ) (seen : List Event) → IfSome (reservation_of granule thread seen) (λ known. IfSome known.writes (λ writes. writes.count ≤ length seen))
reservation_few granule thread seen = by_since (since_load_ex thread seen) (since_few thread seen)
  where
    fewer : (writes : Option Writes) (n m : ℕ) → n ≤ m → IfSome writes (λ w. w.count ≤ n) → IfSome writes (λ w. w.count ≤ m)
    fewer None n m less few = tt
    fewer (Some w) n m less few = omega (arith, less, few)

    by_since : (since : Option Since) → IfSome since (λ s. length s.later < length seen)
        → IfSome (option_map (reservation_since granule thread) since) (λ known. IfSome known.writes (λ writes. writes.count ≤ length seen))
    by_since None few = tt
    by_since (Some since) few =
        let away = filter (takes_away granule thread (row_at granule since.event)) since.later in
        let all = filter_few (takes_away granule thread (row_at granule since.event)) since.later in
        fewer (writes_of away) (length away) (length seen) (omega (arith, few, all)) (writes_few away)

-- where there were so few events, one write more can be counted
pub can_count : (reservation : Option Reservation) (n : ℕ) → n < 1000000 → IfSome reservation (λ known. IfSome known.writes (λ writes. writes.count ≤ n))
    → CanCount reservation
can_count None n less few = tt
can_count (Some known) n less few = can_count_by known.writes few
  where
    can_count_by : (writes : Option Writes) → IfSome writes (λ w. w.count ≤ n) → IfSome writes (λ w. w.count + 1 < 2 ^ 32)
    can_count_by None few = tt
    can_count_by (Some w) few = omega (arith, less, few)
