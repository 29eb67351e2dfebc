-- The write that is told as the first ended the mark, and a store-exclusive that succeeds has no cause to fail.
use Rattle.std.proofs.Common.{◌≡◌, ℕ, ◌+◌, ◌==◌, inl, inr, Bool, true, false, if◌then◌else◌, Option, Some, None, List, [], ◌∷◌, ◌++◌, refl, sym, ap, subst, ◌∙◌, append_assoc}
use Rattle.std.specs.List.{filter, find}
use Rattle.std.specs.Option.{option_map, option_or}
use Rattle.std.proofs.lemmas.Bool.{and_parts, cases_Bool, eq-eqb, eqb-true}
use Rattle.std.proofs.lemmas.List.Elements.{filter-append}
use Rattle.std.proofs.lemmas.List.Folds.{find-append}
use Rattle.llsc_base.specs.Images.{Program}
use Rattle.llsc_base.specs.Memory.{row_of}
use Rattle.llsc_base.specs.Sizes.{Numbers}
use Rattle.history.specs.Accesses.{history_of}
use Rattle.history.specs.ArmLegal.{IsArmLegal, MayAccess}
use Rattle.history.specs.Monitor.{at_rest_by, monitor_after}
use Rattle.history.specs.declared.entry.Access.{Access}
use Rattle.history.specs.declared.entry.Deed.{Deed}
use Rattle.history.specs.declared.entry.Deed.TheVariants as deed
use Rattle.history.specs.Accesses.{entry_by}
use Rattle.history.proofs.Marks.{granule-monitor_after}
use Rattle.guest_core.specs.Machine.{InstructionSet}
use Rattle.run_record.specs.declared.records.RunRecord.{RunRecord}
use Rattle.run_checker.specs.Sighted.{AreSightedFrom}
use Rattle.run_checker.specs.declared.sightings.Sighting.{Sighting}
use Rattle.run_explainer.specs.Events.{events_from, is_by, is_load_ex, row_at}
use Rattle.run_explainer.specs.Marks.{AreOfGood, IsEndedBy, accesses_in, marked_behind, reserved_row, row_unless}
use Rattle.run_explainer.specs.Reasons.{why_by, why_kept, why_of}
use Rattle.run_explainer.specs.Reservations.{Since, gives_up, or_here, reservation_of, reservation_since, since_load_ex, takes_away, writes_of}
use Rattle.run_explainer.specs.declared.events.Event.{Event}
use Rattle.run_explainer.specs.declared.reasons.Why.TheVariants.{AnotherRow, Written, Otherwise}
use Rattle.run_explainer.specs.declared.reservations.Reservation.{Reservation}
use Rattle.run_explainer.specs.declared.reservations.Writes.{Writes}
use Rattle.run_explainer.proofs.Marked.{AreLegal, legal_front, legal_last, mark_is}
use Rattle.run_explainer.proofs.Since.{is_load, since_at}

-- ---- the events of a good record

accesses_back : {I S : Type 0} (set : InstructionSet I S) (program : Program) (size : Numbers) (budget index : ℕ) (before accesses : List Access) (sightings : List Sighting)
    → AreSightedFrom set program size budget before accesses sightings → accesses_in (events_from index accesses sightings) ≡ accesses
accesses_back set program size budget index before [] [] sighted = refl
accesses_back set program size budget index before [] (sighting ∷ sightings) sighted = absurd sighted
accesses_back set program size budget index before (access ∷ accesses) [] sighted = absurd sighted
accesses_back set program size budget index before (access ∷ accesses) (sighting ∷ sightings) sighted =
    ap (λ l. access ∷ l) (accesses_back set program size budget (index + 1) (before ++ access ∷ []) accesses sightings sighted.1)

-- what Arm allows of a record, it allows of its events
pub legal_of : {I S : Type 0} (set : InstructionSet I S) (program : Program) (size : Numbers) (run : RunRecord) (events : List Event) → AreOfGood set program size run events
    → IsArmLegal (at_rest_by size.granule program.bytes size.threads) (history_of run.accesses) → AreLegal program size events
legal_of set program size run events good legal =
    let back = ap accesses_in good.are ∙ accesses_back set program size run.budget 0 [] run.accesses good.sightings good.sighted in
    subst (λ a. IsArmLegal (at_rest_by size.granule program.bytes size.threads) (history_of a)) (sym back) legal

-- ---- where the last load-exclusive stands

record HasSince (t : ℕ) (events : List Event) (since : Since) : Type 0 where
  front : List Event
  are : events ≡ front ++ (since.event ∷ since.later)
  loads : is_load t since.event ≡ true
  last : since_load_ex t since.later ≡ None

since_parts : (t : ℕ) (events : List Event) (since : Since) → since_load_ex t events ≡ Some since → HasSince t events since
since_parts t [] since is = cc
since_parts t (event ∷ events) since is = by_kind (since_load_ex t events) (is_load t event) refl refl is (since_parts t events)
  where
    by_kind : (found : Option Since) (here : Bool) → since_load_ex t events ≡ found → is_load t event ≡ here → or_here found here event events ≡ Some since
        → ((s : Since) → since_load_ex t events ≡ Some s → HasSince t events s) → HasSince t (event ∷ events) since
    by_kind (Some s) here found kind is rest =
        let same : s ≡ since = cc in
        let parts = rest s found in
        subst (HasSince t (event ∷ events)) same (record { front = event ∷ parts.front; are = ap (λ l. event ∷ l) parts.are; loads = parts.loads; last = parts.last })
    by_kind None true found kind is rest =
        let same : since_at event events ≡ since = cc in
        subst (HasSince t (event ∷ events)) same (record { front = []; are = refl; loads = kind; last = found })
    by_kind None false found kind is rest = cc

since_found : (t : ℕ) (front : List Event) (load : Event) (later : List Event) → is_load t load ≡ true → since_load_ex t later ≡ None
    → since_load_ex t (front ++ (load ∷ later)) ≡ Some (since_at load later)
since_found t [] load later loads last = ap (λ s. or_here s (is_load t load) load later) last ∙ ap (λ b. or_here None b load later) loads
since_found t (event ∷ front) load later loads last =
    ap (λ s. or_here s (is_load t event) event (front ++ (load ∷ later))) (since_found t front load later loads last)

none_here : (found : Option Since) (here : Bool) (event : Event) (events : List Event) → or_here found here event events ≡ None → (found ≡ None) × (here ≡ false)
none_here (Some s) here event events is = cc
none_here None true event events is = cc
none_here None false event events is = (refl, refl)

since_front : (t : ℕ) (front back : List Event) → since_load_ex t (front ++ back) ≡ None → since_load_ex t front ≡ None
since_front t [] back is = refl
since_front t (event ∷ front) back is =
    let parts = none_here (since_load_ex t (front ++ back)) (is_load t event) event (front ++ back) is in
    ap (λ s. or_here s (is_load t event) event front) (since_front t front back parts.0) ∙ ap (λ b. or_here None b event front) parts.1

-- ---- fronts in which nothing is found

or_none : (first second : Option Event) → option_or first second ≡ None → first ≡ None
or_none None second is = refl
or_none (Some event) second is = cc

find_front : (p : Event → Bool) (front back : List Event) → find p (front ++ back) ≡ None → find p front ≡ None
find_front p front back is = or_none (find p front) (find p back) (sym (find-append p front back) ∙ is)

nil_front : (front back : List Event) → front ++ back ≡ [] → front ≡ []
nil_front [] back is = refl
nil_front (event ∷ front) back is = cc

filter_front : (p : Event → Bool) (front back : List Event) → filter p (front ++ back) ≡ [] → filter p front ≡ []
filter_front p front back is = nil_front (filter p front) (filter p back) (sym (filter-append p front back) ∙ is)

-- ---- where the first of some writes stands

record HasFirst (p : Event → Bool) (events : List Event) (first : Event) : Type 0 where
  between : List Event
  after : List Event
  are : events ≡ between ++ (first ∷ after)
  none : filter p between ≡ []
  passes : p first ≡ true

filter_skips : (p : Event → Bool) (event : Event) (events : List Event) → p event ≡ false → filter p (event ∷ events) ≡ filter p events
filter_skips p event events not = rw not refl

filter_takes : (p : Event → Bool) (event : Event) (events : List Event) → p event ≡ true → filter p (event ∷ events) ≡ event ∷ filter p events
filter_takes p event events is = rw is refl

first_parts : (p : Event → Bool) (events : List Event) (writes : Writes) → writes_of (filter p events) ≡ Some writes → HasFirst p events writes.first
first_parts p [] writes is = cc
first_parts p (event ∷ events) writes is = elim (cases_Bool (p event)) [
  | inl passes ↦
      let some : writes_of (event ∷ filter p events) ≡ Some writes = ap writes_of (sym (filter_takes p event events passes)) ∙ is in
      let same : event ≡ writes.first = ap first_of some in
      subst (HasFirst p (event ∷ events)) same (record { between = []; after = events; are = refl; none = refl; passes = passes })
  | inr other ↦
      let parts = first_parts p events writes (ap writes_of (sym (filter_skips p event events other)) ∙ is) in
      record { between = event ∷ parts.between; after = parts.after; are = ap (λ l. event ∷ l) parts.are; none = filter_skips p event parts.between other ∙ parts.none; passes = parts.passes }
]
  where
    first_of : Option Writes → Event
    first_of None = event
    first_of (Some some) = some.first

-- ---- a reservation that is said to have ended by writes

record IsWritten (reservation : Option Reservation) (load : Event) (writes : Writes) : Type 0 where
  known : Reservation
  is : reservation ≡ Some known
  loaded : known.load ≡ load
  own : known.own ≡ None
  written : known.writes ≡ Some writes

why_written : (granule : ℕ) (failed : Event) (reservation : Option Reservation) (load : Event) (writes : Writes) (back : Bool)
    → why_by granule failed reservation ≡ Written load writes back → IsWritten reservation load writes
why_written granule failed None load writes back is = cc
why_written granule failed (Some known) load writes back is = elim (cases_Bool (row_at granule known.load == row_at granule failed)) [
  | inl same ↦ kept known.own known.writes refl refl (rw same at is)
  | inr apart ↦ absurd (let never : AnotherRow known.load ≡ Written load writes back = rw apart at is in let f : ⊥ = cc in f)
]
  where
    kept : (own : Option Event) (some : Option Writes) → known.own ≡ own → known.writes ≡ some → why_kept failed known own some ≡ Written load writes back
        → IsWritten (Some known) load writes
    kept (Some event) some owns has is = cc
    kept None None owns has is = cc
    kept None (Some some) owns has is =
        let loads : known.load ≡ load = cc in
        let same : some ≡ writes = cc in
        record { known = known; is = refl; loaded = loads; own = owns; written = has ∙ ap Some same }

record IsMapped (granule t : ℕ) (since : Option Since) (known : Reservation) : Type 0 where
  some : Since
  is : since ≡ Some some
  makes : reservation_since granule t some ≡ known

mapped : (granule t : ℕ) (since : Option Since) (known : Reservation) → option_map (reservation_since granule t) since ≡ Some known → IsMapped granule t since known
mapped granule t None known is = cc
mapped granule t (Some since) known is = let same : reservation_since granule t since ≡ known = cc in record { some = since; is = refl; makes = same }

is_loaded : (made : Deed) → is_load_ex made ≡ true → made ≡ deed.LoadEx
is_loaded deed.LoadEx is = refl
is_loaded deed.Load is = cc
is_loaded deed.Store is = cc
is_loaded deed.StoreEx is = cc
is_loaded deed.StoreFail is = cc
is_loaded deed.Clear is = cc

-- ---- the mark, event by event

module _ (program : Program) (size : Numbers) (t : ℕ) (front : List Event) (load : Event) where
  abbrev up : Event → Bool
  up = gives_up size.granule t (row_at size.granule load)

  abbrev away : Event → Bool
  away = takes_away size.granule t (row_at size.granule load)

  behind : (later : List Event) → AreLegal program size (front ++ (load ∷ later)) → is_load t load ≡ true → since_load_ex t later ≡ None
      → marked_behind program size t (front ++ (load ∷ later)) ≡ row_unless (row_at size.granule load) (find up later) (writes_of (filter away later))
  behind later legal loads last =
      mark_is program size t (front ++ (load ∷ later)) legal
      ∙ ap (λ s. reserved_row size.granule (option_map (reservation_since size.granule t) s)) (since_found t front load later loads last)

  still : (later : List Event) → AreLegal program size (front ++ (load ∷ later)) → is_load t load ≡ true → since_load_ex t later ≡ None
      → find up later ≡ None → filter away later ≡ [] → marked_behind program size t (front ++ (load ∷ later)) ≡ Some (row_at size.granule load)
  still later legal loads last own none =
      behind later legal loads last
      ∙ ap (λ o. row_unless (row_at size.granule load) o (writes_of (filter away later))) own
      ∙ ap (λ w. row_unless (row_at size.granule load) None (writes_of w)) none

  gone : (between : List Event) (write : Event) → AreLegal program size (front ++ (load ∷ (between ++ (write ∷ [])))) → is_load t load ≡ true
      → since_load_ex t (between ++ (write ∷ [])) ≡ None → find up (between ++ (write ∷ [])) ≡ None → filter away between ≡ [] → away write ≡ true
      → marked_behind program size t (front ++ (load ∷ (between ++ (write ∷ [])))) ≡ None
  gone between write legal loads last own none takes =
      let later = between ++ (write ∷ []) in
      let one : filter away later ≡ write ∷ [] = filter-append away between (write ∷ []) ∙ ap (λ l. l ++ filter away (write ∷ [])) none ∙ filter_takes away write [] takes in
      behind later legal loads last
      ∙ ap (λ o. row_unless (row_at size.granule load) o (writes_of (filter away later))) own
      ∙ ap (λ w. row_unless (row_at size.granule load) None (writes_of w)) one

  -- of a list that goes on behind some of it
  split_at : (first rest : List Event) → front ++ (load ∷ (first ++ rest)) ≡ (front ++ (load ∷ first)) ++ rest
  split_at first rest = sym (append_assoc front (load ∷ first) rest)

  ended_by : (later : List Event) (write : Event) → AreLegal program size (front ++ (load ∷ later)) → is_load t load ≡ true → since_load_ex t later ≡ None
      → find up later ≡ None → HasFirst away later write → IsEndedBy program size t (front ++ (load ∷ later)) load write
  ended_by later write legal loads last own first =
      let between = first.between in
      let both = and_parts (is_by t load) (is_load_ex load.access.deed) loads in
      let cut : later ≡ (between ++ (write ∷ [])) ++ first.after = first.are ∙ sym (append_assoc between (write ∷ []) first.after) in
      let through : front ++ (load ∷ later) ≡ (front ++ (load ∷ (between ++ (write ∷ [])))) ++ first.after =
      ap (λ l. front ++ (load ∷ l)) cut ∙ split_at (between ++ (write ∷ [])) first.after in
      record {
        before = front;
        between = between;
        after = first.after;
        are = ap (λ l. front ++ (load ∷ l)) first.are;
        own = eqb-true load.access.thread t both.0;
        loads = is_loaded load.access.deed both.1;
        takes = first.passes;
        marked = λ some rest parts.
            let left = rest ++ (write ∷ first.after) in
            let later_is : later ≡ some ++ left = first.are ∙ ap (λ l. l ++ (write ∷ first.after)) parts ∙ append_assoc some rest (write ∷ first.after) in
            let all : front ++ (load ∷ later) ≡ (front ++ (load ∷ some)) ++ left = ap (λ l. front ++ (load ∷ l)) later_is ∙ split_at some left in
            still some
            (legal_front program size (front ++ (load ∷ some)) left (subst (AreLegal program size) all legal))
            loads
            (since_front t some left (subst (λ l. since_load_ex t l ≡ None) later_is last))
            (find_front up some left (subst (λ l. find up l ≡ None) later_is own))
            (filter_front away some rest (subst (λ l. filter away l ≡ []) parts first.none));
        ended =
            gone between write
            (legal_front program size (front ++ (load ∷ (between ++ (write ∷ [])))) first.after (subst (AreLegal program size) through legal))
            loads
            (since_front t (between ++ (write ∷ [])) first.after (subst (λ l. since_load_ex t l ≡ None) cut last))
            (find_front up (between ++ (write ∷ [])) first.after (subst (λ l. find up l ≡ None) cut own))
            first.none
            first.passes;
      }

-- the first write that is told ended the mark
pub told_first : (program : Program) (size : Numbers) (events : List Event) (failed load : Event) (writes : Writes) (back : Bool)
    → AreLegal program size events → why_of size.granule events failed ≡ Written load writes back
    → IsEndedBy program size failed.access.thread events load writes.first
told_first program size events failed load writes back legal is =
    let t = failed.access.thread in
    let written = why_written size.granule failed (reservation_of size.granule t events) load writes back is in
    let made = mapped size.granule t (since_load_ex t events) written.known written.is in
    let since = made.some in
    let parts = since_parts t events since made.is in
    let row = row_at size.granule since.event in
    let own : find (gives_up size.granule t row) since.later ≡ None = ap (λ (r : Reservation). r.own) made.makes ∙ written.own in
    let some : writes_of (filter (takes_away size.granule t row) since.later) ≡ Some writes = ap (λ (r : Reservation). r.writes) made.makes ∙ written.written in
    let load_is : since.event ≡ load = ap (λ (r : Reservation). r.load) made.makes ∙ written.loaded in
    subst (λ e. IsEndedBy program size t events e writes.first) load_is
    (subst (λ l. IsEndedBy program size t l since.event writes.first) (sym parts.are)
    (ended_by program size t parts.front since.event since.later writes.first (subst (AreLegal program size) parts.are legal) parts.loads parts.last own
    (first_parts (takes_away size.granule t row) since.later writes some)))

-- ---- a store-exclusive that succeeds

record IsStanding (row at : ℕ) (own : Option Event) (writes : Option Writes) : Type 0 where
  same : row ≡ at
  not_own : own ≡ None
  not_written : writes ≡ None

standing : (row at : ℕ) (own : Option Event) (writes : Option Writes) → row_unless row own writes ≡ Some at → IsStanding row at own writes
standing row at None None is = let same : row ≡ at = cc in record { same = same; not_own = refl; not_written = refl }
standing row at None (Some writes) is = cc
standing row at (Some own) writes is = cc

no_cause : (granule : ℕ) (stored : Event) (reservation : Option Reservation) → reserved_row granule reservation ≡ Some (row_at granule stored)
    → (load : Event) × (why_by granule stored reservation ≡ Otherwise load)
no_cause granule stored None is = cc
no_cause granule stored (Some known) is =
    let stands = standing (row_at granule known.load) (row_at granule stored) known.own known.writes is in (
      known.load,
      ap (λ b. if b then why_kept stored known known.own known.writes else AnotherRow known.load) (eq-eqb (row_at granule known.load) (row_at granule stored) stands.same)
          ∙ ap (λ o. why_kept stored known o known.writes) stands.not_own
          ∙ ap (why_kept stored known None) stands.not_written,
    )

pub stored_freely : (program : Program) (size : Numbers) (events : List Event) (stored : Event) → stored.access.deed ≡ deed.StoreEx
    → AreLegal program size (events ++ stored ∷ []) → (load : Event) × (why_of size.granule events stored ≡ Otherwise load)
stored_freely program size events stored is legal =
    let start = at_rest_by size.granule program.bytes size.threads in
    let t = stored.access.thread in
    let place = stored.access.place in
    let m = monitor_after start (history_of (accesses_in events)) in
    let may : MayAccess m (entry_by deed.StoreEx t place stored.access.value) =
    subst (λ made. MayAccess m (entry_by made t place stored.access.value)) is (legal_last program size events stored legal) in
    let marked : marked_behind program size t events ≡ Some (row_at size.granule stored) =
    may.1 refl ∙ ap (λ g. Some (row_of g place)) (granule-monitor_after start (history_of (accesses_in events))) in
    no_cause size.granule stored (reservation_of size.granule t events)
    (sym (mark_is program size t events (legal_front program size events (stored ∷ []) legal)) ∙ marked)
