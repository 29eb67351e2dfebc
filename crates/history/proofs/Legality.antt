-- A history is legal exactly where each of its entries may come as things stand.
use Rattle.std.proofs.Common.{Some, ◌≡◌, ◌≢◌, ℕ, ◌*◌, ◌/◌, true, false, List, [], ◌∷◌, ◌++◌, Option, None, length, nat_eq, refl, sym, ap, subst, ◌∙◌, inl, inr, arith}
use Rattle.std.proofs.lemmas.List.{length-replicate}
use Rattle.std.proofs.lemmas.Bool.{cases_Bool, eq-eqb, eqb-true, eqb-false}
use Rattle.llsc_base.specs.Memory.{cell_of, row_of, value_at}
use Rattle.llsc_base.specs.Sizes.{Numbers}
use Rattle.llsc_base.specs.declared.access.Place.{Place}
use Rattle.row_bytes.specs.Cell.{value_in_cell}
use Rattle.history.specs.Memory.{IsMemory}
use Rattle.history.specs.Entry.{thread_of}
use Rattle.history.specs.Parts.{entries_of}
use Rattle.history.specs.Monitor.{Monitor, at_rest_by, marked_row, monitor_after}
use Rattle.history.specs.ArmLegal.{IsArmLegal, IsSound, MayAccess}
use Rattle.history.specs.Cause.{HasCause, MayFail, flight_of}
use Rattle.history.specs.Legal.{IsComplete, IsLegal}
use Rattle.history.specs.Standing.{Stage, Standing, rests, standing_after, standing_of, updated}
use Rattle.history.specs.Follow.{MayFailAt, MayFollow, MayJoin, flight_at}
use Rattle.history.specs.declared.entry.Cause.{Cause}
use Rattle.history.specs.declared.entry.Cause.TheVariants.{Absent, Lost, Limit}
use Rattle.history.specs.declared.entry.Entry.{Entry}
use Rattle.history.specs.declared.entry.Entry.TheVariants.{Read, Write, Fail, Clear, Watch, Miss, Begin, End, Start}
use Rattle.history.proofs.Ends.{by_ends}
use Rattle.history.proofs.Appends.{IsArmLegal-front, IsArmLegal-from_accesses_of, IsArmLegal-last, IsArmLegal-push, IsArmLegal-to_accesses_of, MayFollow-back, MayFollow-front, MayFollow-last, MayFollow-push, entries_of-append, standing_after-push}
use Rattle.history.proofs.Marks.{IsAsLarge-monitor_after, marked_row-standing, updated-same, updated-other}
use Rattle.history.proofs.Prefixes.{IsLegal-front}
use Rattle.history.proofs.Steps.{flight_of-push, flight_step, reservation_of-standing}
use Rattle.history.proofs.Flags.{overtaken-standing, passed-standing, writes_in_class-standing}
use Rattle.history.proofs.CellLaws.{CellsAre, CellsAre-standing, value_at-CellsAre}
use Rattle.history.proofs.Stages.{AreStaged, AreStaged-MayFollow, MayJoin-stage, joined-stage, last_stage, last_stage-standing, stage_after, stage_before}
use Rattle.history.proofs.Operations.{AreFinished-AreStaged, AreOperations-AreStaged, AreStaged-AreOperations, last_stage-AreFinished}

-- ---- the monitor and how things stand

record Ties (size : Numbers) (m : Monitor) (s : Standing) : Type 0 where
  bytes : length m.memory ≡ size.mem
  threads : length m.marks ≡ size.threads
  whole : size.mem ≡ 8 * (size.mem / 8)
  cells : CellsAre m s
  granule : m.granule ≡ size.granule
  marks : (t : ℕ) → marked_row m t ≡ s.mark t

ties : (size : Numbers) (bytes : List ℕ) (history : List Entry) → IsMemory size bytes → IsArmLegal (at_rest_by size.granule bytes size.threads) history
    → Ties size (monitor_after (at_rest_by size.granule bytes size.threads) history) (standing_after size (standing_of bytes) history)
ties size bytes history memory legal =
    let large = IsAsLarge-monitor_after (at_rest_by size.granule bytes size.threads) history legal in
    let whole = memory.whole in
    record {
      bytes = large.bytes ∙ memory.sized;
      threads = large.threads ∙ length-replicate size.threads None;
      whole = omega arith;
      cells = CellsAre-standing size bytes size.threads history memory.small legal;
      granule = large.granule;
      marks = λ t. marked_row-standing size bytes size.threads t history legal;
    }

sound_here : (size : Numbers) (m : Monitor) (s : Standing) (t : ℕ) (place : Place) (value : ℕ) → Ties size m s
    → IsSound size.threads size.mem t place value → IsSound (length m.marks) (length m.memory) t place value
sound_here size m s t place value tie sound = record { known = rw tie.threads sound.known; aligned = sound.aligned; inside = rw tie.bytes sound.inside; fits = sound.fits }

sound_there : (size : Numbers) (m : Monitor) (s : Standing) (t : ℕ) (place : Place) (value : ℕ) → Ties size m s
    → IsSound (length m.marks) (length m.memory) t place value → IsSound size.threads size.mem t place value
sound_there size m s t place value tie sound = record { known = rw tie.threads at sound.known; aligned = sound.aligned; inside = rw tie.bytes at sound.inside; fits = sound.fits }

value_is : (size : Numbers) (m : Monitor) (s : Standing) (t : ℕ) (place : Place) (value : ℕ) → Ties size m s
    → IsSound size.threads size.mem t place value → value_at m.memory place ≡ value_in_cell (s.cells (cell_of place)) place
value_is size m s t place value tie sound =
    value_at-CellsAre m s place (size.mem / 8) tie.cells (tie.bytes ∙ tie.whole) sound.aligned (rw tie.bytes sound.inside)

may_access : (size : Numbers) (m : Monitor) (s : Standing) (e : Entry) → Ties size m s → MayJoin size s e → MayAccess m e
may_access size m s (Read t place value true) tie may = (sound_here size m s t place value tie may.1, may.2 ∙ sym (value_is size m s t place value tie may.1))
may_access size m s (Read t place value false) tie may = (sound_here size m s t place value tie may.1, may.2 ∙ sym (value_is size m s t place value tie may.1))
may_access size m s (Write t place value ex) tie may = (sound_here size m s t place value tie may.1, λ x. tie.marks t ∙ may.2 x ∙ ap (λ (g : ℕ). Some (row_of g place)) (sym tie.granule))
may_access size m s (Fail t place value cause) tie may = sound_here size m s t place value tie may.1
may_access size m s (Clear t) tie may = rw tie.threads may.1
may_access size m s (Watch t place) tie may = tt
may_access size m s (Miss t place) tie may = tt
may_access size m s (Begin t place) tie may = tt
may_access size m s (End t place) tie may = tt
may_access size m s (Start t child entry arg) tie may = tt

-- ---- the write of a thread that is in flight

flight_own : (t : ℕ) (e : Entry) → nat_eq (thread_of e) t ≡ true → flight_step t (flight_at (stage_before e)) e ≡ flight_at (stage_after e)
flight_own t (Read thread place value true) own = refl
flight_own t (Read thread place value false) own = refl
flight_own t (Write thread place value ex) own = refl
flight_own t (Fail thread place value cause) own = refl
flight_own t (Clear thread) own = refl
flight_own t (Watch thread place) own = refl
flight_own t (Miss thread place) own = refl
flight_own t (Begin thread place) own = rw own refl
flight_own t (End thread place) own = rw own refl
flight_own t (Start thread child entry arg) own = refl

flight_other : (t : ℕ) (flight : Option Place) (e : Entry) → nat_eq (thread_of e) t ≡ false → flight_step t flight e ≡ flight
flight_other t flight (Read thread place value ex) other = refl
flight_other t flight (Write thread place value ex) other = refl
flight_other t flight (Fail thread place value cause) other = refl
flight_other t flight (Clear thread) other = refl
flight_other t flight (Watch thread place) other = refl
flight_other t flight (Miss thread place) other = refl
flight_other t flight (Begin thread place) other = rw other refl
flight_other t flight (End thread place) other = rw other refl
flight_other t flight (Start thread child entry arg) other = refl

abbrev FlightIs : Numbers → List ℕ → ℕ → List Entry → Type 0
FlightIs size bytes t history = MayFollow size (standing_of bytes) history
    → flight_of t history ≡ flight_at ((standing_after size (standing_of bytes) history).stage t)

-- the write of a thread that is in flight is that of its stage
pub flight_of-standing : (size : Numbers) (bytes : List ℕ) (t : ℕ) (history : List Entry) → FlightIs size bytes t history
flight_of-standing size bytes t history = by_ends (FlightIs size bytes t) (λ _. refl) more history
  where
    more : (entries : List Entry) (e : Entry) → FlightIs size bytes t entries → FlightIs size bytes t (entries ++ e ∷ [])
    more entries e before follows =
        let s = standing_after size (standing_of bytes) entries in
        let was = before (MayFollow-front size (standing_of bytes) entries (e ∷ []) follows) in
        let may = MayFollow-last size (standing_of bytes) entries e follows in
        let new : (standing_after size (standing_of bytes) (entries ++ e ∷ [])).stage t ≡ updated s.stage (thread_of e) (stage_after e) t =
        ap (λ (x : Standing). x.stage t) (standing_after-push size (standing_of bytes) entries e)
        ∙ ap (λ (f : ℕ → Stage). f t) (joined-stage size s e) in
        flight_of-push t entries e ∙ ap (λ (f : Option Place). flight_step t f e) was ∙ elim (cases_Bool (nat_eq (thread_of e) t)) [
          | inl own ↦
              let same : thread_of e ≡ t = eqb-true (thread_of e) t own in
              let at : s.stage t ≡ stage_before e = ap s.stage (sym same) ∙ MayJoin-stage size s e may in
              let after : updated s.stage (thread_of e) (stage_after e) t ≡ stage_after e =
              ap (updated s.stage (thread_of e) (stage_after e)) (sym same) ∙ updated-same s.stage (thread_of e) (stage_after e) in
              ap (λ (x : Stage). flight_step t (flight_at x) e) at ∙ flight_own t e own ∙ ap flight_at (sym (new ∙ after))
          | inr other ↦
              let ne : t ≢ thread_of e = λ same. eqb-false (thread_of e) t other (sym same) in
              flight_other t (flight_at (s.stage t)) e other
              ∙ ap flight_at (sym (new ∙ updated-other s.stage (thread_of e) (stage_after e) t ne))
        ]

-- ---- causes

fails_here : (size : Numbers) (bytes : List ℕ) (past : List Entry) (t : ℕ) (place : Place) (cause : Cause)
    → MayFailAt size (standing_after size (standing_of bytes) past) t (row_of size.granule place) cause → MayFail size past t place cause
fails_here size bytes past t place Absent may = λ reserved. may (sym (reservation_of-standing size t bytes past) ∙ reserved)
fails_here size bytes past t place Lost may =
    let reserved = reservation_of-standing size t bytes past ∙ may.0 in
    (reserved, passed-standing size t (row_of size.granule place) bytes past reserved ∙ may.1)
fails_here size bytes past t place Limit may =
    let reserved = reservation_of-standing size t bytes past ∙ may.0 in (
      reserved,
      overtaken-standing size t (row_of size.granule place) bytes past reserved ∙ may.1,
      rw (writes_in_class-standing size (row_of size.granule place) bytes past) at may.2,
    )

fails_there : (size : Numbers) (bytes : List ℕ) (past : List Entry) (t : ℕ) (place : Place) (cause : Cause)
    → MayFail size past t place cause → MayFailAt size (standing_after size (standing_of bytes) past) t (row_of size.granule place) cause
fails_there size bytes past t place Absent may = λ reserved. may (reservation_of-standing size t bytes past ∙ reserved)
fails_there size bytes past t place Lost may =
    (sym (reservation_of-standing size t bytes past) ∙ may.0, sym (passed-standing size t (row_of size.granule place) bytes past may.0) ∙ may.1)
fails_there size bytes past t place Limit may = (
  sym (reservation_of-standing size t bytes past) ∙ may.0,
  sym (overtaken-standing size t (row_of size.granule place) bytes past may.0) ∙ may.1,
  rw (writes_in_class-standing size (row_of size.granule place) bytes past) may.2,
)

-- an entry that may come has its cause
cause_here : (size : Numbers) (bytes : List ℕ) (past : List Entry) (e : Entry) → MayFollow size (standing_of bytes) past
    → MayJoin size (standing_after size (standing_of bytes) past) e → HasCause size past e
cause_here size bytes past (Fail t place value cause) follows may = fails_here size bytes past t place cause may.2
cause_here size bytes past (Miss t place) follows may = record {
  other = may.1.other;
  another = may.1.another;
  target = may.1.target;
  flies = flight_of-standing size bytes may.1.other past follows ∙ may.1.flies;
  near = may.1.near;
}
cause_here size bytes past (Read t place value ex) follows may = tt
cause_here size bytes past (Write t place value ex) follows may = tt
cause_here size bytes past (Clear t) follows may = tt
cause_here size bytes past (Watch t place) follows may = tt
cause_here size bytes past (Begin t place) follows may = tt
cause_here size bytes past (End t place) follows may = tt
cause_here size bytes past (Start t child entry arg) follows may = tt

-- an entry that is at its stage, that Arm allows and that has its cause may come
may_join : (size : Numbers) (bytes : List ℕ) (past : List Entry) (e : Entry) (m : Monitor)
    → Ties size m (standing_after size (standing_of bytes) past) → MayFollow size (standing_of bytes) past
    → (standing_after size (standing_of bytes) past).stage (thread_of e) ≡ stage_before e → MayAccess m e → HasCause size past e
    → MayJoin size (standing_after size (standing_of bytes) past) e
may_join size bytes past (Read t place value true) m tie follows stage may cause =
    let s = standing_after size (standing_of bytes) past in
    let sound = sound_there size m s t place value tie may.0 in (stage, sound, may.1 ∙ value_is size m s t place value tie sound)
may_join size bytes past (Read t place value false) m tie follows stage may cause =
    let s = standing_after size (standing_of bytes) past in
    let sound = sound_there size m s t place value tie may.0 in (stage, sound, may.1 ∙ value_is size m s t place value tie sound)
may_join size bytes past (Write t place value ex) m tie follows stage may cause =
    let s = standing_after size (standing_of bytes) past in
    (stage, sound_there size m s t place value tie may.0, λ x. sym (tie.marks t) ∙ may.1 x ∙ ap (λ (g : ℕ). Some (row_of g place)) tie.granule)
may_join size bytes past (Fail t place value c) m tie follows stage may cause =
    let s = standing_after size (standing_of bytes) past in
    (stage, sound_there size m s t place value tie may, fails_there size bytes past t place c cause)
may_join size bytes past (Clear t) m tie follows stage may cause = (stage, rw tie.threads at may)
may_join size bytes past (Watch t place) m tie follows stage may cause = stage
may_join size bytes past (Miss t place) m tie follows stage may cause = (
  stage,
  record {
    other = cause.other;
    another = cause.another;
    target = cause.target;
    flies = sym (flight_of-standing size bytes cause.other past follows) ∙ cause.flies;
    near = cause.near;
  },
)
may_join size bytes past (Begin t place) m tie follows stage may cause = stage
may_join size bytes past (End t place) m tie follows stage may cause = stage
may_join size bytes past (Start t child entry arg) m tie follows stage may cause = stage

-- ---- a history whose entries follow is legal

abbrev Allowed : Numbers → List ℕ → List Entry → Type 0
Allowed size bytes history = MayFollow size (standing_of bytes) history → IsArmLegal (at_rest_by size.granule bytes size.threads) history

pub IsArmLegal-MayFollow : (size : Numbers) (bytes : List ℕ) → IsMemory size bytes → (history : List Entry)
    → MayFollow size (standing_of bytes) history → IsArmLegal (at_rest_by size.granule bytes size.threads) history
IsArmLegal-MayFollow size bytes memory history = by_ends (Allowed size bytes) (λ _. tt) more history
  where
    more : (entries : List Entry) (e : Entry) → Allowed size bytes entries → Allowed size bytes (entries ++ e ∷ [])
    more entries e before follows =
        let legal = before (MayFollow-front size (standing_of bytes) entries (e ∷ []) follows) in
        IsArmLegal-push (at_rest_by size.granule bytes size.threads) entries e legal
        (may_access size _ _ e (ties size bytes entries memory legal) (MayFollow-last size (standing_of bytes) entries e follows))

pub IsLegal-MayFollow : (size : Numbers) (bytes : List ℕ) (history : List Entry) → IsMemory size bytes
    → MayFollow size (standing_of bytes) history → IsLegal size bytes history
IsLegal-MayFollow size bytes history memory follows = record {
  accesses = IsArmLegal-to_accesses_of (at_rest_by size.granule bytes size.threads) history (IsArmLegal-MayFollow size bytes memory history follows);
  operations = λ t. AreOperations-AreStaged t history (AreStaged-MayFollow size (standing_of bytes) t history follows);
  causes = λ past entry rest are.
      let P : List Entry → Type 0 = λ xs. MayFollow size (standing_of bytes) xs in
      let all = subst P are follows in
      cause_here size bytes past entry (MayFollow-front size (standing_of bytes) past (entry ∷ rest) all)
      (MayFollow-back size (standing_of bytes) past (entry ∷ rest) all).0;
}

-- ---- the entries of a legal history follow

abbrev Followed : Numbers → List ℕ → List Entry → Type 0
Followed size bytes history = IsLegal size bytes history → MayFollow size (standing_of bytes) history

-- the last of staged entries comes at the stage after the others
last_staged : (stage : Stage) (front : List Entry) (e : Entry) → AreStaged stage (front ++ e ∷ []) → last_stage stage front ≡ stage_before e
last_staged stage [] e h = h.0
last_staged stage (first ∷ front) e h = last_staged (stage_after first) front e h.1

pub MayFollow-IsLegal : (size : Numbers) (bytes : List ℕ) → IsMemory size bytes → (history : List Entry)
    → IsLegal size bytes history → MayFollow size (standing_of bytes) history
MayFollow-IsLegal size bytes memory history = by_ends (Followed size bytes) (λ _. tt) more history
  where
    more : (entries : List Entry) (e : Entry) → Followed size bytes entries → Followed size bytes (entries ++ e ∷ [])
    more entries e before legal =
        let start = at_rest_by size.granule bytes size.threads in
        let t = thread_of e in
        let follows = before (IsLegal-front size bytes entries (e ∷ []) legal) in
        let accesses = IsArmLegal-from_accesses_of start (entries ++ e ∷ []) legal.accesses in
        let own : entries_of t (e ∷ []) ≡ e ∷ [] = rw (eq-eqb t t refl) refl in
        let staged = AreStaged-AreOperations t (entries_of t (entries ++ e ∷ [])) (legal.operations t) in
        let P : List Entry → Type 0 = λ xs. AreStaged rests xs in
        let parts : entries_of t (entries ++ e ∷ []) ≡ entries_of t entries ++ e ∷ [] =
        entries_of-append t entries (e ∷ []) ∙ ap (λ (xs : List Entry). entries_of t entries ++ xs) own in
        let stage = last_stage-standing size (standing_of bytes) t entries ∙ last_staged rests (entries_of t entries) e (subst P parts staged) in
        MayFollow-push size (standing_of bytes) entries e follows
        (may_join size bytes entries e (monitor_after start entries)
        (ties size bytes entries memory (IsArmLegal-front start entries (e ∷ []) accesses)) follows stage
        (IsArmLegal-last start entries e accesses)
        (legal.causes entries e [] refl))

-- ---- complete histories

pub IsComplete-rests : (size : Numbers) (bytes : List ℕ) (history : List Entry) → MayFollow size (standing_of bytes) history
    → ((t : ℕ) → (standing_after size (standing_of bytes) history).stage t ≡ rests) → IsComplete history
IsComplete-rests size bytes history follows at t =
    AreFinished-AreStaged t history (AreStaged-MayFollow size (standing_of bytes) t history follows)
    (sym (last_stage-standing size (standing_of bytes) t history) ∙ at t)

pub rests-IsComplete : (size : Numbers) (bytes : List ℕ) (history : List Entry) → IsComplete history
    → (t : ℕ) → (standing_after size (standing_of bytes) history).stage t ≡ rests
rests-IsComplete size bytes history complete t =
    last_stage-standing size (standing_of bytes) t history ∙ last_stage-AreFinished t (entries_of t history) (complete t)
