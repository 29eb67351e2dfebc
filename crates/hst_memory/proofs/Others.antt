-- What a thread knows stays so when another thread's entry comes.
use Rattle.std.proofs.Common.{◌≡◌, ◌≢◌, ◌⊎◌, ℕ, ◌+◌, ◌&&◌, ◌||◌, Bool, true, false, Option, Some, refl, ap, sym, ◌∙◌, inl, inr, ⊎_elim, arith}
use Rattle.std.proofs.lemmas.Bool.{cases_eq, eq-eqb, ne_eqb}
use Rattle.llsc_base.specs.Memory.{class_of, row_of}
use Rattle.llsc_base.specs.Sizes.{Numbers}
use Rattle.llsc_base.specs.declared.access.Place.{Place}
use Rattle.history.specs.Entry.{thread_of}
use Rattle.history.specs.Standing.{Standing, begun, is_of_class, joined, updated}
use Rattle.history.specs.Follow.{MayJoin, flight_at}
use Rattle.history.specs.declared.entry.Entry.{Entry}
use Rattle.history.specs.declared.entry.Entry.TheVariants.{Read, Write, Fail, Clear, Watch, Miss, Begin, End, Start}
use Rattle.history.proofs.Marks.{updated-other, updated-same}
use Rattle.history.proofs.Stages.{MayJoin-stage, stage_after, stage_before}
use Rattle.shared_memory.proofs.Apart.{is_written, mark-other, mark-written, reserved-other, stage-other, stage-own}
use Rattle.hst_memory.specs.declared.hands.Doing.{Doing}
use Rattle.hst_memory.specs.declared.hands.Doing.TheVariants.{Rest, Inside, Begun, Written, Alone, Watching, Done, AloneBegun, AloneWritten}
use Rattle.hst_memory.specs.declared.hands.Reserve.{Reserve}
use Rattle.hst_memory.specs.declared.hands.Reserve.TheVariants.{Nothing, Row, Several}
use Rattle.hst_memory.specs.declared.hands.Hand.{Hand}
use Rattle.hst_memory.specs.inner.Knowledge.{Flies, IsAt, IsMarked, IsReserve, Keeps, Knows}

-- ---- flights

-- a write is begun
abbrev pub is_begun : Entry → Bool
is_begun (Begin thread place) = true
is_begun _ = false

flight-step : (e : Entry) (place : Place) → is_begun e ≡ false → flight_at (stage_after e) ≡ Some place → flight_at (stage_before e) ≡ Some place
flight-step (Read thread at value ex) place plain h = absurd (let f : ⊥ = cc in f)
flight-step (Write thread at value ex) place plain h = h
flight-step (Fail thread at value cause) place plain h = absurd (let f : ⊥ = cc in f)
flight-step (Clear thread) place plain h = absurd (let f : ⊥ = cc in f)
flight-step (Watch thread at) place plain h = absurd (let f : ⊥ = cc in f)
flight-step (Miss thread at) place plain h = absurd (let f : ⊥ = cc in f)
flight-step (Begin thread at) place plain h = absurd (let f : ⊥ = cc in f)
flight-step (End thread at) place plain h = absurd (let f : ⊥ = cc in f)
flight-step (Start thread child entry arg) place plain h = absurd (let f : ⊥ = cc in f)

-- what is in flight after an entry was so before it, or has just begun
pub flies-back : (size : Numbers) (s : Standing) (e : Entry) (w class : ℕ) → MayJoin size s e → is_begun e ≡ false
    → Flies size (joined size s e) w class → Flies size s w class
flies-back size s e w class may plain h = elim (cases_eq w (thread_of e)) [
  | inl same ↦
      let after : flight_at (stage_after e) ≡ Some h.place = ap flight_at (sym (ap (joined size s e).stage same ∙ stage-own size s e)) ∙ h.flies in
      record { place = h.place; flies = ap flight_at (ap s.stage same ∙ MayJoin-stage size s e may) ∙ flight-step e h.place plain after; near = h.near }
  | inr other ↦ record { place = h.place; flies = ap flight_at (sym (stage-other size s e w other)) ∙ h.flies; near = h.near }
]

pub flies-begun : (size : Numbers) (s : Standing) (t : ℕ) (place : Place) (w class : ℕ) → class_of size.classes (row_of size.granule place) ≢ class
    → Flies size (joined size s (Begin t place)) w class → Flies size s w class
flies-begun size s t place w class apart h = elim (cases_eq w t) [
  | inl same ↦
      let at : flight_at (begun place) ≡ Some h.place = ap flight_at (sym (ap (joined size s (Begin t place)).stage same ∙ stage-own size s (Begin t place))) ∙ h.flies in
      let is : place ≡ h.place = cc in
      absurd (apart (ap (λ (p : Place). class_of size.classes (row_of size.granule p)) is ∙ h.near))
  | inr other ↦ record { place = h.place; flies = ap flight_at (sym (stage-other size s (Begin t place) w other)) ∙ h.flies; near = h.near }
]

-- ---- reservations

pub keeps-stay : (size : Numbers) (s s' : Standing) (u row : ℕ) → s'.reserved u ≡ s.reserved u → s'.passed u ≡ s.passed u
    → s'.name (class_of size.classes row) ≡ s.name (class_of size.classes row)
    → (s.passed u ≡ false → (w : ℕ) → w ≢ u → Flies size s' w (class_of size.classes row) → Flies size s w (class_of size.classes row))
    → (s.passed u ≡ false → IsMarked size s u row → IsMarked size s' u row)
    → Keeps size s u row → Keeps size s' u row
keeps-stay size s s' u row reserved passed name back marked k = record {
  is = reserved ∙ k.is;
  mine = λ h. name ∙ k.mine (sym passed ∙ h);
  gone = λ h same. k.gone (sym passed ∙ h) (sym name ∙ same);
  clear = λ h w ne flies. k.clear (sym passed ∙ h) w ne (back (sym passed ∙ h) w ne flies);
  marks = λ h. marked (sym passed ∙ h) (k.marks (sym passed ∙ h));
}

marked-same : (size : Numbers) (s s' : Standing) (u row : ℕ) → s'.stage u ≡ s.stage u → (s.mark u ≡ Some row → s'.mark u ≡ Some row)
    → IsMarked size s u row → IsMarked size s' u row
marked-same size s s' u row stage mark h = ⊎_elim (λ l. inl (l.0, stage ∙ l.1, l.2)) (λ r. inr (mark r)) h

-- another thread comes to the class of a reservation
keeps-passed : (size : Numbers) (s s' : Standing) (u t row : ℕ) → u ≢ t → s'.reserved u ≡ s.reserved u → s'.passed u ≡ true
    → s'.name (class_of size.classes row) ≡ t + 1 → Keeps size s u row → Keeps size s' u row
keeps-passed size s s' u t row ne reserved passed name k = record {
  is = reserved ∙ k.is;
  mine = λ h. absurd (let f : true ≡ false = sym passed ∙ h in let g : ⊥ = cc in g);
  gone = λ h same. ne (let e : t + 1 ≡ u + 1 = sym name ∙ same in omega arith);
  clear = λ h. absurd (let f : true ≡ false = sym passed ∙ h in let g : ⊥ = cc in g);
  marks = λ h. absurd (let f : true ≡ false = sym passed ∙ h in let g : ⊥ = cc in g);
}

or_true : (b : Bool) → (b || true) ≡ true
or_true true = refl
or_true false = refl

or_false : (b : Bool) → (b || false) ≡ b
or_false true = refl
or_false false = refl

-- by a Watch or a Begin, which do the same to flags and names
passed-here : (size : Numbers) (s : Standing) (t u class row : ℕ) (own : Bool) → u ≢ t → s.reserved u ≡ Some row → class ≡ class_of size.classes row
    → updated (λ (k : ℕ). s.passed k || is_of_class size class (s.reserved k)) t own u ≡ true
passed-here size s t u class row own ne is same =
    updated-other (λ (k : ℕ). s.passed k || is_of_class size class (s.reserved k)) t own u ne
    ∙ ap (λ (o : Option ℕ). s.passed u || is_of_class size class o) is
    ∙ ap (λ (b : Bool). s.passed u || b) (eq-eqb class (class_of size.classes row) same)
    ∙ or_true (s.passed u)

passed-else : (size : Numbers) (s : Standing) (t u class row : ℕ) (own : Bool) → u ≢ t → s.reserved u ≡ Some row → class ≢ class_of size.classes row
    → updated (λ (k : ℕ). s.passed k || is_of_class size class (s.reserved k)) t own u ≡ s.passed u
passed-else size s t u class row own ne is other =
    updated-other (λ (k : ℕ). s.passed k || is_of_class size class (s.reserved k)) t own u ne
    ∙ ap (λ (o : Option ℕ). s.passed u || is_of_class size class o) is
    ∙ ap (λ (b : Bool). s.passed u || b) (ne_eqb class (class_of size.classes row) other)
    ∙ or_false (s.passed u)

keeps-quiet : (size : Numbers) (s : Standing) (e : Entry) (u row : ℕ) → u ≢ thread_of e → MayJoin size s e → is_begun e ≡ false
    → (joined size s e).passed u ≡ s.passed u → (joined size s e).name (class_of size.classes row) ≡ s.name (class_of size.classes row)
    → (s.passed u ≡ false → s.mark u ≡ Some row → (joined size s e).mark u ≡ Some row)
    → Keeps size s u row → Keeps size (joined size s e) u row
keeps-quiet size s e u row ne may plain passed name mark k =
    keeps-stay size s (joined size s e) u row (reserved-other size s e u ne) passed name (λ h w ne' flies. flies-back size s e w (class_of size.classes row) may plain flies)
    (λ h. marked-same size s (joined size s e) u row (stage-other size s e u ne) (mark h)) k

pub keeps-other : (size : Numbers) (s : Standing) (e : Entry) (u row : ℕ) → u ≢ thread_of e → MayJoin size s e → Keeps size s u row → Keeps size (joined size s e) u row
keeps-other size s (Read t place value ex) u row ne may k =
    keeps-quiet size s (Read t place value ex) u row ne may refl refl refl (λ h m. mark-other size s (Read t place value ex) u ne refl ∙ m) k
keeps-other size s (Fail t place value cause) u row ne may k =
    keeps-quiet size s (Fail t place value cause) u row ne may refl refl refl (λ h m. mark-other size s (Fail t place value cause) u ne refl ∙ m) k
keeps-other size s (Clear t) u row ne may k =
    keeps-quiet size s (Clear t) u row ne may refl refl refl (λ h m. mark-other size s (Clear t) u ne refl ∙ m) k
keeps-other size s (Miss t place) u row ne may k =
    keeps-quiet size s (Miss t place) u row ne may refl refl refl (λ h m. mark-other size s (Miss t place) u ne refl ∙ m) k
keeps-other size s (End t place) u row ne may k =
    keeps-quiet size s (End t place) u row ne may refl refl refl (λ h m. mark-other size s (End t place) u ne refl ∙ m) k
keeps-other size s (Start t child entry arg) u row ne may k =
    keeps-quiet size s (Start t child entry arg) u row ne may refl refl refl (λ h m. mark-other size s (Start t child entry arg) u ne refl ∙ m) k
keeps-other size s (Write t place value ex) u row ne may k =
    keeps-quiet size s (Write t place value ex) u row ne may refl refl refl
    (λ h m. mark-written size s t place value ex u row (ap (λ (b : Bool). b && ex) (ne_eqb t u (λ same. ne (sym same))))
    (λ same. k.clear h t (λ is. ne (sym is)) (record { place = place; flies = ap flight_at may.0; near = ap (class_of size.classes) same })) m) k
keeps-other size s (Watch t place) u row ne may k =
    let class = class_of size.classes (row_of size.granule place) in
    elim (cases_eq class (class_of size.classes row)) [
      | inl same ↦ keeps-passed size s (joined size s (Watch t place)) u t row ne (reserved-other size s (Watch t place) u ne)
          (passed-here size s t u class row false ne k.is same)
          (ap (updated s.name class (t + 1)) (sym same) ∙ updated-same s.name class (t + 1)) k
      | inr other ↦ keeps-quiet size s (Watch t place) u row ne may refl (passed-else size s t u class row false ne k.is other)
          (updated-other s.name class (t + 1) (class_of size.classes row) (λ is. other (sym is)))
          (λ h m. mark-other size s (Watch t place) u ne refl ∙ m) k
    ]
keeps-other size s (Begin t place) u row ne may k =
    let class = class_of size.classes (row_of size.granule place) in
    let e = Begin t place in
    elim (cases_eq class (class_of size.classes row)) [
      | inl same ↦ keeps-passed size s (joined size s e) u t row ne (reserved-other size s e u ne)
          (passed-here size s t u class row (s.passed t) ne k.is same)
          (ap (updated s.name class (t + 1)) (sym same) ∙ updated-same s.name class (t + 1)) k
      | inr other ↦ keeps-stay size s (joined size s e) u row (reserved-other size s e u ne) (passed-else size s t u class row (s.passed t) ne k.is other)
          (updated-other s.name class (t + 1) (class_of size.classes row) (λ is. other (sym is)))
          (λ h w ne' flies. flies-begun size s t place w (class_of size.classes row) other flies)
          (λ h. marked-same size s (joined size s e) u row (stage-other size s e u ne) (λ m. mark-other size s e u ne refl ∙ m)) k
    ]

-- ---- all that a thread knows

-- what a store-exclusive knows of its mark isn't at stake
abbrev pub IsSafe : Doing → Entry → Type 0
IsSafe doing e = (is_written e ≡ false) ⊎ ((place : Place) → doing ≡ AloneBegun place → ⊥)

at-other : (size : Numbers) (s : Standing) (e : Entry) (u : ℕ) (doing : Doing) → u ≢ thread_of e → IsSafe doing e → IsAt size s u doing → IsAt size (joined size s e) u doing
at-other size s e u Rest ne safe at = stage-other size s e u ne ∙ at
at-other size s e u (Inside place) ne safe at = stage-other size s e u ne ∙ at
at-other size s e u (Begun place) ne safe at = stage-other size s e u ne ∙ at
at-other size s e u (Written place) ne safe at = stage-other size s e u ne ∙ at
at-other size s e u Alone ne safe at = stage-other size s e u ne ∙ at
at-other size s e u (Watching place) ne safe at = stage-other size s e u ne ∙ at
at-other size s e u Done ne safe at = stage-other size s e u ne ∙ at
at-other size s e u (AloneBegun place) ne safe at =
    (stage-other size s e u ne ∙ at.0, ⊎_elim (λ plain. mark-other size s e u ne plain ∙ at.1) (λ not. absurd (not place refl)) safe)
at-other size s e u (AloneWritten place) ne safe at = stage-other size s e u ne ∙ at

reserve-other : (size : Numbers) (s : Standing) (e : Entry) (u : ℕ) (reserve : Reserve) → u ≢ thread_of e → MayJoin size s e → IsReserve size s u reserve → IsReserve size (joined size s e) u reserve
reserve-other size s e u Nothing ne may h = reserved-other size s e u ne ∙ h
reserve-other size s e u (Row row) ne may h = keeps-other size s e u row ne may h
reserve-other size s e u Several ne may h = tt

pub knows-other : (size : Numbers) (s : Standing) (e : Entry) (u : ℕ) (h : Hand) → u ≢ thread_of e → MayJoin size s e → IsSafe h.doing e
    → Knows size s u h → Knows size (joined size s e) u h
knows-other size s e u h ne may safe k = record {
  at = at-other size s e u h.doing ne safe k.at;
  reserve = reserve-other size s e u h.reserve ne may k.reserve;
  agrees = k.agrees;
}
