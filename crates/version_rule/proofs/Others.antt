-- What a thread knows stays so when another thread's entry comes.
use Rattle.std.proofs.Common.{◌≡◌, ◌≢◌, ℕ, ◌+◌, ◌*◌, ◌%◌, ◌<◌, ◌||◌, Bool, true, false, Option, Some, refl, ap, sym, ◌∙◌, subst, inl, inr, ⊎_elim, arith}
use Rattle.std.proofs.lemmas.Bool.{cases_Bool, cases_eq, eq-eqb, ne_eqb}
use Rattle.llsc_base.specs.Memory.{class_of, row_of}
use Rattle.llsc_base.specs.Sizes.{Numbers}
use Rattle.llsc_base.specs.declared.access.Place.{Place}
use Rattle.history.specs.Entry.{thread_of}
use Rattle.history.specs.Standing.{Standing, is_of_class, joined, updated}
use Rattle.history.specs.Follow.{MayJoin, flight_at}
use Rattle.history.specs.declared.entry.Entry.{Entry}
use Rattle.history.specs.declared.entry.Entry.TheVariants.{Read, Write, Fail, Clear, Watch, Miss, Begin, End, Start}
use Rattle.history.proofs.Marks.{updated-other, updated-same}
use Rattle.version_rule.specs.declared.hands.Doing.{Doing}
use Rattle.version_rule.specs.declared.hands.Doing.TheVariants.{Rest, Claimed, Holding, Written, Looking, First, Second}
use Rattle.version_rule.specs.declared.hands.Reserve.{Reserve}
use Rattle.version_rule.specs.declared.hands.Reserve.TheVariants.{Nothing, Row, Several}
use Rattle.version_rule.specs.declared.hands.Hand.{Hand}
use Rattle.version_rule.specs.Hands.{class_at}
use Rattle.version_rule.specs.Kept.{AreClasses}
use Rattle.version_rule.specs.Knowledge.{HasBegun, HasFound, IsAt, IsMarked, IsReserve, IsWritten, Knows, Watches}
use Rattle.shared_memory.proofs.Apart.{mark-other, reserved-other, stage-other}
use Rattle.version_rule.proofs.Classes.{IsOrderly, flies-at, odd-even}
use Rattle.version_rule.proofs.Held.{edges-grow, found-cell, held-cell, held-edges, held-mark, held-writes, other-row}

-- ---- how far a thread has come

module _ (size : Numbers) (s : Standing) (e : Entry) (u : ℕ) (ne : u ≢ thread_of e) (may : MayJoin size s e) (orderly : IsOrderly size s e) (k : AreClasses size s) where
  begun-other : (p : Place) (version : ℕ) (ex : Bool) → HasBegun size s u p version ex → HasBegun size (joined size s e) u p version ex
  begun-other p version ex h =
      let flies = flies-at size s u p (ap flight_at h.stage) in
      record {
        stage = stage-other size s e u ne ∙ h.stage;
        even = h.even;
        edges = held-edges size s k e u (class_at size p) ne may orderly flies ∙ h.edges;
        writes = ap (λ (n : ℕ). 2 * n) (held-writes size s k e u (class_at size p) ne may flies) ∙ h.writes;
        marked = λ is. held-mark size s k e u (row_of size.granule p) ne may flies (h.marked is);
      }

  written-other : (p : Place) (version : ℕ) → IsWritten size s u p version → IsWritten size (joined size s e) u p version
  written-other p version h =
      let flies = flies-at size s u p (ap flight_at h.stage) in
      record {
        stage = stage-other size s e u ne ∙ h.stage;
        even = h.even;
        edges = held-edges size s k e u (class_at size p) ne may orderly flies ∙ h.edges;
        writes = ap (λ (n : ℕ). 2 * n) (held-writes size s k e u (class_at size p) ne may flies) ∙ h.writes;
      }

  found-other : (p : Place) (version : ℕ) → HasFound size s u p version → HasFound size (joined size s e) u p version
  found-other p version h = record {
    stage = stage-other size s e u ne ∙ h.stage;
    even = h.even;
    most = let grow = edges-grow size s e (class_at size p) in let most = h.most in omega arith;
  }

  at-other : (doing : Doing) → IsAt size s u doing → IsAt size (joined size s e) u doing
  at-other Rest at = stage-other size s e u ne ∙ at
  at-other (Claimed p version ex) at = begun-other p version ex at
  at-other (Holding p version ex cell) at = (begun-other p version ex at.0, held-cell size s k e u p ne may (flies-at size s u p (ap flight_at at.0.stage)) ∙ at.1)
  at-other (Written p version) at = written-other p version at
  at-other (Looking p) at = stage-other size s e u ne ∙ at
  at-other (First p version) at = found-other p version at
  at-other (Second p version cell) at = (found-other p version at.0, found-cell size s k e p version cell may at.0.even at.0.most at.1)

-- ---- reservations

pub watches-stay : (size : Numbers) (s s' : Standing) (u row version : ℕ) → s'.reserved u ≡ s.reserved u → s'.overtaken u ≡ s.overtaken u → s'.stirred u ≡ s.stirred u
    → (s.passed u ≡ true → s'.passed u ≡ true) → s'.edges (class_of size.classes row) ≡ s.edges (class_of size.classes row)
    → (s.overtaken u ≡ false → IsMarked size s u row → IsMarked size s' u row)
    → Watches size s u row version → Watches size s' u row version
watches-stay size s s' u row version reserved overtaken stirred passed edges marked k = record {
  is = reserved ∙ k.is;
  even = k.even;
  still = λ h. edges ∙ k.still (sym overtaken ∙ h);
  gone = λ h. let g = k.gone (sym overtaken ∙ h) in (subst (λ (n : ℕ). version < n) (sym edges) g.0, passed g.1);
  stirs = stirred ∙ k.stirs ∙ sym overtaken;
  marks = λ h. marked (sym overtaken ∙ h) (k.marks (sym overtaken ∙ h));
}

pub marked-same : (size : Numbers) (s s' : Standing) (u row : ℕ) → s'.stage u ≡ s.stage u → (s.mark u ≡ Some row → s'.mark u ≡ Some row)
    → IsMarked size s u row → IsMarked size s' u row
marked-same size s s' u row stage mark h = ⊎_elim (λ l. inl (l.0, stage ∙ l.1, l.2)) (λ r. inr (mark r)) h

true-false : {A : Type 0} → (b : Bool) → b ≡ true → b ≡ false → A
true-false b is not = let f : true ≡ false = sym is ∙ not in let g : ⊥ = cc in absurd g

-- a write of another begins in the class
watches-begun : (size : Numbers) (s s' : Standing) (u row version : ℕ) → s'.reserved u ≡ s.reserved u → s'.overtaken u ≡ true → s'.stirred u ≡ true → s'.passed u ≡ true
    → s'.edges (class_of size.classes row) ≡ s.edges (class_of size.classes row) + 1 → Watches size s u row version → Watches size s' u row version
watches-begun size s s' u row version reserved overtaken stirred passed edges k = record {
  is = reserved ∙ k.is;
  even = k.even;
  still = λ h. true-false (s'.overtaken u) overtaken h;
  gone = λ h. (
    elim (cases_Bool (s.overtaken u)) [
      | inl gone ↦ let g = (k.gone gone).0 in omega arith
      | inr not ↦ let g = k.still not in omega arith
    ],
    passed,
  );
  stirs = stirred ∙ sym overtaken;
  marks = λ h. true-false (s'.overtaken u) overtaken h;
}

-- a write of another is over in the class, which had gone on
watches-ended : (size : Numbers) (s s' : Standing) (u row version : ℕ) → s'.reserved u ≡ s.reserved u → s'.overtaken u ≡ s.overtaken u → s'.stirred u ≡ s.stirred u → s'.passed u ≡ s.passed u
    → s'.edges (class_of size.classes row) ≡ s.edges (class_of size.classes row) + 1 → s.edges (class_of size.classes row) % 2 ≡ 1 → Watches size s u row version → Watches size s' u row version
watches-ended size s s' u row version reserved overtaken stirred passed edges odd k =
    let never : s'.overtaken u ≡ false → ⊥ = λ h. (odd-even (s.edges (class_of size.classes row)) odd (ap (λ (n : ℕ). n % 2) (k.still (sym overtaken ∙ h)) ∙ k.even)) in
    record {
      is = reserved ∙ k.is;
      even = k.even;
      still = λ h. absurd (never h);
      gone = λ h. let g = k.gone (sym overtaken ∙ h) in let less = g.0 in (omega arith, passed ∙ g.1);
      stirs = stirred ∙ k.stirs ∙ sym overtaken;
      marks = λ h. absurd (never h);
    }

or_true : (b : Bool) → (b || true) ≡ true
or_true true = refl
or_true false = refl

or_false : (b : Bool) → (b || false) ≡ b
or_false true = refl
or_false false = refl

-- what an entry makes of a flag of a thread that holds a reservation
flag-here : (size : Numbers) (flag : Bool) (reserved : Option ℕ) (class row : ℕ) → reserved ≡ Some row → class ≡ class_of size.classes row → (flag || is_of_class size class reserved) ≡ true
flag-here size flag reserved class row is same =
    ap (λ (o : Option ℕ). flag || is_of_class size class o) is ∙ ap (λ (b : Bool). flag || b) (eq-eqb class (class_of size.classes row) same) ∙ or_true flag

pub flag-else : (size : Numbers) (flag : Bool) (reserved : Option ℕ) (class row : ℕ) → reserved ≡ Some row → class ≢ class_of size.classes row → (flag || is_of_class size class reserved) ≡ flag
flag-else size flag reserved class row is other =
    ap (λ (o : Option ℕ). flag || is_of_class size class o) is ∙ ap (λ (b : Bool). flag || b) (ne_eqb class (class_of size.classes row) other) ∙ or_false flag

flag-kept : (size : Numbers) (flag : Bool) (reserved : Option ℕ) (class : ℕ) → flag ≡ true → (flag || is_of_class size class reserved) ≡ true
flag-kept size flag reserved class is = ap (λ (b : Bool). b || is_of_class size class reserved) is

module _ (size : Numbers) (s : Standing) (k : AreClasses size s) where
  -- by an entry that changes no flags and no class
  watches-quiet : (e : Entry) (u row version : ℕ) → u ≢ thread_of e → (joined size s e).overtaken u ≡ s.overtaken u → (joined size s e).stirred u ≡ s.stirred u
      → (s.passed u ≡ true → (joined size s e).passed u ≡ true) → (joined size s e).edges (class_of size.classes row) ≡ s.edges (class_of size.classes row)
      → (s.overtaken u ≡ false → s.mark u ≡ Some row → (joined size s e).mark u ≡ Some row)
      → Watches size s u row version → Watches size (joined size s e) u row version
  watches-quiet e u row version ne overtaken stirred passed edges mark w =
      watches-stay size s (joined size s e) u row version (reserved-other size s e u ne) overtaken stirred passed edges
      (λ h. marked-same size s (joined size s e) u row (stage-other size s e u ne) (mark h)) w

  watches-other : (e : Entry) (u row version : ℕ) → u ≢ thread_of e → MayJoin size s e → Watches size s u row version → Watches size (joined size s e) u row version
  watches-other (Read t p value ex) u row version ne may w =
      watches-quiet (Read t p value ex) u row version ne refl refl (λ h. h) refl (λ h m. mark-other size s (Read t p value ex) u ne refl ∙ m) w
  watches-other (Fail t p value cause) u row version ne may w =
      watches-quiet (Fail t p value cause) u row version ne refl refl (λ h. h) refl (λ h m. mark-other size s (Fail t p value cause) u ne refl ∙ m) w
  watches-other (Clear t) u row version ne may w =
      watches-quiet (Clear t) u row version ne refl refl (λ h. h) refl (λ h m. mark-other size s (Clear t) u ne refl ∙ m) w
  watches-other (Start t child entry arg) u row version ne may w =
      watches-quiet (Start t child entry arg) u row version ne refl refl (λ h. h) refl (λ h m. mark-other size s (Start t child entry arg) u ne refl ∙ m) w
  watches-other (Miss t p) u row version ne may w =
      watches-quiet (Miss t p) u row version ne refl refl (λ h. h) refl (λ h m. mark-other size s (Miss t p) u ne refl ∙ m) w
  watches-other (Watch t p) u row version ne may w =
      watches-quiet (Watch t p) u row version ne (updated-other s.overtaken t false u ne) (updated-other s.stirred t false u ne)
      (λ h. updated-other (λ (x : ℕ). s.passed x || is_of_class size (class_at size p) (s.reserved x)) t false u ne ∙ flag-kept size (s.passed u) (s.reserved u) (class_at size p) h)
      refl (λ h m. mark-other size s (Watch t p) u ne refl ∙ m) w
  watches-other (Write t p value ex) u row version ne may w =
      watches-quiet (Write t p value ex) u row version ne refl refl (λ h. h) refl
      (λ h m. other-row size s k u t p value ex row ne (λ same. odd-even (s.edges (class_at size p)) (k.lone t (class_at size p) (flies-at size s t p (ap flight_at may.0))).0
      (ap (λ (c : ℕ). s.edges c % 2) same ∙ ap (λ (n : ℕ). n % 2) (w.still h) ∙ w.even)) m) w
  watches-other (End t p) u row version ne may w = elim (cases_eq (class_of size.classes row) (class_at size p)) [
    | inl same ↦ watches-ended size s (joined size s (End t p)) u row version (reserved-other size s (End t p) u ne) refl refl refl
        (ap (updated s.edges (class_at size p) (s.edges (class_at size p) + 1)) same ∙ updated-same s.edges (class_at size p) (s.edges (class_at size p) + 1) ∙ ap (λ (c : ℕ). s.edges c + 1) (sym same))
        (ap (λ (c : ℕ). s.edges c % 2) same ∙ (k.lone t (class_at size p) (flies-at size s t p (ap flight_at may))).0) w
    | inr other ↦ watches-quiet (End t p) u row version ne refl refl (λ h. h) (updated-other s.edges (class_at size p) (s.edges (class_at size p) + 1) (class_of size.classes row) other)
        (λ h m. mark-other size s (End t p) u ne refl ∙ m) w
  ]
  watches-other (Begin t p) u row version ne may w =
      let at = class_at size p in
      let s' = joined size s (Begin t p) in
      let passed = updated-other (λ (x : ℕ). s.passed x || is_of_class size at (s.reserved x)) t (s.passed t) u ne in
      let overtaken = updated-other (λ (x : ℕ). s.overtaken x || is_of_class size at (s.reserved x)) t (s.overtaken t) u ne in
      elim (cases_eq at (class_of size.classes row)) [
        | inl same ↦ watches-begun size s s' u row version (reserved-other size s (Begin t p) u ne)
            (overtaken ∙ flag-here size (s.overtaken u) (s.reserved u) at row w.is same) (flag-here size (s.stirred u) (s.reserved u) at row w.is same)
            (passed ∙ flag-here size (s.passed u) (s.reserved u) at row w.is same)
            (ap (updated s.edges at (s.edges at + 1)) (sym same) ∙ updated-same s.edges at (s.edges at + 1) ∙ ap (λ (c : ℕ). s.edges c + 1) same) w
        | inr other ↦ watches-quiet (Begin t p) u row version ne (overtaken ∙ flag-else size (s.overtaken u) (s.reserved u) at row w.is other) (flag-else size (s.stirred u) (s.reserved u) at row w.is other)
            (λ h. passed ∙ flag-kept size (s.passed u) (s.reserved u) at h)
            (updated-other s.edges at (s.edges at + 1) (class_of size.classes row) (λ same. other (sym same)))
            (λ h m. mark-other size s (Begin t p) u ne refl ∙ m) w
      ]

  reserve-other : (e : Entry) (u : ℕ) (reserve : Reserve) → u ≢ thread_of e → MayJoin size s e → IsReserve size s u reserve → IsReserve size (joined size s e) u reserve
  reserve-other e u Nothing ne may h = reserved-other size s e u ne ∙ h
  reserve-other e u (Row row version) ne may h = watches-other e u row version ne may h
  reserve-other e u Several ne may h = tt

  -- all that a thread knows
  pub knows-other : (e : Entry) (u : ℕ) (h : Hand) → u ≢ thread_of e → MayJoin size s e → IsOrderly size s e → Knows size s u h → Knows size (joined size s e) u h
  knows-other e u h ne may orderly known = record {
    at = at-other size s e u ne may orderly k h.doing known.at;
    reserve = reserve-other e u h.reserve ne may known.reserve;
    agrees = known.agrees;
  }
