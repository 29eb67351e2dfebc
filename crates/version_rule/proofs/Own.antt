-- What a thread knows after an entry of its own.
use Rattle.std.proofs.Common.{◌≡◌, ◌≢◌, ℕ, ◌+◌, ◌*◌, ◌%◌, ◌&&◌, ◌||◌, ◌==◌, Bool, true, false, if◌then◌else◌, nat_eq, Option, Some, None, refl, ap, sym, ◌∙◌, subst, inl, inr, ⊎_elim, arith}
use Rattle.std.proofs.lemmas.Bool.{eq-eqb, eqb-false}
use Rattle.llsc_base.specs.Memory.{cell_of, class_of, row_of}
use Rattle.llsc_base.specs.Sizes.{Numbers}
use Rattle.llsc_base.specs.declared.access.Place.{Place}
use Rattle.history.specs.Standing.{Standing, begun, is_of_class, joined, looked, rests, written}
use Rattle.history.specs.declared.entry.Cause.{Cause}
use Rattle.history.specs.declared.entry.Entry.{Entry}
use Rattle.history.specs.declared.entry.Entry.TheVariants.{Read, Write, Fail, Clear, Watch, Miss, Begin, End, Start}
use Rattle.history.proofs.Marks.{updated-other, updated-same}
use Rattle.history.proofs.Steps.{joined-reserved}
use Rattle.version_rule.specs.declared.hands.Doing.{Doing}
use Rattle.version_rule.specs.declared.hands.Doing.TheVariants.{Rest, Claimed, Holding, Written, Looking, First, Second}
use Rattle.version_rule.specs.declared.hands.Reserve.{Reserve}
use Rattle.version_rule.specs.declared.hands.Reserve.TheVariants.{Nothing, Row, Several}
use Rattle.version_rule.specs.declared.hands.Hand.{Hand}
use Rattle.version_rule.specs.Hands.{class_at, hand, reserve_after}
use Rattle.version_rule.specs.Kept.{AreClasses}
use Rattle.version_rule.specs.Knowledge.{Agrees, IsAt, IsReserve, Knows, Watches}
use Rattle.shared_memory.proofs.Apart.{mark-written, stage-own}
use Rattle.version_rule.proofs.Others.{flag-else, watches-stay}

-- ---- a reservation stays

watches-own : (size : Numbers) (s : Standing) (e : Entry) (t row version : ℕ) → (joined size s e).reserved t ≡ s.reserved t → (joined size s e).overtaken t ≡ s.overtaken t → (joined size s e).stirred t ≡ s.stirred t
    → (joined size s e).passed t ≡ s.passed t → (joined size s e).edges (class_of size.classes row) ≡ s.edges (class_of size.classes row)
    → ((place : Place) → s.stage t ≡ looked place → ⊥) → (s.mark t ≡ Some row → (joined size s e).mark t ≡ Some row)
    → Watches size s t row version → Watches size (joined size s e) t row version
watches-own size s e t row version reserved overtaken stirred passed edges unlooked mark k =
    watches-stay size s (joined size s e) t row version reserved overtaken stirred (λ h. passed ∙ h) edges
    (λ h m. ⊎_elim (λ l. absurd (unlooked l.0 l.1)) (λ r. inr (mark r)) m) k

rests-unlooked : (s : Standing) (t : ℕ) → s.stage t ≡ rests → (place : Place) → s.stage t ≡ looked place → ⊥
rests-unlooked s t at place h = let e : rests ≡ looked place = sym at ∙ h in let f : ⊥ = cc in f

begun-unlooked : (s : Standing) (t : ℕ) (p : Place) → s.stage t ≡ begun p → (place : Place) → s.stage t ≡ looked place → ⊥
begun-unlooked s t p at place h = let e : begun p ≡ looked place = sym at ∙ h in let f : ⊥ = cc in f

written-unlooked : (s : Standing) (t : ℕ) (p : Place) → s.stage t ≡ written p → (place : Place) → s.stage t ≡ looked place → ⊥
written-unlooked s t p at place h = let e : written p ≡ looked place = sym at ∙ h in let f : ⊥ = cc in f

reserve-own : (size : Numbers) (s : Standing) (e : Entry) (t : ℕ) (reserve : Reserve) → (joined size s e).reserved t ≡ s.reserved t
    → ((row version : ℕ) → reserve ≡ Row row version → Watches size s t row version → Watches size (joined size s e) t row version)
    → IsReserve size s t reserve → IsReserve size (joined size s e) t reserve
reserve-own size s e t Nothing reserved keeps h = reserved ∙ h
reserve-own size s e t (Row row version) reserved keeps h = keeps row version refl h
reserve-own size s e t Several reserved keeps h = tt

-- ---- what agrees with any reservation

pub agrees-rest : (size : Numbers) (reserve : Reserve) → Agrees size Rest reserve
agrees-rest size Nothing = tt
agrees-rest size (Row row version) = tt
agrees-rest size Several = tt

agrees-first : (size : Numbers) (p : Place) (version : ℕ) (reserve : Reserve) → Agrees size (First p version) reserve
agrees-first size p version Nothing = tt
agrees-first size p version (Row row at) = tt
agrees-first size p version Several = tt

agrees-second : (size : Numbers) (p : Place) (version cell : ℕ) (reserve : Reserve) → Agrees size (Second p version cell) reserve
agrees-second size p version cell Nothing = tt
agrees-second size p version cell (Row row at) = tt
agrees-second size p version cell Several = tt

-- ---- loads

pub own-read : (size : Numbers) (s : Standing) (t : ℕ) (place : Place) (value : ℕ) (h : Hand) → h.doing ≡ Rest
    → Knows size s t h → Knows size (joined size s (Read t place value false)) t h
own-read size s t place value h rest k =
    let e = Read t place value false in
    let at : s.stage t ≡ rests = subst (λ (d : Doing). IsAt size s t d) rest k.at in
    record {
      at = subst (λ (d : Doing). IsAt size (joined size s e) t d) (sym rest) (stage-own size s e);
      reserve = reserve-own size s e t h.reserve refl (λ row version is keeps. watches-own size s e t row version refl refl refl refl refl (rests-unlooked s t at) (λ m. m) keeps) k.reserve;
      agrees = k.agrees;
    }

-- ---- threads that are started

pub own-start : (size : Numbers) (s : Standing) (t child entry arg : ℕ) (h : Hand) → h.doing ≡ Rest
    → Knows size s t h → Knows size (joined size s (Start t child entry arg)) t h
own-start size s t child entry arg h rest k =
    let e = Start t child entry arg in
    let at : s.stage t ≡ rests = subst (λ (d : Doing). IsAt size s t d) rest k.at in
    record {
      at = subst (λ (d : Doing). IsAt size (joined size s e) t d) (sym rest) (stage-own size s e);
      reserve = reserve-own size s e t h.reserve refl (λ row version is keeps. watches-own size s e t row version refl refl refl refl refl (rests-unlooked s t at) (λ m. m) keeps) k.reserve;
      agrees = k.agrees;
    }

-- ---- stores

and-none : (b : Bool) → (b && false) ≡ false
and-none true = refl
and-none false = refl

either-none : (b : Bool) → (let n : Option ℕ = None in if b then None else n) ≡ None
either-none true = refl
either-none false = refl

begun-none : (size : Numbers) (s : Standing) (t : ℕ) (place : Place) → s.reserved t ≡ None → (joined size s (Begin t place)).reserved t ≡ None
begun-none size s t place none =
    joined-reserved size s (Begin t place) t
    ∙ ap (λ (r : Option ℕ). if nat_eq t t && is_of_class size (class_at size place) r then None else r) none
    ∙ either-none (nat_eq t t && false)

begun-row : (size : Numbers) (s : Standing) (t : ℕ) (place : Place) (row : ℕ) (same : Bool) → (class_at size place == class_of size.classes row) ≡ same → s.reserved t ≡ Some row
    → (joined size s (Begin t place)).reserved t ≡ (if same then None else Some row)
begun-row size s t place row same test is =
    joined-reserved size s (Begin t place) t
    ∙ ap (λ (r : Option ℕ). if nat_eq t t && is_of_class size (class_at size place) r then None else r) is
    ∙ ap (λ (b : Bool). if b && (class_at size place == class_of size.classes row) then None else Some row) (eq-eqb t t refl)
    ∙ ap (λ (b : Bool). if b then None else Some row) test

record HasKept (size : Numbers) (s : Standing) (t : ℕ) (place : Place) (version : ℕ) (reserve : Reserve) : Type 0 where
  reserve_is : IsReserve size s t reserve
  agrees : Agrees size (Claimed place version false) reserve

begun-watches : (size : Numbers) (s : Standing) (t : ℕ) (place : Place) (version row at : ℕ) (same : Bool) → (class_at size place == class_of size.classes row) ≡ same
    → s.stage t ≡ rests → Watches size s t row at → HasKept size (joined size s (Begin t place)) t place version (if same then Nothing else Row row at)
begun-watches size s t place version row at true test rest k = record { reserve_is = begun-row size s t place row true test k.is; agrees = tt }
begun-watches size s t place version row at false test rest k =
    let e = Begin t place in
    let class = class_at size place in
    let apart : class ≢ class_of size.classes row = eqb-false class (class_of size.classes row) test in
    record {
      reserve_is = watches-own size s e t row at (begun-row size s t place row false test k.is ∙ sym k.is)
          (updated-same (λ (u : ℕ). s.overtaken u || is_of_class size class (s.reserved u)) t (s.overtaken t))
          (flag-else size (s.stirred t) (s.reserved t) class row k.is apart)
          (updated-same (λ (u : ℕ). s.passed u || is_of_class size class (s.reserved u)) t (s.passed t))
          (updated-other s.edges class (s.edges class + 1) (class_of size.classes row) (λ is. apart (sym is)))
          (rests-unlooked s t rest) (λ m. m) k;
      agrees = (refl, apart);
    }

begun-reserve : (size : Numbers) (s : Standing) (t : ℕ) (place : Place) (version : ℕ) (reserve : Reserve) → s.stage t ≡ rests → IsReserve size s t reserve
    → HasKept size (joined size s (Begin t place)) t place version (reserve_after size place reserve)
begun-reserve size s t place version Nothing rest h = record { reserve_is = begun-none size s t place h; agrees = tt }
begun-reserve size s t place version (Row row at) rest h = begun-watches size s t place version row at (class_at size place == class_of size.classes row) refl rest h
begun-reserve size s t place version Several rest h = record { reserve_is = tt; agrees = tt }

-- a store claims its class
pub own-claim : (size : Numbers) (s : Standing) (t : ℕ) (place : Place) (version : ℕ) (reserve : Reserve) → AreClasses size s → version % 2 ≡ 0 → s.edges (class_at size place) ≡ version
    → Knows size s t (hand Rest reserve) → Knows size (joined size s (Begin t place)) t (hand (Claimed place version false) (reserve_after size place reserve))
own-claim size s t place version reserve classes even tag k =
    let class = class_at size place in
    let kept = begun-reserve size s t place version reserve k.at k.reserve in
    record {
      at = record {
        stage = stage-own size s (Begin t place);
        even = even;
        edges = updated-same s.edges class (s.edges class + 1) ∙ ap (λ (n : ℕ). n + 1) tag;
        writes = classes.quiet class (ap (λ (n : ℕ). n % 2) tag ∙ even) ∙ tag;
        marked = λ h. absurd (let f : ⊥ = cc in f);
      };
      reserve = kept.reserve_is;
      agrees = kept.agrees;
    }

-- who holds a class loads the cell
pub own-take : (size : Numbers) (s : Standing) (t : ℕ) (place : Place) (version : ℕ) (ex : Bool) (cell : ℕ) (reserve : Reserve) → s.cells (cell_of place) ≡ cell
    → Knows size s t (hand (Claimed place version ex) reserve) → Knows size s t (hand (Holding place version ex cell) reserve)
own-take size s t place version ex cell reserve is k = record { at = (k.at, is); reserve = k.reserve; agrees = agrees-holding reserve k.agrees }
  where
    agrees-holding : (reserve : Reserve) → Agrees size (Claimed place version ex) reserve → Agrees size (Holding place version ex cell) reserve
    agrees-holding Nothing h = tt
    agrees-holding (Row row at) h = h
    agrees-holding Several h = tt

plain-reserved : (size : Numbers) (s : Standing) (t : ℕ) (place : Place) (value : ℕ) → (joined size s (Write t place value false)).reserved t ≡ s.reserved t
plain-reserved size s t place value = ap (λ (b : Bool). if b then None else s.reserved t) (and-none (nat_eq t t))

written-watches : (size : Numbers) (s : Standing) (t : ℕ) (place : Place) (value : ℕ) (ex : Bool) (row at : ℕ) → ex ≡ false → class_at size place ≢ class_of size.classes row
    → s.stage t ≡ begun place → Watches size s t row at → Watches size (joined size s (Write t place value ex)) t row at
written-watches size s t place value true row at plain apart stage k = absurd (let f : ⊥ = cc in f)
written-watches size s t place value false row at plain apart stage k =
    watches-own size s (Write t place value false) t row at (plain-reserved size s t place value) refl refl refl refl (begun-unlooked s t place stage)
    (λ m. mark-written size s t place value false t row (and-none (nat_eq t t)) (λ same. apart (ap (class_of size.classes) same)) m) k

written-reserve : (size : Numbers) (s : Standing) (t : ℕ) (place : Place) (value : ℕ) (version : ℕ) (ex : Bool) (cell : ℕ) (reserve : Reserve) → s.stage t ≡ begun place
    → Agrees size (Holding place version ex cell) reserve → IsReserve size s t reserve → IsReserve size (joined size s (Write t place value ex)) t reserve
written-reserve size s t place value version ex cell Nothing stage agrees h = ap (λ (r : Option ℕ). if nat_eq t t && ex then None else r) h ∙ either-none (nat_eq t t && ex)
written-reserve size s t place value version ex cell (Row row at) stage agrees h = written-watches size s t place value ex row at agrees.0 agrees.1 stage h
written-reserve size s t place value version ex cell Several stage agrees h = tt

twice-next : (n version : ℕ) → 2 * n ≡ version → 2 * (n + 1) ≡ version + 2
twice-next n version h = omega arith

-- it stores the changed cell
pub own-change : (size : Numbers) (s : Standing) (t : ℕ) (place : Place) (value : ℕ) (version : ℕ) (ex : Bool) (cell : ℕ) (reserve : Reserve)
    → Knows size s t (hand (Holding place version ex cell) reserve) → Knows size (joined size s (Write t place value ex)) t (hand (Written place version) reserve)
own-change size s t place value version ex cell reserve k =
    let class = class_at size place in
    record {
      at = record {
        stage = stage-own size s (Write t place value ex);
        even = k.at.0.even;
        edges = k.at.0.edges;
        writes = ap (λ (n : ℕ). 2 * n) (updated-same s.writes class (s.writes class + 1)) ∙ twice-next (s.writes class) version k.at.0.writes;
      };
      reserve = written-reserve size s t place value version ex cell reserve k.at.0.stage k.agrees k.reserve;
      agrees = agrees-written reserve k.agrees;
    }
  where
    agrees-written : (reserve : Reserve) → Agrees size (Holding place version ex cell) reserve → Agrees size (Written place version) reserve
    agrees-written Nothing h = tt
    agrees-written (Row row at) h = h.1
    agrees-written Several h = tt

-- it gives the class back
pub own-release : (size : Numbers) (s : Standing) (t : ℕ) (place : Place) (version : ℕ) (reserve : Reserve)
    → Knows size s t (hand (Written place version) reserve) → Knows size (joined size s (End t place)) t (hand Rest reserve)
own-release size s t place version reserve k = record {
  at = stage-own size s (End t place);
  reserve = released reserve k.agrees k.reserve;
  agrees = agrees-rest size reserve;
}
  where
    released : (reserve : Reserve) → Agrees size (Written place version) reserve → IsReserve size s t reserve → IsReserve size (joined size s (End t place)) t reserve
    released Nothing agrees h = h
    released (Row row at) agrees h =
        watches-own size s (End t place) t row at refl refl refl refl (updated-other s.edges (class_at size place) (s.edges (class_at size place) + 1) (class_of size.classes row) (λ is. agrees (sym is)))
        (written-unlooked s t place k.at.stage) (λ m. m) h
    released Several agrees h = tt

-- ---- exclusive accesses

-- a load-exclusive finds an even tag
pub own-watch : (size : Numbers) (s : Standing) (t : ℕ) (place : Place) (version : ℕ) → version % 2 ≡ 0 → s.edges (class_at size place) ≡ version
    → Knows size (joined size s (Watch t place)) t (hand (Looking place) (Row (row_of size.granule place) version))
own-watch size s t place version even tag =
    let e = Watch t place in
    let s' = joined size s e in
    let row = row_of size.granule place in
    let quiet : s'.overtaken t ≡ false = updated-same s.overtaken t false in
    record {
      at = stage-own size s e;
      reserve = record {
        is = updated-same s.reserved t (Some row);
        even = even;
        still = λ h. tag;
        gone = λ h. absurd (let f : false ≡ true = sym quiet ∙ h in let g : ⊥ = cc in g);
        stirs = updated-same s.stirred t false ∙ sym quiet;
        marks = λ h. inl (place, stage-own size s e, refl);
      };
      agrees = refl;
    }

-- it finds an odd one
pub own-miss : (size : Numbers) (s : Standing) (t : ℕ) (place : Place) → Knows size (joined size s (Miss t place)) t (hand (Looking place) Nothing)
own-miss size s t place = record { at = stage-own size s (Miss t place); reserve = updated-same s.reserved t None; agrees = tt }

-- and reads
pub own-read_ex : (size : Numbers) (s : Standing) (t : ℕ) (place : Place) (value : ℕ) (reserve : Reserve)
    → Knows size s t (hand (Looking place) reserve) → Knows size (joined size s (Read t place value true)) t (hand Rest reserve)
own-read_ex size s t place value Nothing k = record { at = stage-own size s (Read t place value true); reserve = k.reserve; agrees = tt }
own-read_ex size s t place value (Row row at) k =
    let e = Read t place value true in
    record {
      at = stage-own size s e;
      reserve = watches-stay size s (joined size s e) t row at refl refl refl (λ h. h) refl
          (λ h m. inr (updated-same s.mark t (Some (row_of size.granule place)) ∙ ap (λ (r : ℕ). Some r) k.agrees)) k.reserve;
      agrees = tt;
    }
own-read_ex size s t place value Several k = record { at = stage-own size s (Read t place value true); reserve = tt; agrees = tt }

-- a store-exclusive claims its class, which is as it was: its thread is marked
pub own-claim_ex : (size : Numbers) (s : Standing) (t : ℕ) (place : Place) (version : ℕ) → AreClasses size s → s.stage t ≡ rests → Watches size s t (row_of size.granule place) version → s.overtaken t ≡ false
    → Knows size (joined size s (Begin t place)) t (hand (Claimed place version true) Nothing)
own-claim_ex size s t place version classes rest k quiet =
    let class = class_at size place in
    let tag = k.still quiet in
    record {
      at = record {
        stage = stage-own size s (Begin t place);
        even = k.even;
        edges = updated-same s.edges class (s.edges class + 1) ∙ ap (λ (n : ℕ). n + 1) tag;
        writes = classes.quiet class (ap (λ (n : ℕ). n % 2) tag ∙ k.even) ∙ tag;
        marked = λ h. ⊎_elim (λ l. absurd (rests-unlooked s t rest l.0 l.1)) (λ m. m) (k.marks quiet);
      };
      reserve = begun-row size s t place (row_of size.granule place) true (eq-eqb class class refl) k.is;
      agrees = tt;
    }

-- it fails, and CLREX: the reservation is given up
pub own-fail : (size : Numbers) (s : Standing) (t : ℕ) (place : Place) (value : ℕ) (cause : Cause) → Knows size (joined size s (Fail t place value cause)) t (hand Rest Nothing)
own-fail size s t place value cause = record { at = stage-own size s (Fail t place value cause); reserve = updated-same s.reserved t None; agrees = tt }

pub own-clear : (size : Numbers) (s : Standing) (t : ℕ) → Knows size (joined size s (Clear t)) t (hand Rest Nothing)
own-clear size s t = record { at = stage-own size s (Clear t); reserve = updated-same s.reserved t None; agrees = tt }

-- ---- stamped loads

pub own-first : (size : Numbers) (s : Standing) (t : ℕ) (place : Place) (version : ℕ) (reserve : Reserve) → version % 2 ≡ 0 → s.edges (class_at size place) ≡ version
    → Knows size s t (hand Rest reserve) → Knows size s t (hand (First place version) reserve)
own-first size s t place version reserve even tag k = record { at = record { stage = k.at; even = even; most = omega arith }; reserve = k.reserve; agrees = agrees-first size place version reserve }

pub own-second : (size : Numbers) (s : Standing) (t : ℕ) (place : Place) (version cell : ℕ) (reserve : Reserve) → s.cells (cell_of place) ≡ cell
    → Knows size s t (hand (First place version) reserve) → Knows size s t (hand (Second place version cell) reserve)
own-second size s t place version cell reserve is k = record { at = (k.at, λ h. is); reserve = k.reserve; agrees = agrees-second size place version cell reserve }

pub own-third : (size : Numbers) (s : Standing) (t : ℕ) (place : Place) (version cell : ℕ) (reserve : Reserve)
    → Knows size s t (hand (Second place version cell) reserve) → Knows size s t (hand Rest reserve)
own-third size s t place version cell reserve k = record { at = k.at.0.stage; reserve = k.reserve; agrees = agrees-rest size reserve }
