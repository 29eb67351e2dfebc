-- What a thread knows after an entry of its own.
use Rattle.std.proofs.Common.{◌≡◌, ◌≢◌, ◌⊎◌, ℕ, ◌+◌, ◌&&◌, ◌||◌, ◌==◌, Bool, true, false, if◌then◌else◌, nat_eq, Option, Some, None, refl, ap, sym, ◌∙◌, subst, inl, inr, ⊎_elim}
use Rattle.std.proofs.lemmas.Bool.{eq-eqb, eqb-false}
use Rattle.llsc_base.specs.Memory.{class_of, row_of}
use Rattle.llsc_base.specs.Sizes.{Numbers}
use Rattle.llsc_base.specs.declared.access.Place.{Place}
use Rattle.history.specs.Entry.{thread_of}
use Rattle.history.specs.Standing.{Standing, begun, is_of_class, joined, looked, rests, written}
use Rattle.history.specs.Follow.{flight_at}
use Rattle.history.specs.declared.entry.Cause.{Cause}
use Rattle.history.specs.declared.entry.Entry.{Entry}
use Rattle.history.specs.declared.entry.Entry.TheVariants.{Read, Write, Fail, Clear, Watch, Begin, End}
use Rattle.history.proofs.Marks.{updated-other, updated-same}
use Rattle.history.proofs.Steps.{joined-reserved}
use Rattle.hst_memory.specs.declared.hands.Doing.{Doing}
use Rattle.hst_memory.specs.declared.hands.Doing.TheVariants.{Rest, Inside, Begun, Written, Alone, Watching, Done, AloneBegun, AloneWritten}
use Rattle.hst_memory.specs.declared.hands.Reserve.{Reserve}
use Rattle.hst_memory.specs.declared.hands.Reserve.TheVariants.{Nothing, Row, Several}
use Rattle.hst_memory.specs.declared.hands.Hand.{Hand}
use Rattle.hst_memory.specs.inner.Hands.{hand, reserve_after}
use Rattle.hst_memory.specs.inner.Knowledge.{Agrees, IsAt, IsReserve, Keeps, Knows}
use Rattle.shared_memory.proofs.Apart.{mark-written, stage-other, stage-own}
use Rattle.hst_memory.proofs.Others.{keeps-stay}

-- ---- a reservation stays

keeps-own : (size : Numbers) (s : Standing) (e : Entry) (t row : ℕ) → thread_of e ≡ t → (joined size s e).reserved t ≡ s.reserved t → (joined size s e).passed t ≡ s.passed t
    → (joined size s e).name (class_of size.classes row) ≡ s.name (class_of size.classes row)
    → ((place : Place) → s.stage t ≡ looked place → ⊥) → (s.mark t ≡ Some row → (joined size s e).mark t ≡ Some row)
    → Keeps size s t row → Keeps size (joined size s e) t row
keeps-own size s e t row own reserved passed name unlooked mark k =
    keeps-stay size s (joined size s e) t row reserved passed name
    (λ h w ne flies. record { place = flies.place; flies = ap flight_at (sym (stage-other size s e w (λ same. ne (same ∙ own)))) ∙ flies.flies; near = flies.near })
    (λ h m. ⊎_elim (λ l. absurd (unlooked l.0 l.1)) (λ r. inr (mark r)) m) k

rests-unlooked : (s : Standing) (t : ℕ) → s.stage t ≡ rests → (place : Place) → s.stage t ≡ looked place → ⊥
rests-unlooked s t at place h = let e : rests ≡ looked place = sym at ∙ h in let f : ⊥ = cc in f

begun-unlooked : (s : Standing) (t : ℕ) (p : Place) → s.stage t ≡ begun p → (place : Place) → s.stage t ≡ looked place → ⊥
begun-unlooked s t p at place h = let e : begun p ≡ looked place = sym at ∙ h in let f : ⊥ = cc in f

written-unlooked : (s : Standing) (t : ℕ) (p : Place) → s.stage t ≡ written p → (place : Place) → s.stage t ≡ looked place → ⊥
written-unlooked s t p at place h = let e : written p ≡ looked place = sym at ∙ h in let f : ⊥ = cc in f

reserve-own : (size : Numbers) (s : Standing) (e : Entry) (t : ℕ) (reserve : Reserve) → (joined size s e).reserved t ≡ s.reserved t
    → ((row : ℕ) → reserve ≡ Row row → Keeps size s t row → Keeps size (joined size s e) t row)
    → IsReserve size s t reserve → IsReserve size (joined size s e) t reserve
reserve-own size s e t Nothing reserved keeps h = reserved ∙ h
reserve-own size s e t (Row row) reserved keeps h = keeps row refl h
reserve-own size s e t Several reserved keeps h = tt

-- ---- plain accesses

pub own-read : (size : Numbers) (s : Standing) (t : ℕ) (place : Place) (value : ℕ) (h : Hand) → h.doing ≡ Rest
    → Knows size s t h → Knows size (joined size s (Read t place value false)) t h
own-read size s t place value h rest k =
    let e = Read t place value false in
    let at : s.stage t ≡ rests = subst (λ (d : Doing). IsAt size s t d) rest k.at in
    record {
      at = subst (λ (d : Doing). IsAt size (joined size s e) t d) (sym rest) (stage-own size s e);
      reserve = reserve-own size s e t h.reserve refl (λ row is keeps. keeps-own size s e t row refl refl refl refl (rests-unlooked s t at) (λ m. m) keeps) k.reserve;
      agrees = k.agrees;
    }

and-none : (b : Bool) → (b && false) ≡ false
and-none true = refl
and-none false = refl

either-none : (b : Bool) → (let n : Option ℕ = None in if b then None else n) ≡ None
either-none true = refl
either-none false = refl

begun-none : (size : Numbers) (s : Standing) (t : ℕ) (place : Place) → s.reserved t ≡ None → (joined size s (Begin t place)).reserved t ≡ None
begun-none size s t place none =
    joined-reserved size s (Begin t place) t
    ∙ ap (λ (r : Option ℕ). if nat_eq t t && is_of_class size (class_of size.classes (row_of size.granule place)) r then None else r) none
    ∙ either-none (nat_eq t t && false)

begun-row : (size : Numbers) (s : Standing) (t : ℕ) (place : Place) (row : ℕ) (same : Bool)
    → (class_of size.classes (row_of size.granule place) == class_of size.classes row) ≡ same → s.reserved t ≡ Some row
    → (joined size s (Begin t place)).reserved t ≡ (if same then None else Some row)
begun-row size s t place row same test is =
    joined-reserved size s (Begin t place) t
    ∙ ap (λ (r : Option ℕ). if nat_eq t t && is_of_class size (class_of size.classes (row_of size.granule place)) r then None else r) is
    ∙ ap (λ (b : Bool). if b && (class_of size.classes (row_of size.granule place) == class_of size.classes row) then None else Some row) (eq-eqb t t refl)
    ∙ ap (λ (b : Bool). if b then None else Some row) test

record HasBegun (size : Numbers) (s : Standing) (t : ℕ) (place : Place) (reserve : Reserve) : Type 0 where
  reserve_is : IsReserve size s t reserve
  agrees : Agrees size (Begun place) reserve

begun-keeps : (size : Numbers) (s : Standing) (t : ℕ) (place : Place) (row : ℕ) (same : Bool)
    → (class_of size.classes (row_of size.granule place) == class_of size.classes row) ≡ same → s.stage t ≡ rests → Keeps size s t row
    → HasBegun size (joined size s (Begin t place)) t place (if same then Nothing else Row row)
begun-keeps size s t place row true test at k = record { reserve_is = begun-row size s t place row true test k.is; agrees = tt }
begun-keeps size s t place row false test at k =
    let e = Begin t place in
    let class = class_of size.classes (row_of size.granule place) in
    let apart : class ≢ class_of size.classes row = eqb-false class (class_of size.classes row) test in
    record {
      reserve_is = keeps-own size s e t row refl (begun-row size s t place row false test k.is ∙ sym k.is)
          (updated-same (λ (u : ℕ). s.passed u || is_of_class size class (s.reserved u)) t (s.passed t))
          (updated-other s.name class (t + 1) (class_of size.classes row) (λ is. apart (sym is)))
          (rests-unlooked s t at) (λ m. m) k;
      agrees = apart;
    }

begun-reserve : (size : Numbers) (s : Standing) (t : ℕ) (place : Place) (reserve : Reserve) → s.stage t ≡ rests → IsReserve size s t reserve
    → HasBegun size (joined size s (Begin t place)) t place (reserve_after size place reserve)
begun-reserve size s t place Nothing at h = record { reserve_is = begun-none size s t place h; agrees = tt }
begun-reserve size s t place (Row row) at h =
    begun-keeps size s t place row (class_of size.classes (row_of size.granule place) == class_of size.classes row) refl at h
begun-reserve size s t place Several at h = record { reserve_is = tt; agrees = tt }

pub own-begin : (size : Numbers) (s : Standing) (t : ℕ) (place : Place) (reserve : Reserve)
    → Knows size s t (hand (Inside place) reserve) → Knows size (joined size s (Begin t place)) t (hand (Begun place) (reserve_after size place reserve))
own-begin size s t place reserve k =
    let begin = begun-reserve size s t place reserve k.at k.reserve in
    record { at = stage-own size s (Begin t place); reserve = begin.reserve_is; agrees = begin.agrees }

plain-reserved : (size : Numbers) (s : Standing) (t : ℕ) (place : Place) (value : ℕ) → (joined size s (Write t place value false)).reserved t ≡ s.reserved t
plain-reserved size s t place value = ap (λ (b : Bool). if b then None else s.reserved t) (and-none (nat_eq t t))

agrees-row : (size : Numbers) (place : Place) (reserve : Reserve) (row : ℕ) → reserve ≡ Row row → Agrees size (Begun place) reserve
    → class_of size.classes (row_of size.granule place) ≢ class_of size.classes row
agrees-row size place reserve row is agrees = subst (λ (r : Reserve). Agrees size (Begun place) r) is agrees

agrees-written : (size : Numbers) (place : Place) (reserve : Reserve) → Agrees size (Written place) reserve
agrees-written size place Nothing = tt
agrees-written size place (Row row) = tt
agrees-written size place Several = tt

agrees-rest : (size : Numbers) (reserve : Reserve) → Agrees size Rest reserve
agrees-rest size Nothing = tt
agrees-rest size (Row row) = tt
agrees-rest size Several = tt

pub own-write : (size : Numbers) (s : Standing) (t : ℕ) (place : Place) (value : ℕ) (reserve : Reserve)
    → Knows size s t (hand (Begun place) reserve) → Knows size (joined size s (Write t place value false)) t (hand (Written place) reserve)
own-write size s t place value reserve k =
    let e = Write t place value false in
    record {
      at = stage-own size s e;
      reserve = reserve-own size s e t reserve (plain-reserved size s t place value)
          (λ row is keeps. keeps-own size s e t row refl (plain-reserved size s t place value) refl refl (begun-unlooked s t place k.at)
          (λ m. mark-written size s t place value false t row (and-none (nat_eq t t)) (λ same. agrees-row size place reserve row is k.agrees (ap (class_of size.classes) same)) m) keeps) k.reserve;
      agrees = agrees-written size place reserve;
    }

pub own-end : (size : Numbers) (s : Standing) (t : ℕ) (place : Place) (reserve : Reserve)
    → Knows size s t (hand (Written place) reserve) → Knows size (joined size s (End t place)) t (hand Rest reserve)
own-end size s t place reserve k =
    let e = End t place in
    record {
      at = stage-own size s e;
      reserve = reserve-own size s e t reserve refl (λ row is keeps. keeps-own size s e t row refl refl refl refl (written-unlooked s t place k.at) (λ m. m) keeps) k.reserve;
      agrees = agrees-rest size reserve;
    }

-- a store goes into the section
pub own-enter : (size : Numbers) (s : Standing) (t : ℕ) (place : Place) (h : Hand) → h.doing ≡ Rest → Knows size s t h → Knows size s t (hand (Inside place) h.reserve)
own-enter size s t place h rest k = record {
  at = subst (λ (d : Doing). IsAt size s t d) rest k.at;
  reserve = k.reserve;
  agrees = agrees-inside h.reserve;
}
  where
    agrees-inside : (reserve : Reserve) → Agrees size (Inside place) reserve
    agrees-inside Nothing = tt
    agrees-inside (Row row) = tt
    agrees-inside Several = tt

-- ---- exclusive accesses

pub own-alone : (size : Numbers) (s : Standing) (t : ℕ) (h : Hand) → h.doing ≡ Rest → Knows size s t h → Knows size s t (hand Alone h.reserve)
own-alone size s t h rest k = record { at = subst (λ (d : Doing). IsAt size s t d) rest k.at; reserve = k.reserve; agrees = agrees-alone h.reserve }
  where
    agrees-alone : (reserve : Reserve) → Agrees size Alone reserve
    agrees-alone Nothing = tt
    agrees-alone (Row row) = tt
    agrees-alone Several = tt

-- a load-exclusive begins, while no write of another is in flight
pub own-watch : (size : Numbers) (s : Standing) (t : ℕ) (place : Place) → ((u : ℕ) → u ≢ t → (p : Place) → flight_at (s.stage u) ≡ Some p → ⊥)
    → Knows size (joined size s (Watch t place)) t (hand (Watching place) (Row (row_of size.granule place)))
own-watch size s t place clear =
    let e = Watch t place in
    let s' = joined size s e in
    let row = row_of size.granule place in
    let class = class_of size.classes row in
    let passed : s'.passed t ≡ false = updated-same (λ (u : ℕ). s.passed u || is_of_class size class (s.reserved u)) t false in
    record {
      at = stage-own size s e;
      reserve = record {
        is = updated-same s.reserved t (Some row);
        mine = λ h. updated-same s.name class (t + 1);
        gone = λ h. absurd (let f : false ≡ true = sym passed ∙ h in let g : ⊥ = cc in g);
        clear = λ h u ne flies. clear u ne flies.place (ap flight_at (sym (stage-other size s e u ne)) ∙ flies.flies);
        marks = λ h. inl (place, stage-own size s e, refl);
      };
      agrees = refl;
    }

-- and reads
pub own-read_ex : (size : Numbers) (s : Standing) (t : ℕ) (place : Place) (value : ℕ) (reserve : Reserve)
    → Knows size s t (hand (Watching place) reserve) → Knows size (joined size s (Read t place value true)) t (hand Done reserve)
own-read_ex size s t place value Nothing k = record { at = stage-own size s (Read t place value true); reserve = k.reserve; agrees = tt }
own-read_ex size s t place value (Row row) k =
    let e = Read t place value true in
    record {
      at = stage-own size s e;
      reserve = keeps-stay size s (joined size s e) t row refl refl refl
          (λ h w ne flies. record { place = flies.place; flies = ap flight_at (sym (stage-other size s e w ne)) ∙ flies.flies; near = flies.near })
          (λ h m. inr (updated-same s.mark t (Some (row_of size.granule place)) ∙ ap (λ (r : ℕ). Some r) k.agrees)) k.reserve;
      agrees = tt;
    }
own-read_ex size s t place value Several k = record { at = stage-own size s (Read t place value true); reserve = tt; agrees = tt }

-- a store-exclusive begins: its thread is marked
pub own-begin_ex : (size : Numbers) (s : Standing) (t : ℕ) (place : Place) → s.stage t ≡ rests → Keeps size s t (row_of size.granule place) → s.passed t ≡ false
    → Knows size (joined size s (Begin t place)) t (hand (AloneBegun place) Nothing)
own-begin_ex size s t place at k quiet =
    let class = class_of size.classes (row_of size.granule place) in
    record {
      at = (stage-own size s (Begin t place), ⊎_elim (λ l. absurd (rests-unlooked s t at l.0 l.1)) (λ m. m) (k.marks quiet));
      reserve = begun-row size s t place (row_of size.granule place) true (eq-eqb class class refl) k.is;
      agrees = tt;
    }

-- it writes
pub own-write_ex : (size : Numbers) (s : Standing) (t : ℕ) (place : Place) (value : ℕ)
    → Knows size s t (hand (AloneBegun place) Nothing) → Knows size (joined size s (Write t place value true)) t (hand (AloneWritten place) Nothing)
own-write_ex size s t place value k =
    let e = Write t place value true in
    record {
      at = stage-own size s e;
      reserve = ap (λ (r : Option ℕ). if nat_eq t t && true then None else r) k.reserve ∙ either-none (nat_eq t t && true);
      agrees = tt;
    }

pub own-end_ex : (size : Numbers) (s : Standing) (t : ℕ) (place : Place)
    → Knows size s t (hand (AloneWritten place) Nothing) → Knows size (joined size s (End t place)) t (hand Rest Nothing)
own-end_ex size s t place k = record { at = stage-own size s (End t place); reserve = k.reserve; agrees = tt }

-- it leaves after a load-exclusive, or one that failed
pub own-leave : (size : Numbers) (s : Standing) (t : ℕ) (reserve : Reserve) → Knows size s t (hand Done reserve) → Knows size s t (hand Rest reserve)
own-leave size s t reserve k = record { at = k.at; reserve = k.reserve; agrees = agrees-rest size reserve }

-- it fails, and CLREX: the reservation is given up
pub own-fail : (size : Numbers) (s : Standing) (t : ℕ) (place : Place) (value : ℕ) (cause : Cause) (doing : Doing)
    → (doing ≡ Rest) ⊎ (doing ≡ Done) → Knows size (joined size s (Fail t place value cause)) t (hand doing Nothing)
own-fail size s t place value cause doing (inl rest) =
    let e = Fail t place value cause in
    subst (λ (d : Doing). Knows size (joined size s e) t (hand d Nothing)) (sym rest) (record { at = stage-own size s e; reserve = updated-same s.reserved t None; agrees = tt })
own-fail size s t place value cause doing (inr done) =
    let e = Fail t place value cause in
    subst (λ (d : Doing). Knows size (joined size s e) t (hand d Nothing)) (sym done) (record { at = stage-own size s e; reserve = updated-same s.reserved t None; agrees = tt })

pub own-clear : (size : Numbers) (s : Standing) (t : ℕ) → Knows size (joined size s (Clear t)) t (hand Rest Nothing)
own-clear size s t = record { at = stage-own size s (Clear t); reserve = updated-same s.reserved t None; agrees = tt }
