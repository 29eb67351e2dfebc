-- What stays of a class while a write of a thread holds it, whatever other threads do.
use Rattle.std.proofs.Common.{◌≡◌, ◌≢◌, ℕ, ◌+◌, ◌%◌, ◌≤◌, ◌&&◌, Bool, Some, refl, ap, sym, ◌∙◌, subst, inl, inr, arith}
use Rattle.std.proofs.lemmas.Bool.{cases_eq, ne_eqb}
use Rattle.llsc_base.specs.Memory.{cell_of, class_of}
use Rattle.llsc_base.specs.Sizes.{Numbers}
use Rattle.llsc_base.specs.declared.access.Place.{Place}
use Rattle.llsc_base.proofs.Cells.{row_of-same_cell}
use Rattle.row_bytes.specs.Cell.{cell_with}
use Rattle.history.specs.Entry.{thread_of}
use Rattle.history.specs.Standing.{Standing, joined}
use Rattle.history.specs.Follow.{MayJoin, flight_at}
use Rattle.history.specs.declared.entry.Entry.{Entry}
use Rattle.history.specs.declared.entry.Entry.TheVariants.{Read, Write, Fail, Clear, Watch, Miss, Begin, End, Start}
use Rattle.history.proofs.Marks.{updated-other, updated-same}
use Rattle.version_rule.specs.Hands.{class_at}
use Rattle.version_rule.specs.Kept.{AreClasses}
use Rattle.version_rule.specs.Knowledge.{Flies}
use Rattle.shared_memory.proofs.Apart.{mark-other, mark-written}
use Rattle.version_rule.proofs.Classes.{IsOrderly, flies-at, odd-even}

-- places of one cell, or of one row, are of one class
pub class-same_cell : (size : Numbers) (p q : Place) → cell_of p ≡ cell_of q → class_at size p ≡ class_at size q
class-same_cell size p q same = ap (class_of size.classes) (row_of-same_cell size.granule p q same)

-- the tag of a class never falls
pub edges-grow : (size : Numbers) (s : Standing) (e : Entry) (c : ℕ) → s.edges c ≤ (joined size s e).edges c
edges-grow size s (Read t p value ex) c = omega arith
edges-grow size s (Write t p value ex) c = omega arith
edges-grow size s (Fail t p value cause) c = omega arith
edges-grow size s (Clear t) c = omega arith
edges-grow size s (Watch t p) c = omega arith
edges-grow size s (Miss t p) c = omega arith
edges-grow size s (Begin t p) c = elim (cases_eq c (class_at size p)) [
  | inl same ↦ subst (λ (n : ℕ). s.edges c ≤ n) (sym (ap (joined size s (Begin t p)).edges same ∙ updated-same s.edges (class_at size p) (s.edges (class_at size p) + 1)))
      (subst (λ (d : ℕ). s.edges c ≤ s.edges d + 1) same (omega arith))
  | inr other ↦ subst (λ (n : ℕ). s.edges c ≤ n) (sym (updated-other s.edges (class_at size p) (s.edges (class_at size p) + 1) c other)) (omega arith)
]
edges-grow size s (End t p) c = elim (cases_eq c (class_at size p)) [
  | inl same ↦ subst (λ (n : ℕ). s.edges c ≤ n) (sym (ap (joined size s (End t p)).edges same ∙ updated-same s.edges (class_at size p) (s.edges (class_at size p) + 1)))
      (subst (λ (d : ℕ). s.edges c ≤ s.edges d + 1) same (omega arith))
  | inr other ↦ subst (λ (n : ℕ). s.edges c ≤ n) (sym (updated-other s.edges (class_at size p) (s.edges (class_at size p) + 1) c other)) (omega arith)
]
edges-grow size s (Start t child entry arg) c = omega arith

module _ (size : Numbers) (s : Standing) (k : AreClasses size s) where
  -- what another thread writes is of another class
  elsewhere : (u t : ℕ) (c : ℕ) (p : Place) → u ≢ t → Flies size s u c → flight_at (s.stage t) ≡ Some p → c ≢ class_at size p
  elsewhere u t c p ne flies at same =
      let one = k.lone u c flies in
      let two = k.lone t (class_at size p) (flies-at size s t p at) in
      ne (sym one.1 ∙ ap s.holder same ∙ two.1)

  pub held-edges : (e : Entry) (u c : ℕ) → u ≢ thread_of e → MayJoin size s e → IsOrderly size s e → Flies size s u c → (joined size s e).edges c ≡ s.edges c
  held-edges (Read t p value ex) u c ne may orderly flies = refl
  held-edges (Write t p value ex) u c ne may orderly flies = refl
  held-edges (Fail t p value cause) u c ne may orderly flies = refl
  held-edges (Clear t) u c ne may orderly flies = refl
  held-edges (Start t child entry arg) u c ne may orderly flies = refl
  held-edges (Watch t p) u c ne may orderly flies = refl
  held-edges (Miss t p) u c ne may orderly flies = refl
  held-edges (Begin t p) u c ne may orderly flies = updated-other s.edges (class_at size p) (s.edges (class_at size p) + 1) c
      (λ same. odd-even (s.edges c) (k.lone u c flies).0 (ap (λ (d : ℕ). s.edges d % 2) same ∙ orderly.0))
  held-edges (End t p) u c ne may orderly flies = updated-other s.edges (class_at size p) (s.edges (class_at size p) + 1) c (elsewhere u t c p ne flies (ap flight_at may))

  pub held-writes : (e : Entry) (u c : ℕ) → u ≢ thread_of e → MayJoin size s e → Flies size s u c → (joined size s e).writes c ≡ s.writes c
  held-writes (Read t p value ex) u c ne may flies = refl
  held-writes (Write t p value ex) u c ne may flies = updated-other s.writes (class_at size p) (s.writes (class_at size p) + 1) c (elsewhere u t c p ne flies (ap flight_at may.0))
  held-writes (Fail t p value cause) u c ne may flies = refl
  held-writes (Clear t) u c ne may flies = refl
  held-writes (Start t child entry arg) u c ne may flies = refl
  held-writes (Watch t p) u c ne may flies = refl
  held-writes (Miss t p) u c ne may flies = refl
  held-writes (Begin t p) u c ne may flies = refl
  held-writes (End t p) u c ne may flies = refl

  pub held-cell : (e : Entry) (u : ℕ) (q : Place) → u ≢ thread_of e → MayJoin size s e → Flies size s u (class_at size q) → (joined size s e).cells (cell_of q) ≡ s.cells (cell_of q)
  held-cell (Read t p value ex) u q ne may flies = refl
  held-cell (Write t p value ex) u q ne may flies = updated-other s.cells (cell_of p) (cell_with (s.cells (cell_of p)) p value) (cell_of q)
      (λ same. elsewhere u t (class_at size q) p ne flies (ap flight_at may.0) (class-same_cell size q p same))
  held-cell (Fail t p value cause) u q ne may flies = refl
  held-cell (Clear t) u q ne may flies = refl
  held-cell (Start t child entry arg) u q ne may flies = refl
  held-cell (Watch t p) u q ne may flies = refl
  held-cell (Miss t p) u q ne may flies = refl
  held-cell (Begin t p) u q ne may flies = refl
  held-cell (End t p) u q ne may flies = refl

  -- a write of another thread is of another row than this one
  pub other-row : (u t : ℕ) (p : Place) (value : ℕ) (ex : Bool) (row : ℕ) → u ≢ t → class_at size p ≢ class_of size.classes row → s.mark u ≡ Some row → (joined size s (Write t p value ex)).mark u ≡ Some row
  other-row u t p value ex row ne apart marked = mark-written size s t p value ex u row (ap (λ (b : Bool). b && ex) (ne_eqb t u (λ same. ne (sym same)))) (λ same. apart (ap (class_of size.classes) same)) marked

  pub held-mark : (e : Entry) (u row : ℕ) → u ≢ thread_of e → MayJoin size s e → Flies size s u (class_of size.classes row) → s.mark u ≡ Some row → (joined size s e).mark u ≡ Some row
  held-mark (Read t p value ex) u row ne may flies marked = mark-other size s (Read t p value ex) u ne refl ∙ marked
  held-mark (Write t p value ex) u row ne may flies marked =
      other-row u t p value ex row ne (λ same. elsewhere u t (class_of size.classes row) p ne flies (ap flight_at may.0) (sym same)) marked
  held-mark (Fail t p value cause) u row ne may flies marked = mark-other size s (Fail t p value cause) u ne refl ∙ marked
  held-mark (Clear t) u row ne may flies marked = mark-other size s (Clear t) u ne refl ∙ marked
  held-mark (Start t child entry arg) u row ne may flies marked = mark-other size s (Start t child entry arg) u ne refl ∙ marked
  held-mark (Watch t p) u row ne may flies marked = mark-other size s (Watch t p) u ne refl ∙ marked
  held-mark (Miss t p) u row ne may flies marked = mark-other size s (Miss t p) u ne refl ∙ marked
  held-mark (Begin t p) u row ne may flies marked = mark-other size s (Begin t p) u ne refl ∙ marked
  held-mark (End t p) u row ne may flies marked = mark-other size s (End t p) u ne refl ∙ marked

  -- a cell is what it was as long as its class is at an even version
  pub found-cell : (e : Entry) (q : Place) (version cell : ℕ) → MayJoin size s e → version % 2 ≡ 0 → version ≤ s.edges (class_at size q) → (s.edges (class_at size q) ≡ version → s.cells (cell_of q) ≡ cell)
      → (joined size s e).edges (class_at size q) ≡ version → (joined size s e).cells (cell_of q) ≡ cell
  found-cell (Read t p value ex) q version cell may even most known is = known is
  found-cell (Write t p value ex) q version cell may even most known is = elim (cases_eq (cell_of q) (cell_of p)) [
    | inl same ↦
        let odd = (k.lone t (class_at size p) (flies-at size s t p (ap flight_at may.0))).0 in
        absurd (odd-even (s.edges (class_at size p)) odd (ap (λ (c : ℕ). s.edges c % 2) (sym (class-same_cell size q p same)) ∙ ap (λ (n : ℕ). n % 2) is ∙ even))
    | inr other ↦ updated-other s.cells (cell_of p) (cell_with (s.cells (cell_of p)) p value) (cell_of q) other ∙ known is
  ]
  found-cell (Fail t p value cause) q version cell may even most known is = known is
  found-cell (Clear t) q version cell may even most known is = known is
  found-cell (Start t child entry arg) q version cell may even most known is = known is
  found-cell (Watch t p) q version cell may even most known is = known is
  found-cell (Miss t p) q version cell may even most known is = known is
  found-cell (Begin t p) q version cell may even most known is = let grow = edges-grow size s (Begin t p) (class_at size q) in known (between (s.edges (class_at size q)) ((joined size s (Begin t p)).edges (class_at size q)) version grow most is)
    where
      between : (a b v : ℕ) → a ≤ b → v ≤ a → b ≡ v → a ≡ v
      between a b v h g e = omega arith
  found-cell (End t p) q version cell may even most known is = let grow = edges-grow size s (End t p) (class_at size q) in known (between (s.edges (class_at size q)) ((joined size s (End t p)).edges (class_at size q)) version grow most is)
    where
      between : (a b v : ℕ) → a ≤ b → v ≤ a → b ≡ v → a ≡ v
      between a b v h g e = omega arith
