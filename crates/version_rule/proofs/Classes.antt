-- Classes, as entries come: at most one write of a class is in flight, and the tag counts.
use Rattle.std.proofs.Common.{◌≡◌, ◌≢◌, ℕ, ◌+◌, ◌*◌, ◌%◌, ◌<◌, ◌≤◌, Bool, true, false, Some, None, refl, ap, sym, ◌∙◌, subst, inl, inr, arith}
use Rattle.std.proofs.lemmas.Bool.{cases_eq}
use Rattle.llsc_base.specs.Sizes.{Numbers}
use Rattle.llsc_base.specs.declared.access.Place.{Place}
use Rattle.history.specs.Entry.{thread_of}
use Rattle.history.specs.Standing.{Standing, begun, joined, rests, written}
use Rattle.history.specs.Follow.{MayJoin, flight_at}
use Rattle.history.specs.declared.entry.Cause.TheVariants.{Lost}
use Rattle.history.specs.declared.entry.Entry.{Entry}
use Rattle.history.specs.declared.entry.Entry.TheVariants.{Read, Write, Fail, Clear, Watch, Miss, Begin, End, Start}
use Rattle.history.proofs.Marks.{updated-other, updated-same}
use Rattle.history.proofs.Stages.{MayJoin-stage, stage_after, stage_before}
use Rattle.version_rule.specs.Hands.{class_at}
use Rattle.version_rule.specs.Kept.{AreClasses}
use Rattle.version_rule.specs.Knowledge.{Flies}
use Rattle.shared_memory.proofs.Apart.{stage-other, stage-own}

-- what is asked of an entry beside its being legal: a write begins where none of its class is in flight and the class may take
-- one, and is over where it was written, once; a store-exclusive has lost only where a write of another has begun
abbrev pub IsOrderly : Numbers → Standing → Entry → Type 0
IsOrderly size s (Begin thread place) = (s.edges (class_at size place) % 2 ≡ 0) × (s.edges (class_at size place) < 2 * size.limit)
IsOrderly size s (End thread place) = 2 * s.writes (class_at size place) ≡ s.edges (class_at size place) + 1
IsOrderly size s (Fail thread place value Lost) = s.overtaken thread ≡ true
IsOrderly size s _ = Unit {0}

-- ---- flights

pub flies-none : (size : Numbers) (s : Standing) (u class : ℕ) → flight_at (s.stage u) ≡ None → Flies size s u class → ⊥
flies-none size s u class none h = let e : None ≡ Some h.place = sym none ∙ h.flies in let f : ⊥ = cc in f

pub flies-other : (size : Numbers) (s : Standing) (e : Entry) (u class : ℕ) → u ≢ thread_of e → Flies size s u class → Flies size (joined size s e) u class
flies-other size s e u class ne h = record { place = h.place; flies = ap flight_at (stage-other size s e u ne) ∙ h.flies; near = h.near }

pub flies-was : (size : Numbers) (s : Standing) (e : Entry) (u class : ℕ) → u ≢ thread_of e → Flies size (joined size s e) u class → Flies size s u class
flies-was size s e u class ne h = record { place = h.place; flies = ap flight_at (sym (stage-other size s e u ne)) ∙ h.flies; near = h.near }

-- a thread flies where its stage says so, and nowhere else
pub flies-at : (size : Numbers) (s : Standing) (u : ℕ) (p : Place) → flight_at (s.stage u) ≡ Some p → Flies size s u (class_at size p)
flies-at size s u p is = record { place = p; flies = is; near = refl }

flies-same : (size : Numbers) (s : Standing) (u : ℕ) (p : Place) (class : ℕ) → flight_at (s.stage u) ≡ Some p → Flies size s u class → class ≡ class_at size p
flies-same size s u p class is h =
    let e : Some p ≡ Some h.place = sym is ∙ h.flies in
    let same : p ≡ h.place = cc in
    sym h.near ∙ ap (class_at size) (sym same)

-- ---- entries that change no class

module _ (size : Numbers) (s : Standing) (e : Entry) (may : MayJoin size s e) (before : flight_at (stage_before e) ≡ None) (after : flight_at (stage_after e) ≡ None)
    (edges : (joined size s e).edges ≡ s.edges) (writes : (joined size s e).writes ≡ s.writes) (holder : (joined size s e).holder ≡ s.holder) (k : AreClasses size s) where
  classes-still : AreClasses size (joined size s e)
  classes-still = record {
    busy = λ c odd.
        let f = k.busy c (ap (λ (g : ℕ → ℕ). g c % 2) (sym edges) ∙ odd) in
        let ne : s.holder c ≢ thread_of e = λ same. flies-none size s (s.holder c) c (ap (λ (t : ℕ). flight_at (s.stage t)) same ∙ ap flight_at (MayJoin-stage size s e may) ∙ before) f in
        subst (λ (t : ℕ). Flies size (joined size s e) t c) (ap (λ (g : ℕ → ℕ). g c) (sym holder)) (flies-other size s e (s.holder c) c ne f);
    lone = λ t c f.
        let ne : t ≢ thread_of e = λ same. flies-none size (joined size s e) t c (ap (λ (u : ℕ). flight_at ((joined size s e).stage u)) same ∙ ap flight_at (stage-own size s e) ∙ after) f in
        let l = k.lone t c (flies-was size s e t c ne f) in
        (ap (λ (g : ℕ → ℕ). g c % 2) edges ∙ l.0, ap (λ (g : ℕ → ℕ). g c) holder ∙ l.1);
    quiet = λ c even. ap (λ (g : ℕ → ℕ). 2 * g c) writes ∙ k.quiet c (ap (λ (g : ℕ → ℕ). g c % 2) (sym edges) ∙ even) ∙ ap (λ (g : ℕ → ℕ). g c) (sym edges);
    most = λ c. subst (λ (n : ℕ). n ≤ 2 * size.limit) (ap (λ (g : ℕ → ℕ). g c) (sym edges)) (k.most c);
  }

-- ---- a write begins

odd-next : (n : ℕ) → n % 2 ≡ 0 → (n + 1) % 2 ≡ 1
odd-next n h = omega arith

pub odd-even : (n : ℕ) → n % 2 ≡ 1 → n % 2 ≡ 0 → ⊥
odd-even n odd even = absurd (omega arith)

classes-begin : (size : Numbers) (s : Standing) (t : ℕ) (p : Place) → s.stage t ≡ rests → s.edges (class_at size p) % 2 ≡ 0 → s.edges (class_at size p) < 2 * size.limit
    → AreClasses size s → AreClasses size (joined size s (Begin t p))
classes-begin size s t p rest even room k =
    let e = Begin t p in
    let s' = joined size s e in
    let at = class_at size p in
    let edges_here : s'.edges at ≡ s.edges at + 1 = updated-same s.edges at (s.edges at + 1) in
    let edges_else : (c : ℕ) → c ≢ at → s'.edges c ≡ s.edges c = λ c ne. updated-other s.edges at (s.edges at + 1) c ne in
    let holder_here : s'.holder at ≡ t = updated-same s.holder at t in
    let holder_else : (c : ℕ) → c ≢ at → s'.holder c ≡ s.holder c = λ c ne. updated-other s.holder at t c ne in
    record {
      busy = λ c odd. elim (cases_eq c at) [
        | inl same ↦ subst (λ (u : ℕ). Flies size s' u c) (sym (ap s'.holder same ∙ holder_here)) (record { place = p; flies = ap flight_at (stage-own size s e); near = sym same })
        | inr other ↦
            let f = k.busy c (ap (λ (n : ℕ). n % 2) (sym (edges_else c other)) ∙ odd) in
            let ne : s.holder c ≢ t = λ is. flies-none size s (s.holder c) c (ap (λ (u : ℕ). flight_at (s.stage u)) is ∙ ap flight_at rest) f in
            subst (λ (u : ℕ). Flies size s' u c) (sym (holder_else c other)) (flies-other size s e (s.holder c) c ne f)
      ];
      lone = λ u c f. elim (cases_eq u t) [
        | inl same ↦
            let here : c ≡ at = flies-same size s' u p c (ap (λ (w : ℕ). flight_at (s'.stage w)) same ∙ ap flight_at (stage-own size s e)) f in
            (ap (λ (d : ℕ). s'.edges d % 2) here ∙ ap (λ (n : ℕ). n % 2) edges_here ∙ odd-next (s.edges at) even, ap s'.holder here ∙ holder_here ∙ sym same)
        | inr other ↦
            let l = k.lone u c (flies-was size s e u c other f) in
            let ne : c ≢ at = λ is. odd-even (s.edges c) l.0 (ap (λ (d : ℕ). s.edges d % 2) is ∙ even) in
            (ap (λ (n : ℕ). n % 2) (edges_else c ne) ∙ l.0, holder_else c ne ∙ l.1)
      ];
      quiet = λ c even'. elim (cases_eq c at) [
        | inl same ↦ absurd (odd-even (s'.edges c) (ap (λ (d : ℕ). s'.edges d % 2) same ∙ ap (λ (n : ℕ). n % 2) edges_here ∙ odd-next (s.edges at) even) even')
        | inr other ↦ k.quiet c (ap (λ (n : ℕ). n % 2) (sym (edges_else c other)) ∙ even') ∙ sym (edges_else c other)
      ];
      most = λ c. elim (cases_eq c at) [
        | inl same ↦ subst (λ (n : ℕ). n ≤ 2 * size.limit) (sym (ap s'.edges same ∙ edges_here)) (omega arith)
        | inr other ↦ subst (λ (n : ℕ). n ≤ 2 * size.limit) (sym (edges_else c other)) (k.most c)
      ];
    }

-- ---- it is written

classes-write : (size : Numbers) (s : Standing) (t : ℕ) (p : Place) (value : ℕ) (ex : Bool) → s.stage t ≡ begun p → AreClasses size s → AreClasses size (joined size s (Write t p value ex))
classes-write size s t p value ex stage k =
    let e = Write t p value ex in
    let s' = joined size s e in
    let at = class_at size p in
    let was : flight_at (s.stage t) ≡ Some p = ap flight_at stage in
    let is : flight_at (s'.stage t) ≡ Some p = ap flight_at (stage-own size s e) in
    let odd = (k.lone t at (flies-at size s t p was)).0 in
    record {
      busy = λ c odd'. elim (cases_eq (s.holder c) t) [
        | inl same ↦
            let here : c ≡ at = flies-same size s t p c was (subst (λ (u : ℕ). Flies size s u c) same (k.busy c odd')) in
            subst (λ (u : ℕ). Flies size s' u c) (sym same) (subst (λ (d : ℕ). Flies size s' t d) (sym here) (flies-at size s' t p is))
        | inr other ↦ flies-other size s e (s.holder c) c other (k.busy c odd')
      ];
      lone = λ u c f. elim (cases_eq u t) [
        | inl same ↦
            let here : c ≡ at = flies-same size s' t p c is (subst (λ (w : ℕ). Flies size s' w c) same f) in
            subst (λ (d : ℕ). (s.edges d % 2 ≡ 1) × (s.holder d ≡ u)) (sym here) (subst (λ (w : ℕ). (s.edges at % 2 ≡ 1) × (s.holder at ≡ w)) (sym same) (k.lone t at (flies-at size s t p was)))
        | inr other ↦ k.lone u c (flies-was size s e u c other f)
      ];
      quiet = λ c even. elim (cases_eq c at) [
        | inl same ↦ absurd (odd-even (s.edges c) (ap (λ (d : ℕ). s.edges d % 2) same ∙ odd) even)
        | inr other ↦ ap (λ (n : ℕ). 2 * n) (updated-other s.writes at (s.writes at + 1) c other) ∙ k.quiet c even
      ];
      most = k.most;
    }

-- ---- it is over

classes-end : (size : Numbers) (s : Standing) (t : ℕ) (p : Place) → s.stage t ≡ written p → 2 * s.writes (class_at size p) ≡ s.edges (class_at size p) + 1
    → AreClasses size s → AreClasses size (joined size s (End t p))
classes-end size s t p stage once k =
    let e = End t p in
    let s' = joined size s e in
    let at = class_at size p in
    let was : flight_at (s.stage t) ≡ Some p = ap flight_at stage in
    let own = k.lone t at (flies-at size s t p was) in
    let odd : s.edges at % 2 ≡ 1 = own.0 in
    let most = k.most at in
    let edges_here : s'.edges at ≡ s.edges at + 1 = updated-same s.edges at (s.edges at + 1) in
    let edges_else : (c : ℕ) → c ≢ at → s'.edges c ≡ s.edges c = λ c ne. updated-other s.edges at (s.edges at + 1) c ne in
    record {
      busy = λ c odd'. elim (cases_eq c at) [
        | inl same ↦ let here : s'.edges c ≡ s.edges at + 1 = ap s'.edges same ∙ edges_here in absurd (omega arith)
        | inr other ↦
            let f = k.busy c (ap (λ (n : ℕ). n % 2) (sym (edges_else c other)) ∙ odd') in
            let ne : s.holder c ≢ t = λ is. other (flies-same size s t p c was (subst (λ (u : ℕ). Flies size s u c) is f)) in
            flies-other size s e (s.holder c) c ne f
      ];
      lone = λ u c f.
          let ne : u ≢ t = λ same. flies-none size s' u c (ap (λ (w : ℕ). flight_at (s'.stage w)) same ∙ ap flight_at (stage-own size s e)) f in
          let l = k.lone u c (flies-was size s e u c ne f) in
          let other : c ≢ at = λ same. ne (sym l.1 ∙ ap s.holder same ∙ own.1) in
          (ap (λ (n : ℕ). n % 2) (edges_else c other) ∙ l.0, l.1);
      quiet = λ c even. elim (cases_eq c at) [
        | inl same ↦ ap (λ (d : ℕ). 2 * s.writes d) same ∙ once ∙ sym (ap s'.edges same ∙ edges_here)
        | inr other ↦ k.quiet c (ap (λ (n : ℕ). n % 2) (sym (edges_else c other)) ∙ even) ∙ sym (edges_else c other)
      ];
      most = λ c. elim (cases_eq c at) [
        | inl same ↦ subst (λ (n : ℕ). n ≤ 2 * size.limit) (sym (ap s'.edges same ∙ edges_here)) (omega arith)
        | inr other ↦ subst (λ (n : ℕ). n ≤ 2 * size.limit) (sym (edges_else c other)) (k.most c)
      ];
    }

-- ---- all

pub classes-joined : (size : Numbers) (s : Standing) (e : Entry) → MayJoin size s e → IsOrderly size s e → AreClasses size s → AreClasses size (joined size s e)
classes-joined size s (Read t p value true) may orderly k = classes-still size s (Read t p value true) may refl refl refl refl refl k
classes-joined size s (Read t p value false) may orderly k = classes-still size s (Read t p value false) may refl refl refl refl refl k
classes-joined size s (Fail t p value cause) may orderly k = classes-still size s (Fail t p value cause) may refl refl refl refl refl k
classes-joined size s (Clear t) may orderly k = classes-still size s (Clear t) may refl refl refl refl refl k
classes-joined size s (Watch t p) may orderly k = classes-still size s (Watch t p) may refl refl refl refl refl k
classes-joined size s (Miss t p) may orderly k = classes-still size s (Miss t p) may refl refl refl refl refl k
classes-joined size s (Begin t p) may orderly k = classes-begin size s t p may orderly.0 orderly.1 k
classes-joined size s (Write t p value ex) may orderly k = classes-write size s t p value ex may.0 k
classes-joined size s (End t p) may orderly k = classes-end size s t p may orderly k
classes-joined size s (Start t child entry arg) may orderly k = classes-still size s (Start t child entry arg) may refl refl refl refl refl k
