-- The section's word: what all seats add to it.
use Rattle.std.proofs.Common.{◌≡◌, ◌≢◌, ℕ, zero, suc, ◌+◌, ◌-◌, ◌%◌, ◌^◌, ◌<◌, ◌≤◌, ◌⊎◌, List, [], ◌∷◌, ◌++◌, set, ap, sym, ◌∙◌, inl, inr, ⊎_elim, refl, arith}
use Rattle.std.proofs.lemmas.Bool.{cases_eq}
use mathlib.Core.Option.{some, some-injective, some-ne-none}
use lib.ListN.{get_elem?}
use Rattle.atomic_table.proofs.Lists.{set_here, set_else}
use Rattle.shared_memory.specs.declared.views.View.{View}
use Rattle.shared_memory.proofs.Lists.{at-below}
use Rattle.hst_memory.specs.declared.hands.Doing.{Doing}
use Rattle.hst_memory.specs.declared.hands.Doing.TheVariants.{Rest, Inside, Begun, Written, Alone, Watching, Done, AloneBegun, AloneWritten}
use Rattle.hst_memory.specs.declared.hands.Hand.{Hand}
use Rattle.hst_memory.specs.inner.Hands.{alone_word, total_of, weight_of}
use Rattle.hst_memory.specs.inner.Kept.{HasOneAlone, IsSection}

abbrev pub weight : View Hand → ℕ
weight v = weight_of v.doing.doing

pub total-set : (views : List (View Hand)) (i : ℕ) (v w : View Hand) → get_elem? views i ≡ some v → total_of (set views i w) + weight v ≡ total_of views + weight w
total-set [] i v w at = absurd (some-ne-none v (sym at))
total-set (x ∷ xs) zero v w at = let is : weight x ≡ weight v = ap weight (some-injective x v at) in omega arith
total-set (x ∷ xs) (suc i) v w at = let r = total-set xs i v w at in omega arith

pub total-same : (views : List (View Hand)) (i : ℕ) (v w : View Hand) → get_elem? views i ≡ some v → weight w ≡ weight v → total_of (set views i w) ≡ total_of views
total-same views i v w at same = let r = total-set views i v w at in omega arith

pub total-push : (views : List (View Hand)) (w : View Hand) → total_of (views ++ w ∷ []) ≡ total_of views + weight w
total-push [] w = omega arith
total-push (x ∷ xs) w = let r = total-push xs w in omega arith

pub one-part : (views : List (View Hand)) (i : ℕ) (v : View Hand) → get_elem? views i ≡ some v → weight v ≤ total_of views
one-part [] i v at = absurd (some-ne-none v (sym at))
one-part (x ∷ xs) zero v at = let is : weight x ≡ weight v = ap weight (some-injective x v at) in omega arith
one-part (x ∷ xs) (suc i) v at = let r = one-part xs i v at in omega arith

pub two-parts : (views : List (View Hand)) (i j : ℕ) (v w : View Hand) → i ≢ j → get_elem? views i ≡ some v → get_elem? views j ≡ some w → weight v + weight w ≤ total_of views
two-parts [] i j v w ne at there = absurd (some-ne-none v (sym at))
two-parts (x ∷ xs) zero zero v w ne at there = absurd (ne refl)
two-parts (x ∷ xs) zero (suc j) v w ne at there = let is : weight x ≡ weight v = ap weight (some-injective x v at) in let r = one-part xs j w there in omega arith
two-parts (x ∷ xs) (suc i) zero v w ne at there = let is : weight x ≡ weight w = ap weight (some-injective x w there) in let r = one-part xs i v at in omega arith
two-parts (x ∷ xs) (suc i) (suc j) v w ne at there = let r = two-parts xs i j v w (λ same. ne (ap suc same)) at there in omega arith

-- who is inside is not beside one that is alone
pub none-alone : (threads word : ℕ) (views : List (View Hand)) (i j : ℕ) (v w : View Hand) → threads ≤ 16 → IsSection threads word views → i ≢ j
    → get_elem? views i ≡ some v → get_elem? views j ≡ some w → 1 ≤ weight v → weight w ≡ alone_word → ⊥
none-alone threads word views i j v w small section ne at there inside alone =
    let both = two-parts views i j v w ne at there in
    ⊎_elim (λ few. let f : ⊥ = omega arith in f) (λ full. let only = full.only in let f : ⊥ = omega arith in f) section.few

-- beside one that is alone nobody is inside
pub alone-others : (threads word : ℕ) (views : List (View Hand)) (i j : ℕ) (v w : View Hand) → threads ≤ 16 → IsSection threads word views → i ≢ j
    → get_elem? views i ≡ some v → get_elem? views j ≡ some w → weight v ≡ alone_word → weight w ≡ 0
alone-others threads word views i j v w small section ne at there alone =
    let both = two-parts views i j v w ne at there in
    ⊎_elim (λ few. let f : weight w ≡ 0 = omega arith in f) (λ full. let only = full.only in let f : weight w ≡ 0 = omega arith in f) section.few

-- nobody inside is at rest
pub weightless : (doing : Doing) → weight_of doing ≡ 0 → doing ≡ Rest
weightless Rest h = refl
weightless (Inside place) h = absurd (omega arith)
weightless (Begun place) h = absurd (omega arith)
weightless (Written place) h = absurd (omega arith)
weightless Alone h = absurd (omega arith)
weightless (Watching place) h = absurd (omega arith)
weightless Done h = absurd (omega arith)
weightless (AloneBegun place) h = absurd (omega arith)
weightless (AloneWritten place) h = absurd (omega arith)

-- ---- the section after a step

alone-set : (views : List (View Hand)) (i : ℕ) (v w : View Hand) → get_elem? views i ≡ some v → weight w ≡ weight v → HasOneAlone views → HasOneAlone (set views i w)
alone-set views i v w at same alone = elim (cases_eq alone.seat i) [
  | inl here ↦
      let is : alone.view ≡ v = some-injective alone.view v (sym alone.at ∙ ap (get_elem? views) here ∙ at) in
      record { seat = i; view = w; at = set_here views i w (at-below views i v at); heavy = same ∙ ap weight (sym is) ∙ alone.heavy; only = total-same views i v w at same ∙ alone.only }
  | inr elsewhere ↦ record { seat = alone.seat; view = alone.view; at = set_else views i alone.seat w elsewhere ∙ alone.at; heavy = alone.heavy; only = total-same views i v w at same ∙ alone.only }
]

-- a seat goes on as heavy as before
pub section-same : (threads word word' : ℕ) (views : List (View Hand)) (i : ℕ) (v w : View Hand) → word' ≡ word → get_elem? views i ≡ some v → weight w ≡ weight v
    → IsSection threads word views → IsSection threads word' (set views i w)
section-same threads word word' views i v w is at same section = record {
  counts = is ∙ section.counts ∙ sym (total-same views i v w at same);
  few = ⊎_elim (λ few. inl (let r = total-same views i v w at same in omega arith)) (λ alone. inr (alone-set views i v w at same alone)) section.few;
}

-- one more store is inside
pub section-enter : (threads word : ℕ) (views : List (View Hand)) (i : ℕ) (v w : View Hand) → get_elem? views i ≡ some v → weight v ≡ 0 → weight w ≡ 1 → word < threads
    → IsSection threads word views → IsSection threads (word + 1) (set views i w)
section-enter threads word views i v w at none one less section =
    let r = total-set views i v w at in
    let c = section.counts in
    record { counts = omega arith; few = inl (omega arith) }

-- one fewer is
pub section-leave : (threads word : ℕ) (views : List (View Hand)) (i : ℕ) (v w : View Hand) → threads ≤ 16 → get_elem? views i ≡ some v → weight v ≡ 1 → weight w ≡ 0
    → word < 18446744073709551616 → IsSection threads word views → IsSection threads ((word + (2 ^ 64 - 1)) % 2 ^ 64) (set views i w)
section-leave threads word views i v w small at one none fits section =
    let r = total-set views i v w at in
    let c = section.counts in
    record {
      counts = omega arith;
      few = ⊎_elim (λ few. inl (omega arith)) (λ alone. absurd (not-alone alone (cases_eq alone.seat i))) section.few;
    }
  where
    not-alone : (alone : HasOneAlone views) → (alone.seat ≡ i) ⊎ (alone.seat ≢ i) → ⊥
    not-alone alone (inl here) =
        let is : weight alone.view ≡ weight v = ap weight (some-injective alone.view v (sym alone.at ∙ ap (get_elem? views) here ∙ at)) in
        let heavy = alone.heavy in let one' = one in omega arith
    not-alone alone (inr elsewhere) =
        let both = two-parts views alone.seat i alone.view v elsewhere alone.at at in
        let heavy = alone.heavy in let only = alone.only in let one' = one in omega arith

-- one goes in alone
pub section-alone : (threads : ℕ) (views : List (View Hand)) (i : ℕ) (v w : View Hand) → get_elem? views i ≡ some v → weight v ≡ 0 → weight w ≡ alone_word
    → IsSection threads 0 views → IsSection threads alone_word (set views i w)
section-alone threads views i v w at none heavy section =
    let r = total-set views i v w at in
    let c = section.counts in
    let all : total_of (set views i w) ≡ alone_word = omega arith in
    record { counts = sym all; few = inr (record { seat = i; view = w; at = set_here views i w (at-below views i v at); heavy = heavy; only = all }) }

-- and out again
pub section-empty : (threads word : ℕ) (views : List (View Hand)) (i : ℕ) (v w : View Hand) → threads ≤ 16 → get_elem? views i ≡ some v → weight v ≡ alone_word → weight w ≡ 0
    → IsSection threads word views → IsSection threads 0 (set views i w)
section-empty threads word views i v w small at heavy none section =
    let r = total-set views i v w at in
    let all : total_of views ≡ alone_word = ⊎_elim (λ few. absurd (let p = one-part views i v at in omega arith)) (λ alone. alone.only) section.few in
    let out : total_of (set views i w) ≡ 0 = omega arith in
    record { counts = sym out; few = inl (omega arith) }
