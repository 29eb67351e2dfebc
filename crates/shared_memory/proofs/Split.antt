-- A seat gives one of its numbers away to a new seat, before any of them has entries.
use Rattle.std.proofs.Common.{◌≡◌, ◌≢◌, ℕ, ◌<◌, Bool, false, if◌then◌else◌, nat_eq, Option, None, List, [], ◌∷◌, ◌++◌, length, set, refl, ap, sym, ◌∙◌, subst, length-set, ⊎_elim, inl, inr}
use mathlib.Core.Option.{some, some-injective}
use lib.ListN.{get_elem?}
use Rattle.std.proofs.lemmas.Bool.{cases_Bool, cases_eq, eq-eqb, ne_eqb}
use Rattle.atomic_table.proofs.Lists.{at_longer, at_last, at_set, set_here, set_else}
use Rattle.llsc_base.specs.Sizes.{Numbers}
use Rattle.llsc_base.specs.declared.access.Place.{Place}
use Rattle.history.specs.Entry.{thread_of}
use Rattle.history.specs.Parts.{entries_of}
use Rattle.history.specs.Reservation.{reserved_since}
use Rattle.history.specs.Since.{Since, or_here, since_last, watch_of}
use Rattle.history.specs.Standing.{Standing, rests, standing_after, standing_of}
use Rattle.history.specs.declared.entry.Entry.{Entry}
use Rattle.history.specs.declared.entry.Entry.TheVariants.{Read, Write, Fail, Clear, Watch, Miss, Begin, End, Start}
use Rattle.history.proofs.Stages.{last_stage, last_stage-standing}
use Rattle.history.proofs.Steps.{reservation_of-standing}
use Rattle.shared_memory.specs.declared.views.View.{View}
use Rattle.shared_memory.specs.Seen.{IsOneOf}
use Rattle.shared_memory.specs.Passes.{marked, nobody, one_mark}
use Rattle.shared_memory.specs.inner.Passes.{alone_mark, without_mark}
use Rattle.shared_memory.specs.Rule.{Fits, Tells}
use Rattle.shared_memory.proofs.Lists.{at-below, at-end}
use Rattle.shared_memory.proofs.Marks.{single-one, taken-not, taken-other, taken-was}
use Rattle.shared_memory.proofs.Grown.{fits-owner, within-nobody}

-- ---- a thread without entries

other-watch : (t : ℕ) (e : Entry) → nat_eq (thread_of e) t ≡ false → watch_of t e ≡ None
other-watch t (Watch thread place) other = rw other refl
other-watch t (Read thread place value ex) other = refl
other-watch t (Write thread place value ex) other = refl
other-watch t (Fail thread place value cause) other = refl
other-watch t (Clear thread) other = refl
other-watch t (Miss thread place) other = refl
other-watch t (Begin thread place) other = refl
other-watch t (End thread place) other = refl
other-watch t (Start thread child entry arg) other = refl

no-watch : (t : ℕ) (history : List Entry) → entries_of t history ≡ [] → since_last (watch_of t) history ≡ None
no-watch t [] none = refl
no-watch t (e ∷ es) none = elim (cases_Bool (nat_eq (thread_of e) t)) [
  | inl own ↦ absurd (let same : e ∷ entries_of t es ≡ [] = rw own at none in let f : ⊥ = cc in f)
  | inr other ↦
      let rest : entries_of t es ≡ [] = rw other at none in
      ap (λ (s : Option Since). or_here s (watch_of t e) es) (no-watch t es rest) ∙ ap (λ (p : Option Place). or_here None p es) (other-watch t e other)
]

-- it holds no reservation
pub unreserved : (size : Numbers) (t : ℕ) (bytes : List ℕ) (history : List Entry) → entries_of t history ≡ []
    → (standing_after size (standing_of bytes) history).reserved t ≡ None
unreserved size t bytes history none = sym (reservation_of-standing size t bytes history) ∙ ap (reserved_since size t) (no-watch t history none)

-- and stands between two operations
pub resting : (size : Numbers) (t : ℕ) (bytes : List ℕ) (history : List Entry) → entries_of t history ≡ []
    → (standing_after size (standing_of bytes) history).stage t ≡ rests
resting size t bytes history none = last_stage-standing size (standing_of bytes) t history ∙ ap (last_stage rests) none

-- ---- the split

module _ {D : Type 0} (knows : Standing → ℕ → D → Type 0) (size : Numbers) where
  -- some of a view's numbers, for a seat that owns them
  fits-some : (s : Standing) (history : List Entry) (owner owner' : ℕ → ℕ) (seat seat' : ℕ) (v : View D) (numbers : List Bool) (lead : ℕ) (doing : D)
      → v.left ≡ nobody → v.right ≡ nobody
      → ((t : ℕ) → IsOneOf t (marked numbers) → IsOneOf t (marked v.numbers)) → ((t : ℕ) → IsOneOf t (marked numbers) → owner' t ≡ seat')
      → ((t : ℕ) → IsOneOf t (marked numbers) → knows s t doing)
      → Fits knows size s history owner seat v → Fits knows size s history owner' seat' (record v { numbers = numbers; lead = lead; doing = doing })
  fits-some s history owner owner' seat seat' v numbers lead doing left right some_of owned known fits = record {
    part = record { front = fits.part.front; all = λ t has. fits.part.all t (some_of t has) };
    left = fits.left;
    right = fits.right;
    left_within = rw left (within-nobody numbers);
    right_within = rw right (within-nobody numbers);
    owns = owned;
    below = λ t has. fits.below t (some_of t has);
    knows_it = known;
  }

  module _ (bytes : List ℕ) where
    pub split : (views : List (View D)) (history : List Entry) (s : Standing) (seat : ℕ) (v : View D) (t lead : ℕ) (doing : D)
        → (tells : Tells knows size bytes views history s) → get_elem? views seat ≡ some v → v.left ≡ nobody → v.right ≡ nobody → IsOneOf t (marked v.numbers)
        → ((u : ℕ) → IsOneOf u (marked v.numbers) → entries_of u v.seen ≡ [])
        → ((u : ℕ) → s.stage u ≡ rests → s.reserved u ≡ None → knows s u doing)
        → Tells knows size bytes (set views seat (without_mark t lead doing v) ++ alone_mark t doing v ∷ []) history s
    split views history s seat v t lead doing tells at left right has fresh idle =
        let rest = without_mark t lead doing v in
        let taken = alone_mark t doing v in
        let new = length views in
        let new_is : length (set views seat rest) ≡ new = length-set views seat rest in
        let fits = tells.each seat v at in
        let inside : seat < new = at-below views seat v at in
        let owner : ℕ → ℕ = λ u. if nat_eq u t then new else tells.owner u in
        let own_t : owner t ≡ new = rw (eq-eqb t t refl) refl in
        let own_other : (u : ℕ) → u ≢ t → owner u ≡ tells.owner u = λ u ne. rw (ne_eqb u t ne) refl in
        let none : (u : ℕ) → IsOneOf u (marked v.numbers) → entries_of u history ≡ [] = λ u is. fits.part.all u is ∙ fresh u is in
        let known : (u : ℕ) → IsOneOf u (marked v.numbers) → knows s u doing = λ u is. idle u
        (ap (λ (x : Standing). x.stage u) tells.standing_is ∙ resting size u bytes history (none u is))
        (ap (λ (x : Standing). x.reserved u) tells.standing_is ∙ unreserved size u bytes history (none u is)) in
        let single = single-one t in
        let was : (u : ℕ) → IsOneOf u (marked (one_mark t)) → IsOneOf u (marked v.numbers) = λ u is. subst (λ (k : ℕ). IsOneOf k (marked v.numbers)) (sym (single.only u is)) has in
        let fits_rest : Fits knows size s history owner seat rest = fits-some s history tells.owner owner seat seat v rest.numbers lead doing left right (taken-was v.numbers t)
        (λ u is. own_other u (λ same. taken-not v.numbers t (subst (λ (k : ℕ). IsOneOf k (marked rest.numbers)) same is)) ∙ fits.owns u (taken-was v.numbers t u is))
        (λ u is. known u (taken-was v.numbers t u is)) fits in
        let fits_taken : Fits knows size s history owner new taken = fits-some s history tells.owner owner seat new v (one_mark t) t doing left right was
        (λ u is. ap owner (single.only u is) ∙ own_t) (λ u is. known u (was u is)) fits in
        record {
          memory = tells.memory;
          standing_is = tells.standing_is;
          follows = tells.follows;
          owner = owner;
          each = λ j x there. ⊎_elim
              (λ in_set. ⊎_elim
              (λ h. subst (λ (p : ℕ). Fits knows size s history owner p x) (sym h.0) (subst (λ (y : View D). Fits knows size s history owner seat y) h.1 fits_rest))
              (λ h. let other = tells.each j x h.1 in fits-owner knows size s history tells.owner owner j x
              (λ u is. own_other u (λ same. h.0 (sym (other.owns u is) ∙ ap tells.owner same ∙ fits.owns t has))) other)
              (at_set views seat j rest x in_set))
              (λ last. subst (λ (p : ℕ). Fits knows size s history owner p x) (sym (last.0 ∙ new_is)) (subst (λ (y : View D). Fits knows size s history owner new y) last.1 fits_taken))
              (at-end (set views seat rest) taken x j there);
          held = λ u below. elim (cases_eq u t) [
            | inl same ↦ record {
              view = taken;
              at = ap (get_elem? (set views seat rest ++ taken ∷ [])) (ap owner same ∙ own_t) ∙ at_last (set views seat rest) taken new new_is;
              has = ap (marked (one_mark t)) same ∙ single.has;
            }
            | inr ne ↦ let h = tells.held u below in elim (cases_eq (tells.owner u) seat) [
              | inl here ↦
                  let view_is : h.view ≡ v = some-injective h.view v (sym h.at ∙ ap (get_elem? views) here ∙ at) in
                  record {
                    view = rest;
                    at = ap (get_elem? (set views seat rest ++ taken ∷ [])) (own_other u ne ∙ here) ∙ at_longer (set views seat rest) (taken ∷ []) seat rest (set_here views seat rest inside);
                    has = taken-other v.numbers t u ne (ap (λ (y : View D). marked y.numbers u) (sym view_is) ∙ h.has);
                  }
              | inr elsewhere ↦ record {
                view = h.view;
                at = ap (get_elem? (set views seat rest ++ taken ∷ [])) (own_other u ne) ∙ at_longer (set views seat rest) (taken ∷ []) (tells.owner u) h.view (set_else views seat (tells.owner u) rest elsewhere ∙ h.at);
                has = h.has;
              }
            ]
          ];
          outside = tells.outside;
        }
