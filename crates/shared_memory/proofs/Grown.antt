-- The history grows by entries of a seat's thread: what its view says from then on, and what the other views say still.
use Rattle.std.proofs.Common.{◌≡◌, ◌≢◌, ℕ, Bool, List, [], ◌∷◌, ◌++◌, set, refl, ap, sym, ◌∙◌, subst, append-nil, append_assoc, ⊎_elim, inl, inr, arith}
use mathlib.Core.Option.{some, some-injective}
use lib.ListN.{get_elem?}
use Rattle.std.proofs.lemmas.Bool.{cases_eq}
use Rattle.atomic_table.proofs.Lists.{at_set, set_here, set_else}
use Rattle.llsc_base.specs.Sizes.{Numbers}
use Rattle.history.specs.Parts.{entries_of}
use Rattle.history.specs.Started.{AreBorn, MayStand}
use Rattle.history.specs.Standing.{Standing, standing_after, standing_of}
use Rattle.history.specs.Follow.{MayFollow}
use Rattle.history.specs.declared.entry.Entry.{Entry}
use Rattle.history.proofs.Appends.{MayFollow-append, entries_of-append, standing_after-append}
use Rattle.history.proofs.Cuts.{each-front}
use Rattle.history.proofs.Legality.{IsLegal-MayFollow}
use Rattle.history.proofs.Prefixes.{IsLegal-front}
use Rattle.shared_memory.specs.declared.views.View.{View}
use Rattle.shared_memory.specs.Origin.{Origin, IsLegalFrom}
use Rattle.shared_memory.specs.Seen.{IsOneOf, IsSingle, Sees}
use Rattle.shared_memory.specs.Passes.{marked}
use Rattle.shared_memory.specs.inner.Passes.{moved}
use Rattle.shared_memory.specs.Rule.{Fits, IsHeld, IsPart, IsWithin, Tells}
use Rattle.shared_memory.proofs.Lists.{at-below}
use Rattle.shared_memory.proofs.Fronts.{front-all, front-more, none-added}

-- entries of one thread alone
pub record AreBy (thread : ℕ) (entries : List Entry) : Type 0 where
  pub own : entries_of thread entries ≡ entries
  pub none : (other : ℕ) → other ≢ thread → entries_of other entries ≡ []

pub are_by-none : (thread : ℕ) → AreBy thread []
are_by-none thread = record { own = refl; none = λ other ne. refl }

pub part-nobody : (history : List Entry) → IsPart [] [] history
part-nobody history = record { front = (history, refl); all = λ t has. absurd (let f : ⊥ = cc in f) }

pub within-nobody : (numbers : List Bool) → IsWithin [] numbers
within-nobody numbers = record { own = λ t has. absurd (let f : ⊥ = cc in f) }

part-all : (numbers : List Bool) (history : List Entry) → IsPart numbers history history
part-all numbers history = record { front = front-all history; all = λ t has. refl }

part-other : (numbers : List Bool) (seen history es : List Entry) (lead : ℕ) → AreBy lead es
    → ((t : ℕ) → IsOneOf t (marked numbers) → t ≢ lead) → IsPart numbers seen history → IsPart numbers seen (history ++ es)
part-other numbers seen history es lead by apart part = record {
  front = front-more seen history es part.front;
  all = λ t has. entries_of-append t history es ∙ ap (λ (w : List Entry). entries_of t history ++ w) (by.none t (apart t has))
      ∙ append-nil (entries_of t history) ∙ part.all t has;
}

module _ {D : Type 0} (knows : Standing → ℕ → D → Type 0) (size : Numbers) where
  pub fits-other : (s s' : Standing) (history es : List Entry) (owner : ℕ → ℕ) (seat : ℕ) (v : View D) (lead : ℕ) → AreBy lead es → owner lead ≢ seat
      → ((t : ℕ) → IsOneOf t (marked v.numbers) → t ≢ lead → knows s t v.doing → knows s' t v.doing)
      → Fits knows size s history owner seat v → Fits knows size s' (history ++ es) owner seat v
  fits-other s s' history es owner seat v lead by elsewhere frame fits =
      let apart : (t : ℕ) → IsOneOf t (marked v.numbers) → t ≢ lead = λ t has same. elsewhere (ap owner (sym same) ∙ fits.owns t has) in
      record {
        part = part-other v.numbers v.seen history es lead by apart fits.part;
        left = part-other v.left.numbers v.left.seen history es lead by (λ t has. apart t (fits.left_within.own t has)) fits.left;
        right = part-other v.right.numbers v.right.seen history es lead by (λ t has. apart t (fits.right_within.own t has)) fits.right;
        left_within = fits.left_within;
        right_within = fits.right_within;
        owns = fits.owns;
        below = fits.below;
        knows_it = λ t has. frame t has (apart t has) (fits.knows_it t has);
      }

  pub fits-own : (s s' : Standing) (history es : List Entry) (owner : ℕ → ℕ) (seat : ℕ) (v : View D) (doing : D)
      → IsSingle v.lead (marked v.numbers) → knows s' v.lead doing
      → Fits knows size s history owner seat v → Fits knows size s' (history ++ es) owner seat (moved v history es doing)
  fits-own s s' history es owner seat v doing single known fits = record {
    part = part-all v.numbers (history ++ es);
    left = part-nobody (history ++ es);
    right = part-nobody (history ++ es);
    left_within = within-nobody v.numbers;
    right_within = within-nobody v.numbers;
    owns = fits.owns;
    below = fits.below;
    knows_it = λ t has. subst (λ (u : ℕ). knows s' u doing) (sym (single.only t has)) known;
  }

  -- it is the same for who says who owns its numbers in other words
  pub fits-owner : (s : Standing) (history : List Entry) (owner owner' : ℕ → ℕ) (seat : ℕ) (v : View D)
      → ((t : ℕ) → IsOneOf t (marked v.numbers) → owner' t ≡ owner t) → Fits knows size s history owner seat v → Fits knows size s history owner' seat v
  fits-owner s history owner owner' seat v same fits = record {
    part = fits.part;
    left = fits.left;
    right = fits.right;
    left_within = fits.left_within;
    right_within = fits.right_within;
    owns = λ t has. same t has ∙ fits.owns t has;
    below = fits.below;
    knows_it = fits.knows_it;
  }

  -- each number is held as before where a seat's view is replaced by one of the same numbers
  pub held-set : (views : List (View D)) (owner : ℕ → ℕ) (seat : ℕ) (v w : View D) → get_elem? views seat ≡ some v → w.numbers ≡ v.numbers
      → (t : ℕ) → IsHeld views (owner t) t → IsHeld (set views seat w) (owner t) t
  held-set views owner seat v w at same t held = elim (cases_eq (owner t) seat) [
    | inl here ↦ record {
      view = w;
      at = ap (λ (k : ℕ). get_elem? (set views seat w) k) here ∙ set_here views seat w (at-below views seat v at);
      has = let one : held.view ≡ v = some-injective held.view v (sym held.at ∙ ap (λ (k : ℕ). get_elem? views k) here ∙ at) in
          ap (λ (ns : List Bool). marked ns t) same ∙ ap (λ (u : View D). marked u.numbers t) (sym one) ∙ held.has;
    }
    | inr elsewhere ↦ record { view = held.view; at = set_else views seat (owner t) w elsewhere ∙ held.at; has = held.has }
  ]

  module _ (bytes : List ℕ) where
    pub grown : (views : List (View D)) (history es : List Entry) (s s' : Standing) (seat : ℕ) (v : View D) (doing : D)
        → (t : Tells knows size bytes views history s) → get_elem? views seat ≡ some v → IsSingle v.lead (marked v.numbers) → AreBy v.lead es
        → MayFollow size s es → s' ≡ standing_after size s es → knows s' v.lead doing
        → ((j : ℕ) (w : View D) → j ≢ seat → get_elem? views j ≡ some w → (u : ℕ) → IsOneOf u (marked w.numbers) → u ≢ v.lead → knows s u w.doing → knows s' u w.doing)
        → Tells knows size bytes (set views seat (moved v history es doing)) (history ++ es) s'
    grown views history es s s' seat v doing t at single by may standing known frame =
        let w = moved v history es doing in
        let fits = t.each seat v at in
        let follow : MayFollow size (standing_after size (standing_of bytes) history) es = subst (λ (x : Standing). MayFollow size x es) t.standing_is may in
        record {
          memory = t.memory;
          standing_is = standing ∙ ap (λ (x : Standing). standing_after size x es) t.standing_is ∙ sym (standing_after-append size (standing_of bytes) history es);
          follows = MayFollow-append size (standing_of bytes) history es t.follows follow;
          owner = t.owner;
          each = λ j x there. ⊎_elim
              (λ h. subst (λ (p : ℕ). Fits knows size s' (history ++ es) t.owner p x) (sym h.0) (subst (λ (y : View D). Fits knows size s' (history ++ es) t.owner seat y) h.1 (fits-own s s' history es t.owner seat v doing single known fits)))
              (λ h. fits-other s s' history es t.owner j x v.lead by (λ same. h.0 (sym (sym (fits.owns v.lead single.has) ∙ same))) (frame j x h.0 h.1) (t.each j x h.1))
              (at_set views seat j w x there);
          held = λ u below. held-set views t.owner seat v w at refl u (t.held u below);
          outside = λ u above. entries_of-append u history es ∙ ap (λ (l : List Entry). entries_of u history ++ l) (by.none u (λ same.
              let h = fits.below v.lead single.has in let same' : u ≡ v.lead = same in absurd (omega arith))) ∙ append-nil (entries_of u history) ∙ t.outside u above;
        }

-- what is told of such a step
pub sees-grown : (origin : Origin) (lead : ℕ) (numbers : List Bool) (seen history es : List Entry) → IsPart numbers seen history → IsOneOf lead (marked numbers)
    → AreBy lead es → IsLegalFrom origin (history ++ es) → Sees origin lead seen es (history ++ es)
sees-grown origin lead numbers seen history es part has by legal = record {
  added = part.front.0 ++ es;
  longer = ap (λ (l : List Entry). l ++ es) part.front.1 ∙ append_assoc seen part.front.0 es;
  mine =
      let none : entries_of lead part.front.0 ≡ [] = none-added (entries_of lead seen) (entries_of lead part.front.0)
      (sym (entries_of-append lead seen part.front.0) ∙ ap (entries_of lead) (sym part.front.1) ∙ part.all lead has) in
      entries_of-append lead part.front.0 es ∙ ap (λ (l : List Entry). l ++ entries_of lead es) none ∙ by.own;
  legal = legal;
}

-- the history is legal
pub legal-tells : {D : Type 0} (knows : Standing → ℕ → D → Type 0) (size : Numbers) (bytes : List ℕ) (views : List (View D)) (history : List Entry) (s : Standing) (first spare : ℕ) (spends steady : Bool)
    → Tells knows size bytes views history s → AreBorn first spare history
    → IsLegalFrom (record { size = size; first = first; spare = spare; bytes = bytes; spends = spends; steady = steady }) history
legal-tells knows size bytes views history s first spare spends steady t born =
    record { legal = IsLegal-MayFollow size bytes history t.memory t.follows; known = t.outside; born = born }

nil-front : (xs ys : List Entry) → xs ++ ys ≡ [] → xs ≡ []
nil-front [] ys none = refl
nil-front (x ∷ xs) ys none = absurd (let f : ⊥ = cc in f)

-- a front of a legal history is legal
pub legal-front : (origin : Origin) (front back : List Entry) → IsLegalFrom origin (front ++ back) → IsLegalFrom origin front
legal-front origin front back whole = record {
  legal = IsLegal-front origin.size origin.bytes front back whole.legal;
  known = λ t above. nil-front (entries_of t front) (entries_of t back) (sym (entries_of-append t front back) ∙ whole.known t above);
  born = each-front (MayStand origin.first origin.spare) front back whole.born;
}

-- what a view has seen is legal
pub legal-part : {D : Type 0} (knows : Standing → ℕ → D → Type 0) (size : Numbers) (bytes : List ℕ) (views : List (View D)) (history : List Entry) (s : Standing) (first spare : ℕ) (spends steady : Bool)
    (seat : ℕ) (v : View D) → Tells knows size bytes views history s → AreBorn first spare history → get_elem? views seat ≡ some v
    → IsLegalFrom (record { size = size; first = first; spare = spare; bytes = bytes; spends = spends; steady = steady }) v.seen
legal-part knows size bytes views history s first spare spends steady seat v t born at =
    let origin : Origin = record { size = size; first = first; spare = spare; bytes = bytes; spends = spends; steady = steady } in
    let front = (t.each seat v at).part.front in
    legal-front origin v.seen front.0 (subst (IsLegalFrom origin) front.1 (legal-tells knows size bytes views history s first spare spends steady t born))
