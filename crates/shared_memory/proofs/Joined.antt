-- A seat takes in the numbers of another, and learns what it had seen.
use Rattle.std.proofs.Common.{◌≡◌, ◌≢◌, ◌==◌, ℕ, ◌<◌, ◌⊎◌, ◌||◌, Bool, true, false, if◌then◌else◌, List, [], length, set, refl, ap, sym, ◌∙◌, subst, ⊎_elim, inl, inr}
use mathlib.Core.Option.{some, some-injective}
use lib.ListN.{get_elem?}
use Rattle.std.proofs.lemmas.Bool.{cases_Bool, cases_eq, ne_eqb}
use Rattle.atomic_table.proofs.Lists.{at_set, set_here, set_else}
use Rattle.llsc_base.specs.Sizes.{Numbers}
use Rattle.history.specs.Standing.{Standing}
use Rattle.history.specs.declared.entry.Entry.{Entry}
use Rattle.shared_memory.specs.declared.views.View.{View}
use Rattle.shared_memory.specs.Seen.{IsFront, IsOneOf, SaysAllOf, longer}
use Rattle.shared_memory.specs.Passes.{IsSettled, marked, nobody}
use Rattle.shared_memory.specs.inner.Passes.{joined_view, merged, spent_view}
use Rattle.shared_memory.specs.Rule.{Fits, Tells}
use Rattle.shared_memory.proofs.Lists.{at-below}
use Rattle.shared_memory.proofs.Fronts.{front-all, fronts-compare, longer-is, says_all-between}
use Rattle.shared_memory.proofs.Marks.{marked-merged}
use Rattle.shared_memory.proofs.Grown.{fits-owner, held-set, part-nobody, within-nobody}

-- ---- what two passes have seen

pub longer-front : (xs ys l : List Entry) → IsFront xs l → IsFront ys l → IsFront (longer xs ys) l
longer-front xs ys l hx hy = longer-is (λ (w : List Entry). IsFront w l) xs ys (λ _. hx) (λ _. hy)

pub front-longer_left : (xs ys l : List Entry) → IsFront xs l → IsFront ys l → IsFront xs (longer xs ys)
front-longer_left xs ys l hx hy = longer-is (λ (w : List Entry). IsFront xs w) xs ys (λ _. front-all xs) (λ h. fronts-compare xs ys l hx hy h)

pub front-longer_right : (xs ys l : List Entry) → IsFront xs l → IsFront ys l → IsFront ys (longer xs ys)
front-longer_right xs ys l hx hy = longer-is (λ (w : List Entry). IsFront ys w) xs ys (λ h. fronts-compare ys xs l hy hx h) (λ _. front-all ys)

says_all-longer : (numbers : ℕ → Bool) (xs ys l : List Entry) → IsFront xs ys → IsFront ys l → SaysAllOf numbers xs l → SaysAllOf numbers ys l
says_all-longer numbers xs ys l hx hy all t has = all t has ∙ sym (says_all-between numbers xs ys l hx hy all t has)

-- ---- numbers of both

or_left : (a b : Bool) → a ≡ true → (a || b) ≡ true
or_left true b h = refl
or_left false b h = absurd (let f : ⊥ = cc in f)

or_right : (a b : Bool) → b ≡ true → (a || b) ≡ true
or_right true b h = refl
or_right false b h = h

or_either : (a b : Bool) → (a || b) ≡ true → (a ≡ true) ⊎ (b ≡ true)
or_either true b h = inl refl
or_either false b h = inr h

pub merged-left : (xs ys : List Bool) (t : ℕ) → IsOneOf t (marked xs) → IsOneOf t (marked (merged xs ys))
merged-left xs ys t h = marked-merged xs ys t ∙ or_left (marked xs t) (marked ys t) h

pub merged-right : (xs ys : List Bool) (t : ℕ) → IsOneOf t (marked ys) → IsOneOf t (marked (merged xs ys))
merged-right xs ys t h = marked-merged xs ys t ∙ or_right (marked xs t) (marked ys t) h

pub merged-either : (xs ys : List Bool) (t : ℕ) → IsOneOf t (marked (merged xs ys)) → IsOneOf t (marked xs) ⊎ IsOneOf t (marked ys)
merged-either xs ys t h = or_either (marked xs t) (marked ys t) (sym (marked-merged xs ys t) ∙ h)

-- ---- the join

module _ {D : Type 0} (knows : Standing → ℕ → D → Type 0) (size : Numbers) where
  fits-spent : (s : Standing) (history : List Entry) (owner : ℕ → ℕ) (seat : ℕ) (doing : D) → Fits knows size s history owner seat (spent_view doing)
  fits-spent s history owner seat doing = record {
    part = part-nobody history;
    left = part-nobody history;
    right = part-nobody history;
    left_within = within-nobody [];
    right_within = within-nobody [];
    owns = λ t has. absurd (let f : ⊥ = cc in f);
    below = λ t has. absurd (let f : ⊥ = cc in f);
    knows_it = λ t has. absurd (let f : ⊥ = cc in f);
  }

  fits-both : (s : Standing) (history : List Entry) (owner owner' : ℕ → ℕ) (seat other : ℕ) (v w : View D) (doing : D)
      → ((t : ℕ) → IsOneOf t (marked v.numbers) → owner' t ≡ seat) → ((t : ℕ) → IsOneOf t (marked w.numbers) → owner' t ≡ seat)
      → ((t : ℕ) → knows s t v.doing → knows s t doing) → ((t : ℕ) → knows s t w.doing → knows s t doing)
      → Fits knows size s history owner seat v → Fits knows size s history owner other w → Fits knows size s history owner' seat (joined_view doing v w)
  fits-both s history owner owner' seat other v w doing mine yours one two fv fw =
      let seen = longer v.seen w.seen in
      let front = longer-front v.seen w.seen history fv.part.front fw.part.front in
      let left = front-longer_left v.seen w.seen history fv.part.front fw.part.front in
      let right = front-longer_right v.seen w.seen history fv.part.front fw.part.front in
      let either = merged-either v.numbers w.numbers in
      record {
        part = record {
          front = front;
          all = λ t has. ⊎_elim (λ h. says_all-longer (marked v.numbers) v.seen seen history left front fv.part.all t h) (λ h. says_all-longer (marked w.numbers) w.seen seen history right front fw.part.all t h) (either t has);
        };
        left = fv.part;
        right = fw.part;
        left_within = record { own = λ t has. merged-left v.numbers w.numbers t has };
        right_within = record { own = λ t has. merged-right v.numbers w.numbers t has };
        owns = λ t has. ⊎_elim (λ h. mine t h) (λ h. yours t h) (either t has);
        below = λ t has. ⊎_elim (λ h. fv.below t h) (λ h. fw.below t h) (either t has);
        knows_it = λ t has. ⊎_elim (λ h. one t (fv.knows_it t h)) (λ h. two t (fw.knows_it t h)) (either t has);
      }

  module _ (bytes : List ℕ) where
    pub joined : (views : List (View D)) (history : List Entry) (s : Standing) (seat other : ℕ) (v w : View D) (doing idle : D)
        → (tells : Tells knows size bytes views history s) → get_elem? views seat ≡ some v → other ≢ seat → get_elem? (set views seat (joined_view doing v w)) other ≡ some w
        → ((t : ℕ) → knows s t v.doing → knows s t doing) → ((t : ℕ) → knows s t w.doing → knows s t doing)
        → Tells knows size bytes (set (set views seat (joined_view doing v w)) other (spent_view idle)) history s
    joined views history s seat other v w doing idle tells at apart there one two =
        let both = joined_view doing v w in
        let spent : View D = spent_view idle in
        let between = set views seat both in
        let at_w : get_elem? views other ≡ some w = sym (set_else views seat other both apart) ∙ there in
        let fv = tells.each seat v at in
        let fw = tells.each other w at_w in
        let inside : seat < length views = at-below views seat v at in
        let owner : ℕ → ℕ = λ u. if marked w.numbers u then seat else tells.owner u in
        let own_w : (u : ℕ) → IsOneOf u (marked w.numbers) → owner u ≡ seat = λ u h. ap (λ (b : Bool). if b then seat else tells.owner u) h in
        let own_else : (u : ℕ) → marked w.numbers u ≡ false → owner u ≡ tells.owner u = λ u h. ap (λ (b : Bool). if b then seat else tells.owner u) h in
        let not_w : (u j : ℕ) → tells.owner u ≡ j → j ≢ other → marked w.numbers u ≡ false = λ u j is ne. elim (cases_Bool (marked w.numbers u)) [
          | inl h ↦ absurd (ne (sym is ∙ fw.owns u h))
          | inr h ↦ h
        ] in
        let own_v : (u : ℕ) → IsOneOf u (marked v.numbers) → owner u ≡ seat = λ u h. own_else u (not_w u seat (fv.owns u h) (λ same. apart (sym same))) ∙ fv.owns u h in
        let fits_both = fits-both s history tells.owner owner seat other v w doing own_v own_w one two fv fw in
        let both_at : get_elem? (set between other spent) seat ≡ some both = set_else between other seat spent (λ same. apart (sym same)) ∙ set_here views seat both inside in
        record {
          memory = tells.memory;
          standing_is = tells.standing_is;
          follows = tells.follows;
          owner = owner;
          each = λ j x is. ⊎_elim
              (λ h. subst (λ (y : View D). Fits knows size s history owner j y) h.1 (fits-spent s history owner j idle))
              (λ h. ⊎_elim
              (λ g. subst (λ (p : ℕ). Fits knows size s history owner p x) (sym g.0) (subst (λ (y : View D). Fits knows size s history owner seat y) g.1 fits_both))
              (λ g. let fx = tells.each j x g.1 in fits-owner knows size s history tells.owner owner j x (λ u has. own_else u (not_w u j (fx.owns u has) h.0)) fx)
              (at_set views seat j both x h.1))
              (at_set between other j spent x is);
          held = λ u below. elim (cases_Bool (marked w.numbers u)) [
            | inl h ↦ record { view = both; at = ap (get_elem? (set between other spent)) (own_w u h) ∙ both_at; has = merged-right v.numbers w.numbers u h }
            | inr h ↦ let was = tells.held u below in elim (cases_eq (tells.owner u) seat) [
              | inl here ↦
                  let view_is : was.view ≡ v = some-injective was.view v (sym was.at ∙ ap (get_elem? views) here ∙ at) in
                  record {
                    view = both;
                    at = ap (get_elem? (set between other spent)) (own_else u h ∙ here) ∙ both_at;
                    has = merged-left v.numbers w.numbers u (ap (λ (y : View D). marked y.numbers u) (sym view_is) ∙ was.has);
                  }
              | inr elsewhere ↦ elim (cases_eq (tells.owner u) other) [
                | inl there_w ↦
                    let view_is : was.view ≡ w = some-injective was.view w (sym was.at ∙ ap (get_elem? views) there_w ∙ at_w) in
                    absurd (let f : false ≡ true = sym h ∙ ap (λ (y : View D). marked y.numbers u) (sym view_is) ∙ was.has in let g : ⊥ = cc in g)
                | inr neither ↦ record {
                  view = was.view;
                  at = ap (get_elem? (set between other spent)) (own_else u h) ∙ set_else between other (tells.owner u) spent neither ∙ set_else views seat (tells.owner u) both elsewhere ∙ was.at;
                  has = was.has;
                }
              ]
            ]
          ];
          outside = tells.outside;
        }

    -- two seats are led by different numbers
    pub leads-differ : (views : List (View D)) (history : List Entry) (s : Standing) (seat other : ℕ) (v w both : View D) → Tells knows size bytes views history s
        → get_elem? views seat ≡ some v → other ≢ seat → get_elem? (set views seat both) other ≡ some w → IsOneOf v.lead (marked v.numbers) → IsOneOf w.lead (marked w.numbers)
        → (v.lead == w.lead) ≡ false
    leads-differ views history s seat other v w both t at apart there lead_v lead_w =
        let one = (t.each seat v at).owns v.lead lead_v in
        let two = (t.each other w (sym (set_else views seat other both apart) ∙ there)).owns w.lead lead_w in
        ne_eqb v.lead w.lead (λ same. apart (sym two ∙ ap t.owner (sym same) ∙ one))

    -- a seat that was joined is as such from then on
    pub settled : (views : List (View D)) (history : List Entry) (s : Standing) (seat : ℕ) (v : View D)
        → (tells : Tells knows size bytes views history s) → get_elem? views seat ≡ some v
        → Tells knows size bytes (set views seat (record v { left = nobody; right = nobody })) history s
    settled views history s seat v tells at =
        let w = record v { left = nobody; right = nobody } in
        let fits = tells.each seat v at in
        let inside : seat < length views = at-below views seat v at in
        let fits_w : Fits knows size s history tells.owner seat w = record {
          part = fits.part;
          left = part-nobody history;
          right = part-nobody history;
          left_within = within-nobody v.numbers;
          right_within = within-nobody v.numbers;
          owns = fits.owns;
          below = fits.below;
          knows_it = fits.knows_it;
        } in
        record {
          memory = tells.memory;
          standing_is = tells.standing_is;
          follows = tells.follows;
          owner = tells.owner;
          each = λ j x is. ⊎_elim
              (λ h. subst (λ (p : ℕ). Fits knows size s history tells.owner p x) (sym h.0) (subst (λ (y : View D). Fits knows size s history tells.owner seat y) h.1 fits_w))
              (λ h. tells.each j x h.1)
              (at_set views seat j w x is);
          held = λ u below. held-set knows size views tells.owner seat v w at refl u (tells.held u below);
          outside = tells.outside;
        }

  -- what is told of that
  pub settles : (s : Standing) (history : List Entry) (owner : ℕ → ℕ) (seat : ℕ) (v : View D) → Fits knows size s history owner seat v
      → IsSettled v (record v { left = nobody; right = nobody })
  settles s history owner seat v fits = record {
    view = refl;
    left = λ is. let front : IsFront v.left.seen v.seen = subst (λ (l : List Entry). IsFront v.left.seen l) (sym is) (front-longer_left v.left.seen v.right.seen history fits.left.front fits.right.front) in
        (front, says_all-between (marked v.left.numbers) v.left.seen v.seen history front fits.part.front fits.left.all);
    right = λ is. let front : IsFront v.right.seen v.seen = subst (λ (l : List Entry). IsFront v.right.seen l) (sym is) (front-longer_right v.left.seen v.right.seen history fits.left.front fits.right.front) in
        (front, says_all-between (marked v.right.numbers) v.right.seen v.seen history front fits.part.front fits.right.all);
  }
