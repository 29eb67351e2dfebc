-- Seats that are split and joined, and one that learns that what it has seen is legal, keep the rule.
use Rattle.std.proofs.Common.{◌≡◌, ℕ, Bool, false, if◌then◌else◌, List, [], ◌∷◌, ◌++◌, set, slice_index, refl, ap, sym, ◌∙◌, subst, inl, inr, ⊎_elim, arith}
use mathlib.Core.Option.{none}
use Rattle.atomic_table.specs.Table.{Allows, Joins, Splits, keeps, step}
use Rattle.atomic_table.proofs.Lists.{at_longer, set_again}
use Rattle.llsc_base.specs.declared.access.Place.{Place}
use Rattle.history.specs.Parts.{entries_of}
use Rattle.history.specs.Standing.{Standing}
use Rattle.shared_memory.specs.declared.views.View.{View}
use Rattle.shared_memory.specs.Passes.{marked, nobody}
use Rattle.shared_memory.specs.inner.Passes.{alone_mark, joined_view, spent_view, without_mark}
use Rattle.shared_memory.specs.Seen.{IsOneOf}
use Rattle.shared_memory.proofs.Grown.{legal-part}
use Rattle.shared_memory.proofs.Joined.{joined, leads-differ, settled, settles}
use Rattle.shared_memory.proofs.Split.{split}
use Rattle.hst_memory.specs.declared.hands.Doing.{Doing}
use Rattle.hst_memory.specs.declared.hands.Doing.TheVariants.{Rest}
use Rattle.hst_memory.specs.declared.hands.Reserve.{Reserve}
use Rattle.hst_memory.specs.declared.hands.Reserve.TheVariants.{Nothing, Several}
use Rattle.hst_memory.specs.declared.hands.Hand.{Hand}
use Rattle.shared_memory.specs.declared.plans.Plan.{Plan}
use Rattle.hst_memory.specs.inner.Hands.{hand, reserve_joined, weight_of}
use Rattle.hst_memory.specs.inner.Knowledge.{IsAt, Knows}
use Rattle.hst_memory.specs.Kept.{origin_of}
use Rattle.hst_memory.specs.inner.Kept.{IsSection, Kept, KeptBy}
use Rattle.shared_memory.specs.Told.{settled_at, vouched_at}
use Rattle.shared_memory.specs.inner.Told.{ask}
use Rattle.hst_memory.specs.Told.{Mine}
use Rattle.hst_memory.proofs.PlainSteps.{as-found}
use Rattle.hst_memory.proofs.Sections.{section-same, total-push, weight}

section-push : (threads word : ℕ) (views : List (View Hand)) (w : View Hand) → weight w ≡ 0 → IsSection threads word views → IsSection threads word (views ++ w ∷ [])
section-push threads word views w light section =
    let r = total-push views w in
    let c = section.counts in
    record {
      counts = omega arith;
      few = ⊎_elim (λ few. inl (omega arith)) (λ alone. inr (record { seat = alone.seat; view = alone.view; at = at_longer views (w ∷ []) alone.seat alone.view alone.at; heavy = alone.heavy; only = r ∙ (let only = alone.only in omega arith) })) section.few;
    }

module _ (plan : Plan) where
  several : (s : Standing) (t : ℕ) (h : Hand) → h.doing ≡ Rest → Knows plan.size s t h → Knows plan.size s t (hand Rest Several)
  several s t h rest k = record { at = subst (λ (d : Doing). IsAt plan.size s t d) rest k.at; reserve = tt; agrees = tt }

  pub splits : (seat : ℕ) (v : View Hand) (t lead : ℕ) → v.doing.doing ≡ Rest → v.left ≡ nobody → v.right ≡ nobody → IsOneOf t (marked v.numbers)
      → ((u : ℕ) → IsOneOf u (marked v.numbers) → entries_of u v.seen ≡ [])
      → Splits (KeptBy plan) seat v (without_mark t lead (hand Rest Nothing) v) (alone_mark t (hand Rest Nothing) v)
  splits seat v t lead rest left right has fresh s k at =
      let there = without_mark t lead (hand Rest Nothing) v in
      let given = alone_mark t (hand Rest Nothing) v in
      record {
        history = k.history;
        standing = k.standing;
        born = k.born;
        tells = split (Knows plan.size) plan.size plan.image.value.bytes s.views k.history k.standing seat v t lead (hand Rest Nothing) k.tells at left right has fresh
            (λ u stage reserved. record { at = stage; reserve = reserved; agrees = tt });
        laid = k.laid;
        section = section-push plan.size.threads (slice_index s.words 0) (set s.views seat there) given refl
            (section-same plan.size.threads (slice_index s.words 0) (slice_index s.words 0) s.views seat v there refl at (sym (ap weight_of rest)) k.section);
      }

  pub joins : (seat : ℕ) (v : View Hand) (other : ℕ) (w : View Hand) → v.doing.doing ≡ Rest → w.doing.doing ≡ Rest
      → IsOneOf v.lead (marked v.numbers) → IsOneOf w.lead (marked w.numbers)
      → Joins (KeptBy plan) seat v other w (joined_view (hand Rest (reserve_joined v w)) v w) (spent_view (hand Rest Nothing))
  joins seat v other w rest_v rest_w lead_v lead_w s k at apart there =
      let h = hand Rest (reserve_joined v w) in
      let both = joined_view h v w in
      let spent : View Hand = spent_view (hand Rest Nothing) in
      let views = set s.views seat both in
      let differ = leads-differ (Knows plan.size) plan.size plan.image.value.bytes s.views k.history k.standing seat other v w both k.tells at apart there lead_v lead_w in
      let reserve : reserve_joined v w ≡ Several = ap (λ (b : Bool). if b then Nothing else Several) differ in
      let known = λ (t : ℕ) (d : Hand) (rest : d.doing ≡ Rest) (knows : Knows plan.size k.standing t d).
      subst (λ (r : Reserve). Knows plan.size k.standing t (hand Rest r)) (sym reserve) (several k.standing t d rest knows) in
      record {
        history = k.history;
        standing = k.standing;
        born = k.born;
        tells = joined (Knows plan.size) plan.size plan.image.value.bytes s.views k.history k.standing seat other v w h (hand Rest Nothing) k.tells at apart there
            (λ t knows. known t v.doing rest_v knows) (λ t knows. known t w.doing rest_w knows);
        laid = k.laid;
        section = section-same plan.size.threads (slice_index s.words 0) (slice_index s.words 0) views other w spent refl there (sym (ap weight_of rest_w))
            (section-same plan.size.threads (slice_index s.words 0) (slice_index s.words 0) s.views seat v both refl at (sym (ap weight_of rest_v)) k.section);
      }

  pub settle : (slots seat : ℕ) (me : Mine) → Allows (KeptBy plan) slots seat me 0 (λ n. n) (settled_at (step slots 0 0 0 none) me)
  settle slots seat me s k long at small =
      let v = me.0 in
      let w = record v { left = nobody; right = nobody } in (
        w,
        keeps,
        tt,
        as-found plan s.words 0 (set s.views seat w) (record {
          history = k.history;
          standing = k.standing;
          born = k.born;
          tells = settled (Knows plan.size) plan.size plan.image.value.bytes s.views k.history k.standing seat v k.tells at;
          laid = k.laid;
          section = section-same plan.size.threads (slice_index s.words 0) (slice_index s.words 0) s.views seat v w refl at refl k.section;
        }),
        record { settled = settles (Knows plan.size) plan.size k.standing k.history k.tells.owner seat v (k.tells.each seat v at); slots = refl },
      )

  -- what a seat has seen is legal
  pub vouches : (slots seat : ℕ) (me : Mine) (p : Place) (value : ℕ) → Allows (KeptBy plan) slots seat me 0 (λ n. n) (vouched_at (ask (origin_of plan) p value) (step slots 0 0 0 none) me)
  vouches slots seat me p value s k long at small =
      let v = me.0 in (
        v,
        keeps,
        tt,
        as-found plan s.words 0 _ (subst (Kept plan s.words) (sym (set_again s.views seat v at)) k),
        record {
          same = refl;
          legal = legal-part (Knows plan.size) plan.size plan.image.value.bytes s.views k.history k.standing plan.size.threads 0 false false seat v k.tells k.born at;
        },
      )
