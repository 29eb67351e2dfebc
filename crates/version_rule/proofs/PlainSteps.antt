-- The steps of loads and stores.
use Rattle.std.proofs.Common.{◌≡◌, ℕ, ◌+◌, ◌*◌, ◌%◌, ◌^◌, ◌<◌, ◌≤◌, ◌==◌, Bool, true, false, List, [], ◌∷◌, ◌++◌, set, slice_index, refl, ap, sym, ◌∙◌, subst, inl, inr, arith, append-nil}
use mathlib.Core.Option.{none}
use prog.Atomic.{either}
use Rattle.std.proofs.lemmas.Bool.{cases_eq, eq-eqb, ne_eqb}
use Rattle.llsc_base.specs.Memory.{cell_of, is_aligned, row_of, size_bytes}
use Rattle.llsc_base.specs.declared.access.Place.{Place}
use Rattle.llsc_base.proofs.Cells.{class_of-lt, is_aligned-in_cell}
use Rattle.row_bytes.specs.Cell.{cell_with, value_in_cell}
use Rattle.row_bytes.proofs.Cells.{value_in_cell-lt}
use Rattle.history.specs.Class.{edges_of}
use Rattle.history.specs.Standing.{joined}
use Rattle.history.specs.Follow.{MayJoin}
use Rattle.history.specs.declared.entry.Entry.{Entry}
use Rattle.history.specs.declared.entry.Entry.TheVariants.{Read, Write, Begin, End}
use Rattle.atomic_table.specs.Table.{Allows, keeps, step}
use Rattle.history.specs.Started.{MayAct}
use Rattle.shared_memory.specs.Seen.{IsSingle}
use Rattle.shared_memory.specs.Passes.{marked}
use Rattle.shared_memory.specs.inner.Passes.{moved}
use Rattle.shared_memory.specs.declared.views.View.{View}
use Rattle.version_rule.specs.declared.hands.Hand.{Hand}
use Rattle.version_rule.specs.declared.hands.Doing.{Doing}
use Rattle.version_rule.specs.declared.hands.Doing.TheVariants.{Rest, Claimed, Holding, Written}
use Rattle.shared_memory.specs.declared.plans.Plan.{Plan}
use Rattle.version_rule.specs.Exact.{IsAtLimit, IsVersion}
use Rattle.version_rule.specs.Hands.{class_at, hand, reserve_after}
use Rattle.version_rule.specs.Knowledge.{IsAt, Knows}
use Rattle.shared_memory.specs.Layout.{cell_word, tag_word}
use Rattle.version_rule.specs.Kept.{Kept, KeptBy, origin_of}
use Rattle.shared_memory.specs.Told.{Goes, loaded}
use Rattle.shared_memory.specs.inner.Told.{ask}
use Rattle.version_rule.specs.Told.{Decides, Mine, changed, claimed, released, tag_found, taken}
use Rattle.version_rule.proofs.Classes.{IsOrderly}
use Rattle.version_rule.proofs.Facts.{as-found, cell-below, cell-is, edges-is, known, sound, spent, tag-is, writes-is}
use Rattle.version_rule.proofs.Laid.{AreRelaid, laid-cell, laid-same, laid-tag}
use Rattle.version_rule.proofs.Moves.{decides, moves-none, moves-one, told-none, told-one}
use Rattle.version_rule.proofs.Own.{own-change, own-claim, own-read, own-release, own-take}

module _ (plan : Plan) where
  -- the tag of a class is how many edges it has had, by what a seat has seen that has just looked
  tag-edges : (words : List ℕ) (views : List (View Hand)) (k : Kept plan words views) (p : Place) → 0 < plan.size.classes
      → edges_of plan.size (row_of plan.size.granule p) (k.history ++ []) ≡ slice_index words (tag_word (class_at plan.size p))
  tag-edges words views k p some_class = ap (edges_of plan.size (row_of plan.size.granule p)) (append-nil k.history) ∙ edges-is plan words views k p ∙ sym (tag-is plan words views k p some_class)

  -- a load of a cell
  pub loads : (slots seat : ℕ) (me : Mine) (p : Place) → IsSingle me.0.lead (marked me.0.numbers) → MayAct plan.first me.0.lead me.0.seen → me.0.doing.doing ≡ Rest
      → is_aligned p ≡ true → p.addr + size_bytes p.size ≤ plan.size.mem
      → Allows (KeptBy plan) slots seat me (cell_word plan.size (cell_of p)) (λ n. n) (loaded (ask (origin_of plan) p 0) (step slots (cell_word plan.size (cell_of p)) 0 0 none) me)
  loads slots seat me p single act rest aligned inside s k long at small =
      let i = cell_word plan.size (cell_of p) in
      let n = slice_index s.words i in
      let v = me.0 in
      let knows = known plan s.words s.views k seat v at single in
      let value = value_in_cell n p in
      let e = Read v.lead p value false in
      let stage = subst (λ (d : Doing). IsAt plan.size k.standing v.lead d) rest knows.at in
      let fits = value_in_cell-lt n p (is_aligned-in_cell p aligned) in
      let may : MayJoin plan.size k.standing e =
      (stage, sound plan s.words s.views k seat v at single p value aligned inside fits, ap (λ (c : ℕ). value_in_cell c p) (cell-is plan s.words s.views k p inside)) in
      let after = own-read plan.size k.standing v.lead p value v.doing rest knows in (
        moved v k.history (e ∷ []) v.doing,
        keeps,
        tt,
        as-found plan s.words i (set s.views seat (moved v k.history (e ∷ []) v.doing))
            (moves-one plan s.words s.views k seat v at single e refl refl act may tt s.words v.doing after
            (laid-same plan.size s.words k.standing (joined plan.size k.standing e) refl refl k.laid)),
        told-one plan s.words s.views k seat v at single e refl refl act may tt v.doing me.1 after,
      )

  -- a load of a tag
  pub looks-tag : (slots seat : ℕ) (me : Mine) (p : Place) (value : ℕ) → IsSingle me.0.lead (marked me.0.numbers) → 0 < plan.size.classes
      → Allows (KeptBy plan) slots seat me (tag_word (class_at plan.size p)) (λ n. n) (tag_found (ask (origin_of plan) p value) (step slots (tag_word (class_at plan.size p)) 0 0 none) me)
  looks-tag slots seat me p value single some_class s k long at small =
      let i = tag_word (class_at plan.size p) in
      let v = me.0 in
      let knows = known plan s.words s.views k seat v at single in
      let tag = tag-is plan s.words s.views k p some_class in (
        moved v k.history [] v.doing,
        keeps,
        tt,
        as-found plan s.words i (set s.views seat (moved v k.history [] v.doing)) (moves-none plan s.words s.views k seat v at single v.doing knows),
        record {
          goes = told-none plan s.words s.views k seat v at single v.doing me.1 knows;
          edges = tag-edges s.words s.views k p some_class;
          most = subst (λ (n : ℕ). n ≤ 2 * plan.size.limit) (sym tag) (k.classes.most (class_at plan.size p));
          spent = λ is. subst (λ (l : List Entry). IsAtLimit plan.size p l) (sym (append-nil k.history)) (spent plan s.words s.views k p (sym tag ∙ is));
        },
      )

  -- a store claims its class
  pub claims : (slots seat : ℕ) (me : Mine) (version : ℕ) (p : Place) (value : ℕ) → IsSingle me.0.lead (marked me.0.numbers) → MayAct plan.first me.0.lead me.0.seen → me.0.doing.doing ≡ Rest → 0 < plan.size.classes
      → version % 2 ≡ 0 → version < 2 * plan.size.limit
      → Allows (KeptBy plan) slots seat me (tag_word (class_at plan.size p)) (λ n. either (n == version) (version + 1) n)
      (claimed (ask (origin_of plan) p value) (step slots (tag_word (class_at plan.size p)) version (version + 1) none) me)
  claims slots seat me version p value single act rest some_class even room s k long at small =
      let class = class_at plan.size p in
      let i = tag_word class in
      let n = slice_index s.words i in
      let v = me.0 in
      let all = known plan s.words s.views k seat v at single in
      let knows = subst (λ (d : Doing). Knows plan.size k.standing v.lead (hand d v.doing.reserve)) rest all in
      let tag = tag-is plan s.words s.views k p some_class in
      let e = Begin v.lead p in
      let h = hand (Claimed p version false) (reserve_after plan.size p v.doing.reserve) in
      let w = moved v k.history (e ∷ []) h in
      let stays = moved v k.history [] v.doing in
      let below = class_of-lt plan.size.classes (row_of plan.size.granule p) some_class in
      elim (cases_eq n version) [
        | inl hit ↦
            let is : k.standing.edges class ≡ version = sym tag ∙ hit in
            let after = own-claim plan.size k.standing v.lead p version v.doing.reserve k.classes even is knows in
            let orderly : IsOrderly plan.size k.standing e = (ap (λ (m : ℕ). m % 2) is ∙ even, subst (λ (m : ℕ). m < 2 * plan.size.limit) (sym is) room) in
            let goes = told-one plan s.words s.views k seat v at single e refl refl act knows.at orderly h me.1 after in (
              w,
              keeps,
              tt,
              subst (λ b. Kept plan (set s.words i (either b (version + 1) n)) (set s.views seat w)) (sym (eq-eqb n version hit))
                  (moves-one plan s.words s.views k seat v at single e refl refl act knows.at orderly (set s.words i (version + 1)) h after
                  (subst (λ (m : ℕ). AreRelaid plan.size s.words (set s.words i (m + 1)) (joined plan.size k.standing e)) is
                  (laid-tag plan.size s.words k.standing (joined plan.size k.standing e) class (k.standing.edges class + 1) below refl refl k.laid))),
              (
                (λ hit'. decides plan s.words s.views k seat v at single (e ∷ []) h me.1 (IsVersion plan.size p version)
                    (ap (λ (m : ℕ). 2 * m) (writes-is plan s.words s.views k p) ∙ k.classes.quiet class orderly.0 ∙ is) goes),
                λ not. absurd (not hit),
              ),
            )
        | inr miss ↦ (
          stays,
          keeps,
          tt,
          subst (λ b. Kept plan (set s.words i (either b (version + 1) n)) (set s.views seat stays)) (sym (ne_eqb n version miss))
              (as-found plan s.words i (set s.views seat stays) (moves-none plan s.words s.views k seat v at single v.doing all)),
          (
            (λ hit. absurd (miss hit)),
            λ not. record { goes = told-none plan s.words s.views k seat v at single v.doing me.1 all; edges = tag-edges s.words s.views k p some_class },
          ),
        )
      ]

  -- it loads the cell
  pub takes : (slots seat : ℕ) (me : Mine) (version : ℕ) (ex : Bool) (p : Place) (value : ℕ) → IsSingle me.0.lead (marked me.0.numbers) → me.0.doing.doing ≡ Claimed p version ex
      → p.addr + size_bytes p.size ≤ plan.size.mem
      → Allows (KeptBy plan) slots seat me (cell_word plan.size (cell_of p)) (λ n. n) (taken (ask (origin_of plan) p value) (step slots (cell_word plan.size (cell_of p)) 0 0 none) me)
  takes slots seat me version ex p value single begun inside s k long at small =
      let i = cell_word plan.size (cell_of p) in
      let n = slice_index s.words i in
      let v = me.0 in
      let knows = subst (λ (d : Doing). Knows plan.size k.standing v.lead (hand d v.doing.reserve)) begun (known plan s.words s.views k seat v at single) in
      let h = hand (Holding p version ex n) v.doing.reserve in
      let after = own-take plan.size k.standing v.lead p version ex n v.doing.reserve (sym (cell-is plan s.words s.views k p inside)) knows in
      let w = moved v k.history [] h in (
        w,
        keeps,
        tt,
        as-found plan s.words i (set s.views seat w) (moves-none plan s.words s.views k seat v at single h after),
        λ version' ex' begun'.
            let same : Claimed p version ex ≡ Claimed p version' ex' = sym begun ∙ begun' in
            let is : Holding p version ex n ≡ Holding p version' ex' n = cc in
            subst (λ (d : Doing). Goes (origin_of plan) me [] (hand d v.doing.reserve) (w, me.1)) is (told-none plan s.words s.views k seat v at single h me.1 after),
      )

  -- it stores the changed cell
  pub changes : (slots seat : ℕ) (me : Mine) (version : ℕ) (ex : Bool) (cell : ℕ) (p : Place) (value : ℕ) → IsSingle me.0.lead (marked me.0.numbers) → MayAct plan.first me.0.lead me.0.seen → me.0.doing.doing ≡ Holding p version ex cell
      → is_aligned p ≡ true → p.addr + size_bytes p.size ≤ plan.size.mem → value < 256 ^ size_bytes p.size
      → Allows (KeptBy plan) slots seat me (cell_word plan.size (cell_of p)) (λ _. cell_with cell p value)
      (λ _. changed (ask (origin_of plan) p value) (step slots (cell_word plan.size (cell_of p)) (cell_with cell p value) 0 none) me (cell_with cell p value))
  changes slots seat me version ex cell p value single act holding aligned inside fits s k long at small =
      let class = class_at plan.size p in
      let i = cell_word plan.size (cell_of p) in
      let v = me.0 in
      let knows = subst (λ (d : Doing). Knows plan.size k.standing v.lead (hand d v.doing.reserve)) holding (known plan s.words s.views k seat v at single) in
      let e = Write v.lead p value ex in
      let h = hand (Written p version) v.doing.reserve in
      let after = own-change plan.size k.standing v.lead p value version ex cell v.doing.reserve knows in
      let may : MayJoin plan.size k.standing e = (knows.at.0.stage, sound plan s.words s.views k seat v at single p value aligned inside fits, knows.at.0.marked) in
      let w = moved v k.history (e ∷ []) h in
      let goes = told-one plan s.words s.views k seat v at single e refl refl act may tt h me.1 after in
      let had : IsVersion plan.size p version k.history = ap (λ (m : ℕ). 2 * m) (writes-is plan s.words s.views k p) ∙ knows.at.0.writes in (
        w,
        keeps,
        tt,
        moves-one plan s.words s.views k seat v at single e refl refl act may tt (set s.words i (cell_with cell p value)) h after
            (subst (λ (c : ℕ). AreRelaid plan.size s.words (set s.words i (cell_with c p value)) (joined plan.size k.standing e)) knows.at.1
            (laid-cell plan.size s.words k.standing (joined plan.size k.standing e) (cell_of p) (cell_with (k.standing.cells (cell_of p)) p value) (cell-below plan s.words s.views k p inside) refl refl k.laid)),
        λ version' ex' cell' holding'.
            let same : Holding p version ex cell ≡ Holding p version' ex' cell' = sym holding ∙ holding' in
            let ex_is : ex ≡ ex' = cc in
            let version_is : version ≡ version' = cc in
            subst (λ (b : Bool). Decides (origin_of plan) me (Write v.lead p value b ∷ []) (IsVersion plan.size p version') (hand (Written p version') v.doing.reserve) (w, me.1)) ex_is
            (subst (λ (m : ℕ). Decides (origin_of plan) me (e ∷ []) (IsVersion plan.size p m) (hand (Written p m) v.doing.reserve) (w, me.1)) version_is
            (decides plan s.words s.views k seat v at single (e ∷ []) h me.1 (IsVersion plan.size p version) had goes)),
      )

  -- it gives the class back
  pub releases : (slots seat : ℕ) (me : Mine) (version : ℕ) (p : Place) (value : ℕ) → IsSingle me.0.lead (marked me.0.numbers) → MayAct plan.first me.0.lead me.0.seen → me.0.doing.doing ≡ Written p version → 0 < plan.size.classes
      → Allows (KeptBy plan) slots seat me (tag_word (class_at plan.size p)) (λ _. version + 2)
      (λ _. released (ask (origin_of plan) p value) (step slots (tag_word (class_at plan.size p)) (version + 2) 0 none) me (version + 2))
  releases slots seat me version p value single act written some_class s k long at small =
      let class = class_at plan.size p in
      let i = tag_word class in
      let v = me.0 in
      let knows = subst (λ (d : Doing). Knows plan.size k.standing v.lead (hand d v.doing.reserve)) written (known plan s.words s.views k seat v at single) in
      let e = End v.lead p in
      let h = hand Rest v.doing.reserve in
      let after = own-release plan.size k.standing v.lead p version v.doing.reserve knows in
      let below = class_of-lt plan.size.classes (row_of plan.size.granule p) some_class in
      let edges = knows.at.edges in
      let over : k.standing.edges class + 1 ≡ version + 2 = omega arith in
      let orderly = knows.at.writes ∙ sym over in (
        moved v k.history (e ∷ []) h,
        keeps,
        tt,
        moves-one plan s.words s.views k seat v at single e refl refl act knows.at.stage orderly (set s.words i (version + 2)) h after
            (subst (λ (m : ℕ). AreRelaid plan.size s.words (set s.words i m) (joined plan.size k.standing e)) over
            (laid-tag plan.size s.words k.standing (joined plan.size k.standing e) class (k.standing.edges class + 1) below refl refl k.laid)),
        told-one plan s.words s.views k seat v at single e refl refl act knows.at.stage orderly h me.1 after,
      )
