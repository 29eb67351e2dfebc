-- The steps of loads and stores.
use Rattle.std.proofs.Common.{◌≡◌, ℕ, ◌+◌, ◌-◌, ◌/◌, ◌%◌, ◌^◌, ◌<◌, ◌≤◌, ◌==◌, true, false, List, [], ◌∷◌, set, slice_index, refl, ap, sym, ◌∙◌, subst, inl, inr, arith, length, get_or-set_other, get_or-set_same}
use mathlib.Core.Option.{none, some}
use lib.ListN.{get_elem?}
use prog.Atomic.{either}
use Rattle.std.proofs.lemmas.List.{set-get_or}
use Rattle.std.proofs.lemmas.Bool.{cases_eq, eq-eqb, ne_eqb}
use Rattle.llsc_base.specs.Memory.{cell_of, class_of, is_aligned, row_of, size_bytes}
use Rattle.llsc_base.specs.declared.access.Place.{Place}
use Rattle.llsc_base.proofs.Cells.{cell_of-lt, class_of-lt, is_aligned-in_cell}
use Rattle.row_bytes.specs.Cell.{cell_with, value_in_cell}
use Rattle.row_bytes.proofs.Cells.{value_in_cell-lt}
use Rattle.history.specs.ArmLegal.{IsSound}
use Rattle.history.specs.Standing.{joined}
use Rattle.history.specs.Follow.{MayJoin}
use Rattle.history.specs.declared.entry.Entry.{Entry}
use Rattle.history.specs.declared.entry.Entry.TheVariants.{Read, Write, Begin, End}
use Rattle.atomic_table.specs.Table.{Allows, keeps, step}
use Rattle.shared_memory.specs.declared.views.View.{View}
use Rattle.shared_memory.specs.Seen.{IsSingle}
use Rattle.shared_memory.specs.Passes.{marked}
use Rattle.shared_memory.specs.inner.Passes.{moved}
use Rattle.hst_memory.specs.declared.hands.Doing.{Doing}
use Rattle.hst_memory.specs.declared.hands.Doing.TheVariants.{Rest, Inside, Begun, Written}
use Rattle.hst_memory.specs.declared.hands.Hand.{Hand}
use Rattle.shared_memory.specs.declared.plans.Plan.{Plan}
use Rattle.hst_memory.specs.inner.Hands.{hand, reserve_after, weight_of}
use Rattle.hst_memory.specs.inner.Knowledge.{IsAt, Knows}
use Rattle.shared_memory.specs.Layout.{cell_word, tag_word, words_of}
use Rattle.hst_memory.specs.Kept.{origin_of}
use Rattle.hst_memory.specs.inner.Kept.{IsLaid, IsSection, Kept, KeptBy}
use Rattle.shared_memory.specs.Told.{loaded, looked_at}
use Rattle.shared_memory.specs.inner.Told.{ask}
use Rattle.hst_memory.specs.Told.{Mine}
use Rattle.hst_memory.specs.inner.Told.{changed, entered, left_shared, tagged}
use Rattle.hst_memory.proofs.Laid.{laid-cell, laid-same, laid-section, laid-tag}
use Rattle.hst_memory.proofs.Moves.{acts, inside-safe, moves-none, moves-one, told-none, told-one}
use Rattle.hst_memory.proofs.Own.{own-begin, own-end, own-enter, own-read, own-write}
use Rattle.hst_memory.proofs.Sections.{section-enter, section-leave, section-same, weight}

module _ (plan : Plan) where
  -- the words as they are found
  pub as-found : (words : List ℕ) (i : ℕ) (views : List (View Hand)) → Kept plan words views → Kept plan (set words i (slice_index words i)) views
  as-found words i views k = subst (λ (ws : List ℕ). Kept plan ws views) (sym (set-get_or words i 0)) k

  module _ (words : List ℕ) (views : List (View Hand)) (k : Kept plan words views) (seat : ℕ) (v : View Hand) (at : get_elem? views seat ≡ some v)
      (single : IsSingle v.lead (marked v.numbers)) where
    -- what the seat's thread knows
    pub known : Knows plan.size k.standing v.lead v.doing
    known = (k.tells.each seat v at).knows_it v.lead single.has

    pub lead-below : v.lead < plan.size.threads
    lead-below = (k.tells.each seat v at).below v.lead single.has

    pub cell-below : (p : Place) → p.addr + size_bytes p.size ≤ plan.size.mem → cell_of p < plan.size.mem / 8
    cell-below p inside = let whole = k.tells.memory.whole in cell_of-lt p (plan.size.mem / 8) (omega arith)

    pub sound : (p : Place) (value : ℕ) → is_aligned p ≡ true → p.addr + size_bytes p.size ≤ plan.size.mem → value < 256 ^ size_bytes p.size
        → IsSound plan.size.threads plan.size.mem v.lead p value
    sound p value aligned inside fits = record { known = lead-below; aligned = aligned; inside = inside; fits = fits }

    -- the cell's word is memory's
    pub cell-is : (p : Place) → p.addr + size_bytes p.size ≤ plan.size.mem → slice_index words (cell_word plan.size (cell_of p)) ≡ k.standing.cells (cell_of p)
    cell-is p inside = k.laid.cells (cell_of p) (cell-below p inside)

    pub still : (h : Hand) (history : List Entry) (es : List Entry) → weight_of h.doing ≡ weight v
        → IsSection plan.size.threads (slice_index words 0) (set views seat (moved v history es h))
    still h history es same = section-same plan.size.threads (slice_index words 0) (slice_index words 0) views seat v (moved v history es h) refl at same k.section

    -- nothing has come of a step
    pub keeps-none : (h : Hand) → weight_of h.doing ≡ weight v → Knows plan.size k.standing v.lead h
        → Kept plan words (set views seat (moved v k.history [] h))
    keeps-none h same knows = moves-none plan words views k seat v at single words h knows k.laid (still h k.history [] same)

  -- a load of a cell
  pub loads : (slots seat : ℕ) (me : Mine) (p : Place) → IsSingle me.0.lead (marked me.0.numbers) → me.0.doing.doing ≡ Rest
      → is_aligned p ≡ true → p.addr + size_bytes p.size ≤ plan.size.mem
      → Allows (KeptBy plan) slots seat me (cell_word plan.size (cell_of p)) (λ n. n) (loaded (ask (origin_of plan) p 0) (step slots (cell_word plan.size (cell_of p)) 0 0 none) me)
  loads slots seat me p single rest aligned inside s k long at small =
      let i = cell_word plan.size (cell_of p) in
      let n = slice_index s.words i in
      let v = me.0 in
      let knows = known s.words s.views k seat v at single in
      let value = value_in_cell n p in
      let e = Read v.lead p value false in
      let stage = subst (λ (d : Doing). IsAt plan.size k.standing v.lead d) rest knows.at in
      let fits = value_in_cell-lt n p (is_aligned-in_cell p aligned) in
      let may : MayJoin plan.size k.standing e =
      (stage, sound s.words s.views k seat v at single p value aligned inside fits, ap (λ (c : ℕ). value_in_cell c p) (cell-is s.words s.views k seat v at single p inside)) in
      let after = own-read plan.size k.standing v.lead p value v.doing rest knows in (
        moved v k.history (e ∷ []) v.doing,
        keeps,
        tt,
        as-found s.words i (set s.views seat (moved v k.history (e ∷ []) v.doing))
            (moves-one plan s.words s.views k seat v at single e refl (acts plan s.words s.views k seat v at single) may (λ j w ne there. inl refl) s.words v.doing after
            (laid-same plan.size s.words k.standing (joined plan.size k.standing e) refl refl k.laid)
            (still s.words s.views k seat v at single v.doing k.history (e ∷ []) refl)),
        told-one plan s.words s.views k seat v at single e refl (acts plan s.words s.views k seat v at single) may (λ j w ne there. inl refl) v.doing me.1 after,
      )

  -- a load that is no access
  pub looks : (slots seat : ℕ) (me : Mine) (i : ℕ) (p : Place) (value : ℕ) → IsSingle me.0.lead (marked me.0.numbers)
      → Allows (KeptBy plan) slots seat me i (λ n. n) (looked_at (ask (origin_of plan) p value) (step slots i 0 0 none) me)
  looks slots seat me i p value single s k long at small =
      let v = me.0 in
      let knows = known s.words s.views k seat v at single in (
        moved v k.history [] v.doing,
        keeps,
        tt,
        as-found s.words i (set s.views seat (moved v k.history [] v.doing)) (keeps-none s.words s.views k seat v at single v.doing refl knows),
        told-none plan s.words s.views k seat v at single v.doing me.1 knows,
      )

  -- a store comes in
  pub enters : (slots seat : ℕ) (me : Mine) (old : ℕ) (p : Place) (value : ℕ) → IsSingle me.0.lead (marked me.0.numbers) → me.0.doing.doing ≡ Rest → old < plan.size.threads
      → Allows (KeptBy plan) slots seat me 0 (λ n. either (n == old) (old + 1) n) (entered (ask (origin_of plan) p value) (step slots 0 old (old + 1) none) me)
  enters slots seat me old p value single rest few s k long at small =
      let n = slice_index s.words 0 in
      let v = me.0 in
      let knows = known s.words s.views k seat v at single in
      let light : weight v ≡ 0 = ap weight_of rest in
      let h = hand (Inside p) v.doing.reserve in
      let after = own-enter plan.size k.standing v.lead p v.doing rest knows in
      let w = moved v k.history [] h in
      let stays = moved v k.history [] v.doing in
      elim (cases_eq n old) [
        | inl hit ↦ (
          w,
          keeps,
          tt,
          subst (λ b. Kept plan (set s.words 0 (either b (old + 1) n)) (set s.views seat w)) (sym (eq-eqb n old hit))
              (moves-none plan s.words s.views k seat v at single (set s.words 0 (old + 1)) h after (laid-section plan.size s.words k.standing (old + 1) k.laid)
              (subst (λ (x : ℕ). IsSection plan.size.threads x (set s.views seat w)) (sym (first-set s.words (old + 1) k.laid.long))
              (subst (λ (x : ℕ). IsSection plan.size.threads (x + 1) (set s.views seat w)) hit
              (section-enter plan.size.threads n s.views seat v w at light refl (omega arith) k.section)))),
          ((λ is. told-none plan s.words s.views k seat v at single h me.1 after), λ not. absurd (not hit)),
        )
        | inr miss ↦ (
          stays,
          keeps,
          tt,
          subst (λ b. Kept plan (set s.words 0 (either b (old + 1) n)) (set s.views seat stays)) (sym (ne_eqb n old miss))
              (as-found s.words 0 (set s.views seat stays) (keeps-none s.words s.views k seat v at single v.doing refl knows)),
          ((λ hit. absurd (miss hit)), λ is. told-none plan s.words s.views k seat v at single v.doing me.1 knows),
        )
      ]
    where
      first-set : (words : List ℕ) (n : ℕ) → length words ≡ words_of plan.size → slice_index (set words 0 n) 0 ≡ n
      first-set words n long = get_or-set_same words 0 n 0 (omega arith)

  -- it begins, with its name in the tag
  pub tags : (slots seat : ℕ) (me : Mine) (p : Place) (value : ℕ) → IsSingle me.0.lead (marked me.0.numbers) → me.0.doing.doing ≡ Inside p → 0 < plan.size.classes
      → Allows (KeptBy plan) slots seat me (tag_word (class_of plan.size.classes (row_of plan.size.granule p))) (λ _. me.0.lead + 1)
      (λ _. tagged (ask (origin_of plan) p value) (step slots (tag_word (class_of plan.size.classes (row_of plan.size.granule p))) (me.0.lead + 1) 0 none) me (me.0.lead + 1))
  tags slots seat me p value single inside some_class s k long at small =
      let v = me.0 in
      let class = class_of plan.size.classes (row_of plan.size.granule p) in
      let i = tag_word class in
      let knows = subst (λ (d : Doing). Knows plan.size k.standing v.lead (hand d v.doing.reserve)) inside (known s.words s.views k seat v at single) in
      let e = Begin v.lead p in
      let h = hand (Begun p) (reserve_after plan.size p v.doing.reserve) in
      let after = own-begin plan.size k.standing v.lead p v.doing.reserve knows in
      let below = class_of-lt plan.size.classes (row_of plan.size.granule p) some_class in
      let w = moved v k.history (e ∷ []) h in
      let first : slice_index (set s.words i (v.lead + 1)) 0 ≡ slice_index s.words 0 = get_or-set_other s.words i 0 (v.lead + 1) 0 (λ same. absurd (omega arith)) in (
        w,
        keeps,
        tt,
        moves-one plan s.words s.views k seat v at single e refl (acts plan s.words s.views k seat v at single) knows.at (λ j x ne there. inl refl) (set s.words i (v.lead + 1)) h after
            (laid-tag plan.size s.words k.standing (joined plan.size k.standing e) class (v.lead + 1) below refl refl k.laid)
            (section-same plan.size.threads (slice_index s.words 0) (slice_index (set s.words i (v.lead + 1)) 0) s.views seat v w first at (sym (ap weight_of inside)) k.section),
        told-one plan s.words s.views k seat v at single e refl (acts plan s.words s.views k seat v at single) knows.at (λ j x ne there. inl refl) h me.1 after,
      )

  -- it changes the cell
  pub changes : (slots seat : ℕ) (me : Mine) (old : ℕ) (p : Place) (value : ℕ) → plan.size.threads ≤ 16 → IsSingle me.0.lead (marked me.0.numbers) → me.0.doing.doing ≡ Begun p
      → is_aligned p ≡ true → p.addr + size_bytes p.size ≤ plan.size.mem → value < 256 ^ size_bytes p.size
      → Allows (KeptBy plan) slots seat me (cell_word plan.size (cell_of p)) (λ n. either (n == old) (cell_with old p value) n)
      (changed (ask (origin_of plan) p value) (step slots (cell_word plan.size (cell_of p)) old (cell_with old p value) none) me)
  changes slots seat me old p value few single begun aligned inside fits s k long at small =
      let i = cell_word plan.size (cell_of p) in
      let n = slice_index s.words i in
      let v = me.0 in
      let knows = subst (λ (d : Doing). Knows plan.size k.standing v.lead (hand d v.doing.reserve)) begun (known s.words s.views k seat v at single) in
      let heavy : weight v ≡ 1 = ap weight_of begun in
      let e = Write v.lead p value false in
      let h = hand (Written p) v.doing.reserve in
      let after = own-write plan.size k.standing v.lead p value v.doing.reserve knows in
      let new = cell_with old p value in
      let w = moved v k.history (e ∷ []) h in
      let stays = moved v k.history [] v.doing in
      let is = cell-is s.words s.views k seat v at single p inside in
      let may : MayJoin plan.size k.standing e = (knows.at, sound s.words s.views k seat v at single p value aligned inside fits, λ ex. absurd (let f : ⊥ = cc in f)) in
      let safe = inside-safe plan s.words s.views k seat v at single few (omega arith) e in
      let first : slice_index (set s.words i new) 0 ≡ slice_index s.words 0 = get_or-set_other s.words i 0 new 0 (λ same. absurd (omega arith)) in
      elim (cases_eq n old) [
        | inl hit ↦ (
          w,
          keeps,
          tt,
          subst (λ b. Kept plan (set s.words i (either b new n)) (set s.views seat w)) (sym (eq-eqb n old hit))
              (moves-one plan s.words s.views k seat v at single e refl (acts plan s.words s.views k seat v at single) may safe (set s.words i new) h after
              (subst (λ (c : ℕ). IsLaid plan.size (set s.words i (cell_with c p value)) (joined plan.size k.standing e)) (sym is ∙ hit)
              (laid-cell plan.size s.words k.standing (joined plan.size k.standing e) (cell_of p) (cell_with (k.standing.cells (cell_of p)) p value)
              (cell-below s.words s.views k seat v at single p inside) refl refl k.laid))
              (section-same plan.size.threads (slice_index s.words 0) (slice_index (set s.words i new) 0) s.views seat v w first at (sym heavy) k.section)),
          ((λ is. told-one plan s.words s.views k seat v at single e refl (acts plan s.words s.views k seat v at single) may safe h me.1 after), λ not. absurd (not hit)),
        )
        | inr miss ↦ (
          stays,
          keeps,
          tt,
          subst (λ b. Kept plan (set s.words i (either b new n)) (set s.views seat stays)) (sym (ne_eqb n old miss))
              (as-found s.words i (set s.views seat stays) (keeps-none s.words s.views k seat v at single v.doing refl (known s.words s.views k seat v at single))),
          ((λ hit. absurd (miss hit)), λ is. told-none plan s.words s.views k seat v at single v.doing me.1 (known s.words s.views k seat v at single)),
        )
      ]

  -- it leaves
  pub leaves : (slots seat : ℕ) (me : Mine) (p : Place) (value : ℕ) → plan.size.threads ≤ 16 → IsSingle me.0.lead (marked me.0.numbers) → me.0.doing.doing ≡ Written p
      → Allows (KeptBy plan) slots seat me 0 (λ n. (n + (2 ^ 64 - 1)) % 2 ^ 64) (left_shared (ask (origin_of plan) p value) (step slots 0 1 0 none) me)
  leaves slots seat me p value few single written s k long at small =
      let n = slice_index s.words 0 in
      let v = me.0 in
      let knows = subst (λ (d : Doing). Knows plan.size k.standing v.lead (hand d v.doing.reserve)) written (known s.words s.views k seat v at single) in
      let heavy : weight v ≡ 1 = ap weight_of written in
      let e = End v.lead p in
      let h = hand Rest v.doing.reserve in
      let after = own-end plan.size k.standing v.lead p v.doing.reserve knows in
      let w = moved v k.history (e ∷ []) h in
      let m = (n + (2 ^ 64 - 1)) % 2 ^ 64 in
      let first : slice_index (set s.words 0 m) 0 ≡ m = get_or-set_same s.words 0 m 0 (let l = k.laid.long in omega arith) in (
        w,
        keeps,
        tt,
        moves-one plan s.words s.views k seat v at single e refl (acts plan s.words s.views k seat v at single) knows.at (λ j x ne there. inl refl) (set s.words 0 m) h after
            (laid-section plan.size s.words (joined plan.size k.standing e) m (laid-same plan.size s.words k.standing (joined plan.size k.standing e) refl refl k.laid))
            (subst (λ (x : ℕ). IsSection plan.size.threads x (set s.views seat w)) (sym first) (section-leave plan.size.threads n s.views seat v w few at heavy refl small k.section)),
        told-one plan s.words s.views k seat v at single e refl (acts plan s.words s.views k seat v at single) knows.at (λ j x ne there. inl refl) h me.1 after,
      )
