-- The steps of stamped loads.
use Rattle.std.proofs.Common.{◌≡◌, ℕ, ◌+◌, ◌*◌, ◌%◌, ◌<◌, ◌≤◌, true, false, [], ◌∷◌, set, slice_index, refl, ap, sym, ◌∙◌, subst, inl, inr}
use mathlib.Core.Option.{none}
use Rattle.std.proofs.lemmas.Bool.{cases_eq}
use Rattle.llsc_base.specs.Memory.{cell_of, is_aligned, row_of, size_bytes}
use Rattle.llsc_base.specs.declared.access.Place.{Place}
use Rattle.llsc_base.proofs.Cells.{is_aligned-in_cell}
use Rattle.row_bytes.specs.Cell.{value_in_cell}
use Rattle.row_bytes.proofs.Cells.{value_in_cell-lt}
use Rattle.history.specs.Standing.{joined}
use Rattle.history.specs.Follow.{MayJoin}
use Rattle.history.specs.declared.entry.Entry.TheVariants.{Read, Watch}
use Rattle.atomic_table.specs.Table.{Allows, keeps, step}
use Rattle.history.specs.Started.{MayAct}
use Rattle.shared_memory.specs.Seen.{IsSingle}
use Rattle.shared_memory.specs.Passes.{marked}
use Rattle.shared_memory.specs.inner.Passes.{moved}
use Rattle.version_rule.specs.declared.hands.Doing.{Doing}
use Rattle.version_rule.specs.declared.hands.Doing.TheVariants.{Rest, First, Second}
use Rattle.version_rule.specs.declared.hands.Reserve.TheVariants.{Row}
use Rattle.shared_memory.specs.declared.plans.Plan.{Plan}
use Rattle.version_rule.specs.Exact.{IsVersion}
use Rattle.version_rule.specs.Hands.{class_at, hand}
use Rattle.version_rule.specs.Knowledge.{Knows}
use Rattle.shared_memory.specs.Layout.{cell_word, tag_word}
use Rattle.version_rule.specs.Kept.{KeptBy, origin_of}
use Rattle.shared_memory.specs.Told.{Goes}
use Rattle.shared_memory.specs.inner.Told.{ask}
use Rattle.version_rule.specs.Told.{Decides, Mine, first_found, second_found, third_found, third_found_ex}
use Rattle.shared_memory.proofs.Apart.{stage-own}
use Rattle.version_rule.proofs.Facts.{as-found, cell-is, known, sound, tag-is, writes-is}
use Rattle.version_rule.proofs.Laid.{laid-same}
use Rattle.version_rule.proofs.Moves.{decides, moves-none, moves-one, moves-two, told-none, told-one, told-two}
use Rattle.version_rule.proofs.Own.{own-first, own-read, own-read_ex, own-second, own-third, own-watch}

module _ (plan : Plan) where
  -- a stamped load looks at the tag
  pub looks-first : (slots seat : ℕ) (me : Mine) (p : Place) (value : ℕ) → IsSingle me.0.lead (marked me.0.numbers) → me.0.doing.doing ≡ Rest → 0 < plan.size.classes
      → Allows (KeptBy plan) slots seat me (tag_word (class_at plan.size p)) (λ n. n) (first_found (ask (origin_of plan) p value) (step slots (tag_word (class_at plan.size p)) 0 0 none) me)
  looks-first slots seat me p value single rest some_class s k long at small =
      let i = tag_word (class_at plan.size p) in
      let n = slice_index s.words i in
      let v = me.0 in
      let all = known plan s.words s.views k seat v at single in
      let knows = subst (λ (d : Doing). Knows plan.size k.standing v.lead (hand d v.doing.reserve)) rest all in
      let tag = tag-is plan s.words s.views k p some_class in
      let most : n ≤ 2 * plan.size.limit = subst (λ (m : ℕ). m ≤ 2 * plan.size.limit) (sym tag) (k.classes.most (class_at plan.size p)) in
      elim (cases_eq (n % 2) 0) [
        | inl even ↦
            let h = hand (First p n) v.doing.reserve in
            let after = own-first plan.size k.standing v.lead p n v.doing.reserve even (sym tag) knows in
            let w = moved v k.history [] h in (
              w,
              keeps,
              tt,
              as-found plan s.words i (set s.views seat w) (moves-none plan s.words s.views k seat v at single h after),
              ((λ is. told-none plan s.words s.views k seat v at single h me.1 after), (λ not. absurd (not even)), most),
            )
        | inr odd ↦
            let w = moved v k.history [] v.doing in (
              w,
              keeps,
              tt,
              as-found plan s.words i (set s.views seat w) (moves-none plan s.words s.views k seat v at single v.doing all),
              ((λ is. absurd (odd is)), (λ not. told-none plan s.words s.views k seat v at single v.doing me.1 all), most),
            )
      ]

  -- at the cell
  pub looks-second : (slots seat : ℕ) (me : Mine) (version : ℕ) (p : Place) (value : ℕ) → IsSingle me.0.lead (marked me.0.numbers) → me.0.doing.doing ≡ First p version
      → p.addr + size_bytes p.size ≤ plan.size.mem
      → Allows (KeptBy plan) slots seat me (cell_word plan.size (cell_of p)) (λ n. n) (second_found (ask (origin_of plan) p value) (step slots (cell_word plan.size (cell_of p)) 0 0 none) me)
  looks-second slots seat me version p value single first inside s k long at small =
      let i = cell_word plan.size (cell_of p) in
      let n = slice_index s.words i in
      let v = me.0 in
      let knows = subst (λ (d : Doing). Knows plan.size k.standing v.lead (hand d v.doing.reserve)) first (known plan s.words s.views k seat v at single) in
      let h = hand (Second p version n) v.doing.reserve in
      let after = own-second plan.size k.standing v.lead p version n v.doing.reserve (sym (cell-is plan s.words s.views k p inside)) knows in
      let w = moved v k.history [] h in (
        w,
        keeps,
        tt,
        as-found plan s.words i (set s.views seat w) (moves-none plan s.words s.views k seat v at single h after),
        λ version' first'.
            let same : First p version ≡ First p version' = sym first ∙ first' in
            let is : Second p version n ≡ Second p version' n = cc in
            subst (λ (d : Doing). Goes (origin_of plan) me [] (hand d v.doing.reserve) (w, me.1)) is (told-none plan s.words s.views k seat v at single h me.1 after),
      )

  -- and at the tag again
  pub looks-third : (slots seat : ℕ) (me : Mine) (version cell : ℕ) (p : Place) (value : ℕ) → IsSingle me.0.lead (marked me.0.numbers) → MayAct plan.first me.0.lead me.0.seen → me.0.doing.doing ≡ Second p version cell → 0 < plan.size.classes
      → is_aligned p ≡ true → p.addr + size_bytes p.size ≤ plan.size.mem
      → Allows (KeptBy plan) slots seat me (tag_word (class_at plan.size p)) (λ n. n) (third_found (ask (origin_of plan) p value) (step slots (tag_word (class_at plan.size p)) 0 0 none) me)
  looks-third slots seat me version cell p value single act second some_class aligned inside s k long at small =
      let class = class_at plan.size p in
      let i = tag_word class in
      let n = slice_index s.words i in
      let v = me.0 in
      let knows = subst (λ (d : Doing). Knows plan.size k.standing v.lead (hand d v.doing.reserve)) second (known plan s.words s.views k seat v at single) in
      let tag = tag-is plan s.words s.views k p some_class in
      let h = hand Rest v.doing.reserve in
      let rests = own-third plan.size k.standing v.lead p version cell v.doing.reserve knows in
      let found = value_in_cell cell p in
      let e = Read v.lead p found false in
      elim (cases_eq n version) [
        | inl hit ↦
            let is : k.standing.edges class ≡ version = sym tag ∙ hit in
            let fits = value_in_cell-lt cell p (is_aligned-in_cell p aligned) in
            let may : MayJoin plan.size k.standing e =
            (rests.at, sound plan s.words s.views k seat v at single p found aligned inside fits, ap (λ (c : ℕ). value_in_cell c p) (sym (knows.at.1 is))) in
            let after = own-read plan.size k.standing v.lead p found h refl rests in
            let had : IsVersion plan.size p version k.history = ap (λ (m : ℕ). 2 * m) (writes-is plan s.words s.views k p) ∙ k.classes.quiet class (ap (λ (m : ℕ). m % 2) is ∙ knows.at.0.even) ∙ is in
            let w = moved v k.history (e ∷ []) h in
            let goes = decides plan s.words s.views k seat v at single (e ∷ []) h me.1 (IsVersion plan.size p version) had (told-one plan s.words s.views k seat v at single e refl refl act may tt h me.1 after) in (
              w,
              keeps,
              tt,
              as-found plan s.words i (set s.views seat w) (moves-one plan s.words s.views k seat v at single e refl refl act may tt s.words h after
                  (laid-same plan.size s.words k.standing (joined plan.size k.standing e) refl refl k.laid)),
              λ version' cell' second'.
                  let same : Second p version cell ≡ Second p version' cell' = sym second ∙ second' in
                  let version_is : version ≡ version' = cc in
                  let cell_is : cell ≡ cell' = cc in (
                    (λ is'. subst (λ (c : ℕ). Decides (origin_of plan) me (Read v.lead p (value_in_cell c p) false ∷ []) (IsVersion plan.size p version') h (w, me.1)) cell_is
                        (subst (λ (m : ℕ). Decides (origin_of plan) me (e ∷ []) (IsVersion plan.size p m) h (w, me.1)) version_is goes)),
                    (λ not. absurd (not (hit ∙ version_is))),
                  ),
            )
        | inr miss ↦
            let w = moved v k.history [] h in (
              w,
              keeps,
              tt,
              as-found plan s.words i (set s.views seat w) (moves-none plan s.words s.views k seat v at single h rests),
              λ version' cell' second'.
                  let same : Second p version cell ≡ Second p version' cell' = sym second ∙ second' in
                  let version_is : version ≡ version' = cc in
                  ((λ is. absurd (miss (is ∙ sym version_is))), λ not. told-none plan s.words s.views k seat v at single h me.1 rests),
            )
      ]

  -- the same of a load-exclusive, whose reservation begins there
  pub looks-third_ex : (slots seat : ℕ) (me : Mine) (version cell : ℕ) (p : Place) (value : ℕ) → IsSingle me.0.lead (marked me.0.numbers) → MayAct plan.first me.0.lead me.0.seen → me.0.doing.doing ≡ Second p version cell → 0 < plan.size.classes
      → is_aligned p ≡ true → p.addr + size_bytes p.size ≤ plan.size.mem
      → Allows (KeptBy plan) slots seat me (tag_word (class_at plan.size p)) (λ n. n) (third_found_ex (ask (origin_of plan) p value) (step slots (tag_word (class_at plan.size p)) 0 0 none) me)
  looks-third_ex slots seat me version cell p value single act second some_class aligned inside s k long at small =
      let class = class_at plan.size p in
      let i = tag_word class in
      let n = slice_index s.words i in
      let v = me.0 in
      let knows = subst (λ (d : Doing). Knows plan.size k.standing v.lead (hand d v.doing.reserve)) second (known plan s.words s.views k seat v at single) in
      let tag = tag-is plan s.words s.views k p some_class in
      let stays = hand Rest v.doing.reserve in
      let rests = own-third plan.size k.standing v.lead p version cell v.doing.reserve knows in
      let found = value_in_cell cell p in
      let e = Watch v.lead p in
      let f = Read v.lead p found true in
      let row = row_of plan.size.granule p in
      let h = hand Rest (Row row version) in
      elim (cases_eq n version) [
        | inl hit ↦
            let is : k.standing.edges class ≡ version = sym tag ∙ hit in
            let between = joined plan.size k.standing e in
            let fits = value_in_cell-lt cell p (is_aligned-in_cell p aligned) in
            let may : MayJoin plan.size between f =
            (stage-own plan.size k.standing e, sound plan s.words s.views k seat v at single p found aligned inside fits, ap (λ (c : ℕ). value_in_cell c p) (sym (knows.at.1 is))) in
            let after = own-read_ex plan.size between v.lead p found (Row row version) (own-watch plan.size k.standing v.lead p version knows.at.0.even is) in
            let had : IsVersion plan.size p version k.history = ap (λ (m : ℕ). 2 * m) (writes-is plan s.words s.views k p) ∙ k.classes.quiet class (ap (λ (m : ℕ). m % 2) is ∙ knows.at.0.even) ∙ is in
            let w = moved v k.history (e ∷ f ∷ []) h in
            let goes = decides plan s.words s.views k seat v at single (e ∷ f ∷ []) h me.1 (IsVersion plan.size p version) had (told-two plan s.words s.views k seat v at single e refl refl act rests.at tt f refl refl may tt h me.1 after) in (
              w,
              keeps,
              tt,
              as-found plan s.words i (set s.views seat w) (moves-two plan s.words s.views k seat v at single e refl refl act rests.at tt f refl refl may tt s.words h after
                  (laid-same plan.size s.words k.standing (joined plan.size between f) refl refl k.laid)),
              λ version' cell' second'.
                  let same : Second p version cell ≡ Second p version' cell' = sym second ∙ second' in
                  let version_is : version ≡ version' = cc in
                  let cell_is : cell ≡ cell' = cc in (
                    (λ is'. subst (λ (c : ℕ). Decides (origin_of plan) me (e ∷ Read v.lead p (value_in_cell c p) true ∷ []) (IsVersion plan.size p version') (hand Rest (Row row version')) (w, me.1)) cell_is
                        (subst (λ (m : ℕ). Decides (origin_of plan) me (e ∷ f ∷ []) (IsVersion plan.size p m) (hand Rest (Row row m)) (w, me.1)) version_is goes)),
                    (λ not. absurd (not (hit ∙ version_is))),
                  ),
            )
        | inr miss ↦
            let w = moved v k.history [] stays in (
              w,
              keeps,
              tt,
              as-found plan s.words i (set s.views seat w) (moves-none plan s.words s.views k seat v at single stays rests),
              λ version' cell' second'.
                  let same : Second p version cell ≡ Second p version' cell' = sym second ∙ second' in
                  let version_is : version ≡ version' = cc in
                  ((λ is. absurd (miss (is ∙ sym version_is))), λ not. told-none plan s.words s.views k seat v at single stays me.1 rests),
            )
      ]
