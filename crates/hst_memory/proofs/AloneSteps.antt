-- The steps inside alone, and those of exclusive accesses without the section.
use Rattle.std.proofs.Common.{◌≡◌, ◌≢◌, ℕ, ◌+◌, ◌^◌, ◌<◌, ◌≤◌, ◌==◌, true, false, Some, None, List, [], ◌∷◌, set, length, slice_index, refl, ap, sym, ◌∙◌, subst, inl, inr, arith, get_or-set_other, get_or-set_same}
use mathlib.Core.Option.{none, some, some-injective}
use lib.ListN.{get_elem?}
use prog.Atomic.{either}
use Rattle.std.proofs.lemmas.Bool.{cases_Bool, cases_eq, cases_lt, eq-eqb, ne_eqb}
use Rattle.std.specs.List.{list_any}
use Rattle.llsc_base.specs.Memory.{cell_of, class_of, is_aligned, row_of, size_bytes}
use Rattle.llsc_base.specs.declared.access.Place.{Place}
use Rattle.llsc_base.proofs.Cells.{class_of-lt, is_aligned-in_cell}
use Rattle.row_bytes.specs.Cell.{cell_with, value_in_cell}
use Rattle.row_bytes.proofs.Cells.{value_in_cell-lt}
use Rattle.history.specs.Cause.{is_start_of_another, since_watch}
use Rattle.history.specs.Reservation.{reservation_of}
use Rattle.history.specs.Standing.{Standing, joined, rests, updated}
use Rattle.history.specs.Follow.{MayJoin, flight_at}
use Rattle.history.specs.declared.entry.Entry.{Entry}
use Rattle.history.specs.declared.entry.Entry.TheVariants.{Read, Write, Fail, Clear, Watch, Begin, End}
use Rattle.history.specs.declared.entry.Cause.TheVariants.{Absent, Lost}
use Rattle.history.proofs.Flags.{passed-standing}
use Rattle.history.proofs.Marks.{updated-other, updated-same}
use Rattle.history.proofs.Steps.{reservation_of-standing}
use Rattle.atomic_table.specs.Table.{Allows, keeps, step}
use Rattle.shared_memory.specs.declared.views.View.{View}
use Rattle.shared_memory.specs.Seen.{IsSingle}
use Rattle.shared_memory.specs.Passes.{marked}
use Rattle.shared_memory.specs.inner.Passes.{moved}
use Rattle.shared_memory.proofs.Split.{resting}
use Rattle.hst_memory.specs.declared.hands.Doing.{Doing}
use Rattle.hst_memory.specs.declared.hands.Doing.TheVariants.{Rest, Alone, Watching, Done, AloneBegun, AloneWritten}
use Rattle.hst_memory.specs.declared.hands.Reserve.{Reserve}
use Rattle.hst_memory.specs.declared.hands.Reserve.TheVariants.{Nothing, Row, Several}
use Rattle.hst_memory.specs.declared.hands.Hand.{Hand}
use Rattle.shared_memory.specs.declared.plans.Plan.{Plan}
use Rattle.hst_memory.specs.inner.Hands.{alone_word, hand, weight_of}
use Rattle.hst_memory.specs.inner.Knowledge.{IsAt, IsReserve, Keeps, Knows}
use Rattle.shared_memory.specs.Layout.{cell_word, tag_word, words_of}
use Rattle.hst_memory.specs.Kept.{origin_of}
use Rattle.hst_memory.specs.inner.Kept.{IsLaid, IsSection, Kept, KeptBy}
use Rattle.shared_memory.specs.inner.Told.{ask}
use Rattle.hst_memory.specs.Told.{Mine}
use Rattle.hst_memory.specs.inner.Told.{absent, changed_alone, cleared, entered_alone, left_alone, left_written, read_ex, tested, watched}
use Rattle.hst_memory.proofs.Laid.{laid-cell, laid-same, laid-section, laid-tag}
use Rattle.hst_memory.proofs.Moves.{acts, inside-safe, moves-none, moves-one, told-none, told-one}
use Rattle.hst_memory.proofs.Own.{own-alone, own-begin_ex, own-clear, own-end_ex, own-fail, own-leave, own-read_ex, own-watch, own-write_ex}
use Rattle.hst_memory.proofs.PlainSteps.{as-found, cell-below, cell-is, keeps-none, known, lead-below, sound, still}
use Rattle.hst_memory.proofs.Sections.{alone-others, section-alone, section-empty, section-same, weight, weightless}

module _ (plan : Plan) where
  -- the section's word is set
  section-set : (words : List ℕ) (n : ℕ) → length words ≡ words_of plan.size → slice_index (set words 0 n) 0 ≡ n
  section-set words n long = get_or-set_same words 0 n 0 (omega arith)

  module _ (words : List ℕ) (views : List (View Hand)) (k : Kept plan words views) (seat : ℕ) (v : View Hand) (at : get_elem? views seat ≡ some v)
      (single : IsSingle v.lead (marked v.numbers)) where
    -- beside a thread that is alone no write of another is in flight
    alone-clear : plan.size.threads ≤ 16 → weight v ≡ alone_word → (u : ℕ) → u ≢ v.lead → (p : Place) → flight_at (k.standing.stage u) ≡ Some p → ⊥
    alone-clear few heavy u ne p flies =
        let rest : k.standing.stage u ≡ rests = elim (cases_lt u plan.size.threads) [
          | inl below ↦
              let held = k.tells.held u below in
              elim (cases_eq (k.tells.owner u) seat) [
                | inl here ↦
                    let is : held.view ≡ v = some-injective held.view v (sym held.at ∙ ap (get_elem? views) here ∙ at) in
                    absurd (ne (single.only u (ap (λ (x : View Hand). marked x.numbers u) (sym is) ∙ held.has)))
                | inr elsewhere ↦
                    let light = alone-others plan.size.threads (slice_index words 0) views seat (k.tells.owner u) v held.view few k.section (λ same. elsewhere (sym same)) at held.at heavy in
                    let fits = k.tells.each (k.tells.owner u) held.view held.at in
                    subst (λ (d : Doing). IsAt plan.size k.standing u d) (weightless held.view.doing.doing light) (fits.knows_it u held.has).at
              ]
          | inr above ↦ ap (λ (s : Standing). s.stage u) k.tells.standing_is ∙ resting plan.size u plan.image.value.bytes k.history (k.tells.outside u above)
        ] in
        let none : None ≡ Some p = ap flight_at (sym rest) ∙ flies in
        let f : ⊥ = cc in f

    -- by the history: reservations, and that nobody has come since
    reserved-is : reservation_of plan.size v.lead k.history ≡ k.standing.reserved v.lead
    reserved-is = reservation_of-standing plan.size v.lead plan.image.value.bytes k.history ∙ ap (λ (s : Standing). s.reserved v.lead) (sym k.tells.standing_is)

    passed-is : (p : Place) → k.standing.reserved v.lead ≡ Some (row_of plan.size.granule p)
        → list_any (is_start_of_another plan.size v.lead (row_of plan.size.granule p)) (since_watch v.lead k.history) ≡ k.standing.passed v.lead
    passed-is p reserved = passed-standing plan.size v.lead (row_of plan.size.granule p) plan.image.value.bytes k.history (reserved-is ∙ reserved)
        ∙ ap (λ (s : Standing). s.passed v.lead) (sym k.tells.standing_is)

  -- a thread comes in alone
  pub enters-alone : (slots seat : ℕ) (me : Mine) (p : Place) (value : ℕ) → IsSingle me.0.lead (marked me.0.numbers) → me.0.doing.doing ≡ Rest
      → Allows (KeptBy plan) slots seat me 0 (λ n. either (n == 0) alone_word n) (entered_alone (ask (origin_of plan) p value) (step slots 0 0 alone_word none) me)
  enters-alone slots seat me p value single rest s k long at small =
      let n = slice_index s.words 0 in
      let v = me.0 in
      let knows = known plan s.words s.views k seat v at single in
      let light : weight v ≡ 0 = ap weight_of rest in
      let h = hand Alone v.doing.reserve in
      let after = own-alone plan.size k.standing v.lead v.doing rest knows in
      let w = moved v k.history [] h in
      let stays = moved v k.history [] v.doing in
      elim (cases_eq n 0) [
        | inl hit ↦ (
          w,
          keeps,
          tt,
          subst (λ b. Kept plan (set s.words 0 (either b alone_word n)) (set s.views seat w)) (sym (eq-eqb n 0 hit))
              (moves-none plan s.words s.views k seat v at single (set s.words 0 alone_word) h after (laid-section plan.size s.words k.standing alone_word k.laid)
              (subst (λ (x : ℕ). IsSection plan.size.threads x (set s.views seat w)) (sym (section-set s.words alone_word k.laid.long))
              (section-alone plan.size.threads s.views seat v w at light refl (subst (λ (x : ℕ). IsSection plan.size.threads x s.views) hit k.section)))),
          ((λ is. told-none plan s.words s.views k seat v at single h me.1 after), λ not. absurd (not hit)),
        )
        | inr miss ↦ (
          stays,
          keeps,
          tt,
          subst (λ b. Kept plan (set s.words 0 (either b alone_word n)) (set s.views seat stays)) (sym (ne_eqb n 0 miss))
              (as-found plan s.words 0 (set s.views seat stays) (keeps-none plan s.words s.views k seat v at single v.doing refl knows)),
          ((λ hit. absurd (miss hit)), λ is. told-none plan s.words s.views k seat v at single v.doing me.1 knows),
        )
      ]

  -- its load-exclusive begins
  pub watches : (slots seat : ℕ) (me : Mine) (p : Place) (value : ℕ) → plan.size.threads ≤ 16 → IsSingle me.0.lead (marked me.0.numbers) → me.0.doing.doing ≡ Alone → 0 < plan.size.classes
      → Allows (KeptBy plan) slots seat me (tag_word (class_of plan.size.classes (row_of plan.size.granule p))) (λ _. me.0.lead + 1)
      (λ _. watched (ask (origin_of plan) p value) (step slots (tag_word (class_of plan.size.classes (row_of plan.size.granule p))) (me.0.lead + 1) 0 none) me (me.0.lead + 1))
  watches slots seat me p value few single alone some_class s k long at small =
      let v = me.0 in
      let class = class_of plan.size.classes (row_of plan.size.granule p) in
      let i = tag_word class in
      let knows = subst (λ (d : Doing). Knows plan.size k.standing v.lead (hand d v.doing.reserve)) alone (known plan s.words s.views k seat v at single) in
      let heavy : weight v ≡ alone_word = ap weight_of alone in
      let e = Watch v.lead p in
      let h = hand (Watching p) (Row (row_of plan.size.granule p)) in
      let after = own-watch plan.size k.standing v.lead p (alone-clear s.words s.views k seat v at single few heavy) in
      let below = class_of-lt plan.size.classes (row_of plan.size.granule p) some_class in
      let w = moved v k.history (e ∷ []) h in
      let first : slice_index (set s.words i (v.lead + 1)) 0 ≡ slice_index s.words 0 = get_or-set_other s.words i 0 (v.lead + 1) 0 (λ same. absurd (omega arith)) in (
        w,
        keeps,
        tt,
        moves-one plan s.words s.views k seat v at single e refl (acts plan s.words s.views k seat v at single) knows.at (λ j x ne there. inl refl) (set s.words i (v.lead + 1)) h after
            (laid-tag plan.size s.words k.standing (joined plan.size k.standing e) class (v.lead + 1) below refl refl k.laid)
            (section-same plan.size.threads (slice_index s.words 0) (slice_index (set s.words i (v.lead + 1)) 0) s.views seat v w first at (sym heavy) k.section),
        told-one plan s.words s.views k seat v at single e refl (acts plan s.words s.views k seat v at single) knows.at (λ j x ne there. inl refl) h me.1 after,
      )

  -- and loads the cell
  pub reads-ex : (slots seat : ℕ) (me : Mine) (p : Place) (value : ℕ) → IsSingle me.0.lead (marked me.0.numbers) → me.0.doing.doing ≡ Watching p
      → is_aligned p ≡ true → p.addr + size_bytes p.size ≤ plan.size.mem
      → Allows (KeptBy plan) slots seat me (cell_word plan.size (cell_of p)) (λ n. n) (read_ex (ask (origin_of plan) p value) (step slots (cell_word plan.size (cell_of p)) 0 0 none) me)
  reads-ex slots seat me p asked single watching aligned inside s k long at small =
      let i = cell_word plan.size (cell_of p) in
      let n = slice_index s.words i in
      let v = me.0 in
      let knows = subst (λ (d : Doing). Knows plan.size k.standing v.lead (hand d v.doing.reserve)) watching (known plan s.words s.views k seat v at single) in
      let value = value_in_cell n p in
      let e = Read v.lead p value true in
      let h = hand Done v.doing.reserve in
      let fits = value_in_cell-lt n p (is_aligned-in_cell p aligned) in
      let may : MayJoin plan.size k.standing e =
      (knows.at, sound plan s.words s.views k seat v at single p value aligned inside fits, ap (λ (c : ℕ). value_in_cell c p) (cell-is plan s.words s.views k seat v at single p inside)) in
      let after = own-read_ex plan.size k.standing v.lead p value v.doing.reserve knows in (
        moved v k.history (e ∷ []) h,
        keeps,
        tt,
        as-found plan s.words i (set s.views seat (moved v k.history (e ∷ []) h))
            (moves-one plan s.words s.views k seat v at single e refl (acts plan s.words s.views k seat v at single) may (λ j w ne there. inl refl) s.words h after
            (laid-same plan.size s.words k.standing (joined plan.size k.standing e) refl refl k.laid)
            (still plan s.words s.views k seat v at single h k.history (e ∷ []) (sym (ap weight_of watching)))),
        told-one plan s.words s.views k seat v at single e refl (acts plan s.words s.views k seat v at single) may (λ j w ne there. inl refl) h me.1 after,
      )

  -- it leaves
  pub leaves-alone : (slots seat : ℕ) (me : Mine) (p : Place) (value : ℕ) → plan.size.threads ≤ 16 → IsSingle me.0.lead (marked me.0.numbers) → me.0.doing.doing ≡ Done
      → Allows (KeptBy plan) slots seat me 0 (λ _. 0) (λ _. left_alone (ask (origin_of plan) p value) (step slots 0 0 0 none) me 0)
  leaves-alone slots seat me p value few single done s k long at small =
      let v = me.0 in
      let knows = subst (λ (d : Doing). Knows plan.size k.standing v.lead (hand d v.doing.reserve)) done (known plan s.words s.views k seat v at single) in
      let heavy : weight v ≡ alone_word = ap weight_of done in
      let h = hand Rest v.doing.reserve in
      let after = own-leave plan.size k.standing v.lead v.doing.reserve knows in
      let w = moved v k.history [] h in (
        w,
        keeps,
        tt,
        moves-none plan s.words s.views k seat v at single (set s.words 0 0) h after (laid-section plan.size s.words k.standing 0 k.laid)
            (subst (λ (x : ℕ). IsSection plan.size.threads x (set s.views seat w)) (sym (section-set s.words 0 k.laid.long)) (section-empty plan.size.threads (slice_index s.words 0) s.views seat v w few at heavy refl k.section)),
        told-none plan s.words s.views k seat v at single h me.1 after,
      )

  -- a store-exclusive is decided by the tag
  pub tests : (slots seat : ℕ) (me : Mine) (p : Place) (value : ℕ) → IsSingle me.0.lead (marked me.0.numbers) → me.0.doing ≡ hand Alone (Row (row_of plan.size.granule p)) → 0 < plan.size.classes
      → is_aligned p ≡ true → p.addr + size_bytes p.size ≤ plan.size.mem → value < 256 ^ size_bytes p.size
      → Allows (KeptBy plan) slots seat me (tag_word (class_of plan.size.classes (row_of plan.size.granule p))) (λ n. n)
      (tested (ask (origin_of plan) p value) (step slots (tag_word (class_of plan.size.classes (row_of plan.size.granule p))) 0 0 none) me)
  tests slots seat me p value single doing some_class aligned inside fits s k long at small =
      let v = me.0 in
      let row = row_of plan.size.granule p in
      let class = class_of plan.size.classes row in
      let i = tag_word class in
      let n = slice_index s.words i in
      let knows = subst (λ (h : Hand). Knows plan.size k.standing v.lead h) doing (known plan s.words s.views k seat v at single) in
      let stage : k.standing.stage v.lead ≡ rests = knows.at in
      let kp : Keeps plan.size k.standing v.lead row = knows.reserve in
      let heavy : weight v ≡ alone_word = ap (λ (h : Hand). weight_of h.doing) doing in
      let name : n ≡ k.standing.name class = k.laid.tags class (class_of-lt plan.size.classes row some_class) in
      let begin = Begin v.lead p in
      let won = hand (AloneBegun p) Nothing in
      let fail = Fail v.lead p value Lost in
      let lost = hand Done Nothing in
      elim (cases_eq n (v.lead + 1)) [
        | inl hit ↦
            let quiet : k.standing.passed v.lead ≡ false = elim (cases_Bool (k.standing.passed v.lead)) [
              | inl gone ↦ absurd (kp.gone gone (sym name ∙ hit))
              | inr quiet ↦ quiet
            ] in
            let after = own-begin_ex plan.size k.standing v.lead p stage kp quiet in
            let w = moved v k.history (begin ∷ []) won in (
              w,
              keeps,
              tt,
              as-found plan s.words i (set s.views seat w)
                  (moves-one plan s.words s.views k seat v at single begin refl (acts plan s.words s.views k seat v at single) stage (λ j x ne there. inl refl) s.words won after
                  (laid-begun s.words k.standing begin n class k.laid name hit refl refl)
                  (still plan s.words s.views k seat v at single won k.history (begin ∷ []) (sym heavy))),
              (
                (λ is. record {
                  goes = told-one plan s.words s.views k seat v at single begin refl (acts plan s.words s.views k seat v at single) stage (λ j x ne there. inl refl) won me.1 after;
                  past = k.history;
                  since = (k.tells.each seat v at).part.front;
                  is = refl;
                  exact = record { reserved = reserved-is s.words s.views k seat v at single ∙ kp.is; quiet = passed-is s.words s.views k seat v at single p kp.is ∙ quiet };
                }),
                (λ not. absurd (not hit)),
              ),
            )
        | inr miss ↦
            let gone : k.standing.passed v.lead ≡ true = elim (cases_Bool (k.standing.passed v.lead)) [
              | inl gone ↦ gone
              | inr quiet ↦ absurd (miss (name ∙ kp.mine quiet))
            ] in
            let may : MayJoin plan.size k.standing fail = (stage, sound plan s.words s.views k seat v at single p value aligned inside fits, (kp.is, gone)) in
            let after = own-fail plan.size k.standing v.lead p value Lost Done (inr refl) in
            let w = moved v k.history (fail ∷ []) lost in (
              w,
              keeps,
              tt,
              as-found plan s.words i (set s.views seat w)
                  (moves-one plan s.words s.views k seat v at single fail refl (acts plan s.words s.views k seat v at single) may (λ j x ne there. inl refl) s.words lost after
                  (laid-same plan.size s.words k.standing (joined plan.size k.standing fail) refl refl k.laid)
                  (still plan s.words s.views k seat v at single lost k.history (fail ∷ []) (sym heavy))),
              (
                (λ hit. absurd (miss hit)),
                (λ is. record {
                  goes = told-one plan s.words s.views k seat v at single fail refl (acts plan s.words s.views k seat v at single) may (λ j x ne there. inl refl) lost me.1 after;
                  past = k.history;
                  since = (k.tells.each seat v at).part.front;
                  is = refl;
                  exact = λ undisturbed. let f : true ≡ false = sym gone ∙ sym (passed-is s.words s.views k seat v at single p kp.is) ∙ undisturbed.quiet in let g : ⊥ = cc in g;
                }),
              ),
            )
      ]
    where
      updated-is : (f : ℕ → ℕ) (at value : ℕ) → f at ≡ value → (c : ℕ) → updated f at value c ≡ f c
      updated-is f at value is c = elim (cases_eq c at) [
        | inl same ↦ ap (updated f at value) same ∙ updated-same f at value ∙ sym is ∙ ap f (sym same)
        | inr other ↦ updated-other f at value c other
      ]

      -- the tag has the name already
      laid-begun : (words : List ℕ) (st : Standing) (e : Entry) (n class : ℕ) → IsLaid plan.size words st → n ≡ st.name class → n ≡ me.0.lead + 1
          → (joined plan.size st e).name ≡ updated st.name class (me.0.lead + 1) → (joined plan.size st e).cells ≡ st.cells → IsLaid plan.size words (joined plan.size st e)
      laid-begun words st e n class laid name hit is kept = record {
        long = laid.long;
        tags = λ c h. laid.tags c h ∙ sym (ap (λ (f : ℕ → ℕ). f c) is ∙ updated-is st.name class (me.0.lead + 1) (sym name ∙ hit) c);
        cells = λ i h. laid.cells i h ∙ ap (λ (f : ℕ → ℕ). f i) (sym kept);
      }

  -- it is written
  pub changes-alone : (slots seat : ℕ) (me : Mine) (old : ℕ) (p : Place) (value : ℕ) → plan.size.threads ≤ 16 → IsSingle me.0.lead (marked me.0.numbers) → me.0.doing ≡ hand (AloneBegun p) Nothing
      → is_aligned p ≡ true → p.addr + size_bytes p.size ≤ plan.size.mem → value < 256 ^ size_bytes p.size
      → Allows (KeptBy plan) slots seat me (cell_word plan.size (cell_of p)) (λ n. either (n == old) (cell_with old p value) n)
      (changed_alone (ask (origin_of plan) p value) (step slots (cell_word plan.size (cell_of p)) old (cell_with old p value) none) me)
  changes-alone slots seat me old p value few single doing aligned inside fits s k long at small =
      let i = cell_word plan.size (cell_of p) in
      let n = slice_index s.words i in
      let v = me.0 in
      let all = known plan s.words s.views k seat v at single in
      let knows = subst (λ (h : Hand). Knows plan.size k.standing v.lead h) doing all in
      let heavy : weight v ≡ alone_word = ap (λ (h : Hand). weight_of h.doing) doing in
      let e = Write v.lead p value true in
      let h = hand (AloneWritten p) Nothing in
      let after = own-write_ex plan.size k.standing v.lead p value knows in
      let new = cell_with old p value in
      let w = moved v k.history (e ∷ []) h in
      let stays = moved v k.history [] v.doing in
      let is = cell-is plan s.words s.views k seat v at single p inside in
      let may : MayJoin plan.size k.standing e = (knows.at.0, sound plan s.words s.views k seat v at single p value aligned inside fits, λ ex. knows.at.1) in
      let safe = inside-safe plan s.words s.views k seat v at single few (omega arith) e in
      let first : slice_index (set s.words i new) 0 ≡ slice_index s.words 0 = get_or-set_other s.words i 0 new 0 (λ same. absurd (omega arith)) in
      elim (cases_eq n old) [
        | inl hit ↦ (
          w,
          keeps,
          tt,
          subst (λ b. Kept plan (set s.words i (either b new n)) (set s.views seat w)) (sym (eq-eqb n old hit))
              (moves-one plan s.words s.views k seat v at single e refl (acts plan s.words s.views k seat v at single) may safe (set s.words i new) h after
              (subst (λ (c : ℕ). IsLaid plan.size (set s.words i (cell_with c p value)) (joined plan.size k.standing e)) (sym is ∙ hit)
              (laid-cell plan.size s.words k.standing (joined plan.size k.standing e) (cell_of p) (cell_with (k.standing.cells (cell_of p)) p value)
              (cell-below plan s.words s.views k seat v at single p inside) refl refl k.laid))
              (section-same plan.size.threads (slice_index s.words 0) (slice_index (set s.words i new) 0) s.views seat v w first at (sym heavy) k.section)),
          ((λ hit'. told-one plan s.words s.views k seat v at single e refl (acts plan s.words s.views k seat v at single) may safe h me.1 after), λ not. absurd (not hit)),
        )
        | inr miss ↦ (
          stays,
          keeps,
          tt,
          subst (λ b. Kept plan (set s.words i (either b new n)) (set s.views seat stays)) (sym (ne_eqb n old miss))
              (as-found plan s.words i (set s.views seat stays) (keeps-none plan s.words s.views k seat v at single v.doing refl all)),
          ((λ hit. absurd (miss hit)), λ not. told-none plan s.words s.views k seat v at single v.doing me.1 all),
        )
      ]

  -- and leaves
  pub leaves-written : (slots seat : ℕ) (me : Mine) (p : Place) (value : ℕ) → plan.size.threads ≤ 16 → IsSingle me.0.lead (marked me.0.numbers) → me.0.doing ≡ hand (AloneWritten p) Nothing
      → Allows (KeptBy plan) slots seat me 0 (λ _. 0) (λ _. left_written (ask (origin_of plan) p value) (step slots 0 0 0 none) me 0)
  leaves-written slots seat me p value few single doing s k long at small =
      let v = me.0 in
      let knows = subst (λ (h : Hand). Knows plan.size k.standing v.lead h) doing (known plan s.words s.views k seat v at single) in
      let heavy : weight v ≡ alone_word = ap (λ (h : Hand). weight_of h.doing) doing in
      let e = End v.lead p in
      let h = hand Rest Nothing in
      let after = own-end_ex plan.size k.standing v.lead p knows in
      let w = moved v k.history (e ∷ []) h in (
        w,
        keeps,
        tt,
        moves-one plan s.words s.views k seat v at single e refl (acts plan s.words s.views k seat v at single) knows.at (λ j x ne there. inl refl) (set s.words 0 0) h after
            (laid-section plan.size s.words (joined plan.size k.standing e) 0 (laid-same plan.size s.words k.standing (joined plan.size k.standing e) refl refl k.laid))
            (subst (λ (x : ℕ). IsSection plan.size.threads x (set s.views seat w)) (sym (section-set s.words 0 k.laid.long)) (section-empty plan.size.threads (slice_index s.words 0) s.views seat v w few at heavy refl k.section)),
        told-one plan s.words s.views k seat v at single e refl (acts plan s.words s.views k seat v at single) knows.at (λ j x ne there. inl refl) h me.1 after,
      )

  not-reserved : (s : Standing) (t row : ℕ) (reserve : Reserve) → IsReserve plan.size s t reserve → (reserve ≡ Row row → ⊥) → (reserve ≡ Several → ⊥) → s.reserved t ≢ Some row
  not-reserved s t row Nothing h other several is = let e : None ≡ Some row = sym h ∙ is in let f : ⊥ = cc in f
  not-reserved s t row (Row kept) h other several is = let e : Some kept ≡ Some row = sym h.is ∙ is in let same : kept ≡ row = cc in other (ap (λ (r : ℕ). Row r) same)
  not-reserved s t row Several h other several is = several refl

  -- a store-exclusive without a reservation on the row fails
  pub absents : (slots seat : ℕ) (me : Mine) (p : Place) (value : ℕ) → IsSingle me.0.lead (marked me.0.numbers) → me.0.doing.doing ≡ Rest
      → (me.0.doing.reserve ≡ Row (row_of plan.size.granule p) → ⊥) → (me.0.doing.reserve ≡ Several → ⊥)
      → is_aligned p ≡ true → p.addr + size_bytes p.size ≤ plan.size.mem → value < 256 ^ size_bytes p.size
      → Allows (KeptBy plan) slots seat me 0 (λ n. n) (absent (ask (origin_of plan) p value) (step slots 0 0 0 none) me)
  absents slots seat me p value single rest other several aligned inside fits s k long at small =
      let v = me.0 in
      let knows = known plan s.words s.views k seat v at single in
      let stage = subst (λ (d : Doing). IsAt plan.size k.standing v.lead d) rest knows.at in
      let none_here = not-reserved k.standing v.lead (row_of plan.size.granule p) v.doing.reserve knows.reserve other several in
      let e = Fail v.lead p value Absent in
      let h = hand Rest Nothing in
      let may : MayJoin plan.size k.standing e = (stage, sound plan s.words s.views k seat v at single p value aligned inside fits, none_here) in
      let after = own-fail plan.size k.standing v.lead p value Absent Rest (inl refl) in
      let w = moved v k.history (e ∷ []) h in (
        w,
        keeps,
        tt,
        as-found plan s.words 0 (set s.views seat w)
            (moves-one plan s.words s.views k seat v at single e refl (acts plan s.words s.views k seat v at single) may (λ j x ne there. inl refl) s.words h after
            (laid-same plan.size s.words k.standing (joined plan.size k.standing e) refl refl k.laid)
            (still plan s.words s.views k seat v at single h k.history (e ∷ []) (sym (ap weight_of rest)))),
        record {
          goes = told-one plan s.words s.views k seat v at single e refl (acts plan s.words s.views k seat v at single) may (λ j x ne there. inl refl) h me.1 after;
          past = k.history;
          since = (k.tells.each seat v at).part.front;
          is = refl;
          exact = λ undisturbed. none_here (sym (reserved-is s.words s.views k seat v at single) ∙ undisturbed.reserved);
        },
      )

  -- CLREX
  pub clears : (slots seat : ℕ) (me : Mine) (p : Place) (value : ℕ) → IsSingle me.0.lead (marked me.0.numbers) → me.0.doing.doing ≡ Rest
      → Allows (KeptBy plan) slots seat me 0 (λ n. n) (cleared (ask (origin_of plan) p value) (step slots 0 0 0 none) me)
  clears slots seat me p value single rest s k long at small =
      let v = me.0 in
      let knows = known plan s.words s.views k seat v at single in
      let stage = subst (λ (d : Doing). IsAt plan.size k.standing v.lead d) rest knows.at in
      let e = Clear v.lead in
      let h = hand Rest Nothing in
      let may : MayJoin plan.size k.standing e = (stage, lead-below plan s.words s.views k seat v at single) in
      let after = own-clear plan.size k.standing v.lead in
      let w = moved v k.history (e ∷ []) h in (
        w,
        keeps,
        tt,
        as-found plan s.words 0 (set s.views seat w)
            (moves-one plan s.words s.views k seat v at single e refl (acts plan s.words s.views k seat v at single) may (λ j x ne there. inl refl) s.words h after
            (laid-same plan.size s.words k.standing (joined plan.size k.standing e) refl refl k.laid)
            (still plan s.words s.views k seat v at single h k.history (e ∷ []) (sym (ap weight_of rest)))),
        told-one plan s.words s.views k seat v at single e refl (acts plan s.words s.views k seat v at single) may (λ j x ne there. inl refl) h me.1 after,
      )
