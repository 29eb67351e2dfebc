-- The steps of exclusive accesses.
use Rattle.std.proofs.Common.{◌≡◌, ◌≢◌, ℕ, ◌+◌, ◌*◌, ◌%◌, ◌^◌, ◌<◌, ◌≤◌, ◌==◌, true, false, Some, None, [], ◌∷◌, set, slice_index, refl, ap, sym, ◌∙◌, subst, inl, inr, arith}
use mathlib.Core.Option.{none}
use prog.Atomic.{either}
use Rattle.std.proofs.lemmas.Bool.{cases_Bool, cases_eq, eq-eqb, ne_eqb}
use Rattle.llsc_base.specs.Memory.{cell_of, is_aligned, row_of, size_bytes}
use Rattle.llsc_base.specs.declared.access.Place.{Place}
use Rattle.llsc_base.proofs.Cells.{class_of-lt, is_aligned-in_cell}
use Rattle.row_bytes.specs.Cell.{value_in_cell}
use Rattle.row_bytes.proofs.Cells.{value_in_cell-lt}
use Rattle.history.specs.Standing.{Standing, joined}
use Rattle.history.specs.Follow.{MayJoin, flight_at}
use Rattle.history.specs.declared.entry.Entry.TheVariants.{Read, Fail, Clear, Watch, Miss, Begin}
use Rattle.history.specs.declared.entry.Cause.TheVariants.{Absent, Lost, Limit}
use Rattle.atomic_table.specs.Table.{Allows, keeps, step}
use Rattle.history.specs.Started.{MayAct}
use Rattle.shared_memory.specs.Seen.{IsSingle}
use Rattle.shared_memory.specs.Passes.{marked}
use Rattle.shared_memory.specs.inner.Passes.{moved}
use Rattle.version_rule.specs.declared.hands.Doing.{Doing}
use Rattle.version_rule.specs.declared.hands.Doing.TheVariants.{Rest, Claimed, Looking}
use Rattle.version_rule.specs.declared.hands.Reserve.{Reserve}
use Rattle.version_rule.specs.declared.hands.Reserve.TheVariants.{Nothing, Row, Several}
use Rattle.version_rule.specs.declared.hands.Hand.{Hand}
use Rattle.shared_memory.specs.declared.plans.Plan.{Plan}
use Rattle.version_rule.specs.Hands.{class_at, hand}
use Rattle.version_rule.specs.Knowledge.{IsAt, IsReserve, Knows}
use Rattle.shared_memory.specs.Layout.{cell_word, tag_word}
use Rattle.version_rule.specs.Kept.{Kept, KeptBy, origin_of}
use Rattle.shared_memory.specs.inner.Told.{ask}
use Rattle.version_rule.specs.Told.{HasLost, IsDisturbed, IsUndisturbedAt, Mine, absent, claimed_ex, cleared, limited, read_ex, watched, watched_or_not}
use Rattle.version_rule.proofs.Classes.{IsOrderly, flies-none}
use Rattle.version_rule.proofs.Facts.{as-found, cell-is, known, lead-below, overtaken-is, reserved-is, sound, stirred-is, tag-is, writes-is}
use Rattle.version_rule.proofs.Laid.{AreRelaid, laid-same, laid-tag}
use Rattle.version_rule.proofs.Moves.{decides, moves-none, moves-one, told-none, told-one}
use Rattle.version_rule.proofs.Own.{own-claim_ex, own-clear, own-fail, own-miss, own-read_ex, own-watch}

odd-of : (n : ℕ) → n % 2 ≢ 0 → n % 2 ≡ 1
odd-of n h = omega arith

module _ (plan : Plan) where
  -- a load-exclusive begins
  pub watches : (slots seat : ℕ) (me : Mine) (p : Place) (value : ℕ) → IsSingle me.0.lead (marked me.0.numbers) → MayAct plan.first me.0.lead me.0.seen → me.0.doing.doing ≡ Rest → 0 < plan.size.classes
      → Allows (KeptBy plan) slots seat me (tag_word (class_at plan.size p)) (λ n. n) (watched (ask (origin_of plan) p value) (step slots (tag_word (class_at plan.size p)) 0 0 none) me)
  watches slots seat me p value single act rest some_class s k long at small =
      let class = class_at plan.size p in
      let i = tag_word class in
      let n = slice_index s.words i in
      let v = me.0 in
      let knows = known plan s.words s.views k seat v at single in
      let stage = subst (λ (d : Doing). IsAt plan.size k.standing v.lead d) rest knows.at in
      let tag = tag-is plan s.words s.views k p some_class in
      let most : n ≤ 2 * plan.size.limit = subst (λ (m : ℕ). m ≤ 2 * plan.size.limit) (sym tag) (k.classes.most class) in
      elim (cases_eq (n % 2) 0) [
        | inl even ↦
            let e = Watch v.lead p in
            let h = hand (Looking p) (Row (row_of plan.size.granule p) n) in
            let after = own-watch plan.size k.standing v.lead p n even (sym tag) in
            let w = moved v k.history (e ∷ []) h in (
              w,
              keeps,
              tt,
              as-found plan s.words i (set s.views seat w) (moves-one plan s.words s.views k seat v at single e refl refl act stage tt s.words h after
                  (laid-same plan.size s.words k.standing (joined plan.size k.standing e) refl refl k.laid)),
              ((λ is. told-one plan s.words s.views k seat v at single e refl refl act stage tt h me.1 after), (λ not. absurd (not even)), most),
            )
        | inr odd ↦
            let e = Miss v.lead p in
            let h = hand (Looking p) Nothing in
            let other = k.standing.holder class in
            let flies = k.classes.busy class (ap (λ (m : ℕ). m % 2) (sym tag) ∙ odd-of n odd) in
            let another : other ≢ v.lead = λ same. flies-none plan.size k.standing other class (ap (λ (t : ℕ). flight_at (k.standing.stage t)) same ∙ ap flight_at stage) flies in
            let may : MayJoin plan.size k.standing e = (
              stage,
              record {
                other = other;
                another = another;
                target = flies.place;
                flies = flies.flies;
                near = eq-eqb (class_at plan.size flies.place) class flies.near;
              },
            ) in
            let after = own-miss plan.size k.standing v.lead p in
            let w = moved v k.history (e ∷ []) h in (
              w,
              keeps,
              tt,
              as-found plan s.words i (set s.views seat w) (moves-one plan s.words s.views k seat v at single e refl refl act may tt s.words h after
                  (laid-same plan.size s.words k.standing (joined plan.size k.standing e) refl refl k.laid)),
              ((λ is. absurd (odd is)), (λ not. told-one plan s.words s.views k seat v at single e refl refl act may tt h me.1 after), most),
            )
      ]

  -- the same, where it waits rather than to begin without a reservation
  pub tries-watch : (slots seat : ℕ) (me : Mine) (p : Place) (value : ℕ) → IsSingle me.0.lead (marked me.0.numbers) → MayAct plan.first me.0.lead me.0.seen → me.0.doing.doing ≡ Rest → 0 < plan.size.classes
      → Allows (KeptBy plan) slots seat me (tag_word (class_at plan.size p)) (λ n. n) (watched_or_not (ask (origin_of plan) p value) (step slots (tag_word (class_at plan.size p)) 0 0 none) me)
  tries-watch slots seat me p value single act rest some_class s k long at small =
      let class = class_at plan.size p in
      let i = tag_word class in
      let n = slice_index s.words i in
      let v = me.0 in
      let knows = known plan s.words s.views k seat v at single in
      let stage = subst (λ (d : Doing). IsAt plan.size k.standing v.lead d) rest knows.at in
      let tag = tag-is plan s.words s.views k p some_class in
      let most : n ≤ 2 * plan.size.limit = subst (λ (m : ℕ). m ≤ 2 * plan.size.limit) (sym tag) (k.classes.most class) in
      elim (cases_eq (n % 2) 0) [
        | inl even ↦
            let e = Watch v.lead p in
            let h = hand (Looking p) (Row (row_of plan.size.granule p) n) in
            let after = own-watch plan.size k.standing v.lead p n even (sym tag) in
            let w = moved v k.history (e ∷ []) h in (
              w,
              keeps,
              tt,
              as-found plan s.words i (set s.views seat w) (moves-one plan s.words s.views k seat v at single e refl refl act stage tt s.words h after
                  (laid-same plan.size s.words k.standing (joined plan.size k.standing e) refl refl k.laid)),
              ((λ is. told-one plan s.words s.views k seat v at single e refl refl act stage tt h me.1 after), (λ not. absurd (not even)), most),
            )
        | inr odd ↦
            let w = moved v k.history [] v.doing in (
              w,
              keeps,
              tt,
              as-found plan s.words i (set s.views seat w) (moves-none plan s.words s.views k seat v at single v.doing knows),
              ((λ is. absurd (odd is)), (λ not. told-none plan s.words s.views k seat v at single v.doing me.1 knows), most),
            )
      ]

  -- it loads the cell
  pub reads-ex : (slots seat : ℕ) (me : Mine) (p : Place) (value : ℕ) → IsSingle me.0.lead (marked me.0.numbers) → MayAct plan.first me.0.lead me.0.seen → me.0.doing.doing ≡ Looking p
      → is_aligned p ≡ true → p.addr + size_bytes p.size ≤ plan.size.mem
      → Allows (KeptBy plan) slots seat me (cell_word plan.size (cell_of p)) (λ n. n) (read_ex (ask (origin_of plan) p value) (step slots (cell_word plan.size (cell_of p)) 0 0 none) me)
  reads-ex slots seat me p value single act looking aligned inside s k long at small =
      let i = cell_word plan.size (cell_of p) in
      let n = slice_index s.words i in
      let v = me.0 in
      let knows = subst (λ (d : Doing). Knows plan.size k.standing v.lead (hand d v.doing.reserve)) looking (known plan s.words s.views k seat v at single) in
      let found = value_in_cell n p in
      let e = Read v.lead p found true in
      let h = hand Rest v.doing.reserve in
      let fits = value_in_cell-lt n p (is_aligned-in_cell p aligned) in
      let may : MayJoin plan.size k.standing e =
      (knows.at, sound plan s.words s.views k seat v at single p found aligned inside fits, ap (λ (c : ℕ). value_in_cell c p) (cell-is plan s.words s.views k p inside)) in
      let after = own-read_ex plan.size k.standing v.lead p found v.doing.reserve knows in
      let w = moved v k.history (e ∷ []) h in (
        w,
        keeps,
        tt,
        as-found plan s.words i (set s.views seat w) (moves-one plan s.words s.views k seat v at single e refl refl act may tt s.words h after
            (laid-same plan.size s.words k.standing (joined plan.size k.standing e) refl refl k.laid)),
        told-one plan s.words s.views k seat v at single e refl refl act may tt h me.1 after,
      )

  room-of : (n version limit : ℕ) → 2 * n ≡ version → version < 2 * limit → n < limit
  room-of n version limit is room = omega arith

  -- a store-exclusive with a reservation on the row is decided
  pub claims-ex : (slots seat : ℕ) (me : Mine) (version : ℕ) (p : Place) (value : ℕ) → IsSingle me.0.lead (marked me.0.numbers) → MayAct plan.first me.0.lead me.0.seen → me.0.doing ≡ hand Rest (Row (row_of plan.size.granule p) version)
      → 0 < plan.size.classes → version ≢ 2 * plan.size.limit
      → is_aligned p ≡ true → p.addr + size_bytes p.size ≤ plan.size.mem → value < 256 ^ size_bytes p.size
      → Allows (KeptBy plan) slots seat me (tag_word (class_at plan.size p)) (λ n. either (n == version) (version + 1) n)
      (claimed_ex (ask (origin_of plan) p value) (step slots (tag_word (class_at plan.size p)) version (version + 1) none) me)
  claims-ex slots seat me version p value single act doing some_class other aligned inside fits s k long at small =
      let class = class_at plan.size p in
      let i = tag_word class in
      let n = slice_index s.words i in
      let v = me.0 in
      let knows = subst (λ (h : Hand). Knows plan.size k.standing v.lead h) doing (known plan s.words s.views k seat v at single) in
      let kp = knows.reserve in
      let tag = tag-is plan s.words s.views k p some_class in
      let begin = Begin v.lead p in
      let fail = Fail v.lead p value Lost in
      let won = hand (Claimed p version true) Nothing in
      let lost = hand Rest Nothing in
      let below = class_of-lt plan.size.classes (row_of plan.size.granule p) some_class in
      elim (cases_eq n version) [
        | inl hit ↦
            let is : k.standing.edges class ≡ version = sym tag ∙ hit in
            let most = k.classes.most class in
            let room : version < 2 * plan.size.limit = omega arith in
            let quiet : k.standing.overtaken v.lead ≡ false = elim (cases_Bool (k.standing.overtaken v.lead)) [
              | inl gone ↦ let more = (kp.gone gone).0 in absurd (omega arith)
              | inr quiet ↦ quiet
            ] in
            let after = own-claim_ex plan.size k.standing v.lead p version k.classes knows.at kp quiet in
            let orderly : IsOrderly plan.size k.standing begin = (ap (λ (m : ℕ). m % 2) is ∙ kp.even, subst (λ (m : ℕ). m < 2 * plan.size.limit) (sym is) room) in
            let had = ap (λ (m : ℕ). 2 * m) (writes-is plan s.words s.views k p) ∙ k.classes.quiet class orderly.0 ∙ is in
            let fact : IsUndisturbedAt (ask (origin_of plan) p value) v.lead version k.history = record {
              undisturbed = record {
                reserved = reserved-is plan s.words s.views k v.lead ∙ kp.is;
                quiet = stirred-is plan s.words s.views k v.lead p kp.is ∙ kp.stirs ∙ quiet;
                room = room-of _ version plan.size.limit had room;
              };
              version_is = had;
            } in
            let w = moved v k.history (begin ∷ []) won in (
              w,
              keeps,
              tt,
              subst (λ b. Kept plan (set s.words i (either b (version + 1) n)) (set s.views seat w)) (sym (eq-eqb n version hit))
                  (moves-one plan s.words s.views k seat v at single begin refl refl act knows.at orderly (set s.words i (version + 1)) won after
                  (subst (λ (m : ℕ). AreRelaid plan.size s.words (set s.words i (m + 1)) (joined plan.size k.standing begin)) is
                  (laid-tag plan.size s.words k.standing (joined plan.size k.standing begin) class (k.standing.edges class + 1) below refl refl k.laid))),
              (
                (λ hit'. decides plan s.words s.views k seat v at single (begin ∷ []) won me.1 (IsUndisturbedAt (ask (origin_of plan) p value) v.lead version) fact
                    (told-one plan s.words s.views k seat v at single begin refl refl act knows.at orderly won me.1 after)),
                λ not. absurd (not hit),
              ),
            )
        | inr miss ↦
            let gone : k.standing.overtaken v.lead ≡ true = elim (cases_Bool (k.standing.overtaken v.lead)) [
              | inl gone ↦ gone
              | inr quiet ↦ absurd (miss (tag ∙ kp.still quiet))
            ] in
            let may : MayJoin plan.size k.standing fail = (knows.at, sound plan s.words s.views k seat v at single p value aligned inside fits, (kp.is, (kp.gone gone).1)) in
            let after = own-fail plan.size k.standing v.lead p value Lost in
            let fact : HasLost (ask (origin_of plan) p value) v.lead k.history = record {
              overtaken = record { reserved = reserved-is plan s.words s.views k v.lead ∙ kp.is; begun = overtaken-is plan s.words s.views k v.lead p kp.is ∙ gone };
              disturbed = λ u. let f : true ≡ false = sym gone ∙ sym kp.stirs ∙ sym (stirred-is plan s.words s.views k v.lead p kp.is) ∙ u.quiet in let g : ⊥ = cc in g;
            } in
            let w = moved v k.history (fail ∷ []) lost in (
              w,
              keeps,
              tt,
              subst (λ b. Kept plan (set s.words i (either b (version + 1) n)) (set s.views seat w)) (sym (ne_eqb n version miss))
                  (as-found plan s.words i (set s.views seat w) (moves-one plan s.words s.views k seat v at single fail refl refl act may gone s.words lost after
                  (laid-same plan.size s.words k.standing (joined plan.size k.standing fail) refl refl k.laid))),
              (
                (λ hit. absurd (miss hit)),
                λ not. decides plan s.words s.views k seat v at single (fail ∷ []) lost me.1 (HasLost (ask (origin_of plan) p value) v.lead) fact
                    (told-one plan s.words s.views k seat v at single fail refl refl act may gone lost me.1 after),
              ),
            )
      ]

  not-reserved : (s : Standing) (t row : ℕ) (reserve : Reserve) → IsReserve plan.size s t reserve → ((version : ℕ) → reserve ≡ Row row version → ⊥) → (reserve ≡ Several → ⊥) → s.reserved t ≢ Some row
  not-reserved s t row Nothing h other several is = let e : None ≡ Some row = sym h ∙ is in let f : ⊥ = cc in f
  not-reserved s t row (Row kept version) h other several is = let e : Some kept ≡ Some row = sym h.is ∙ is in let same : kept ≡ row = cc in other version (ap (λ (r : ℕ). Row r version) same)
  not-reserved s t row Several h other several is = several refl

  -- one without a reservation on the row fails
  pub absents : (slots seat : ℕ) (me : Mine) (p : Place) (value : ℕ) → IsSingle me.0.lead (marked me.0.numbers) → MayAct plan.first me.0.lead me.0.seen → me.0.doing.doing ≡ Rest
      → ((version : ℕ) → me.0.doing.reserve ≡ Row (row_of plan.size.granule p) version → ⊥) → (me.0.doing.reserve ≡ Several → ⊥)
      → is_aligned p ≡ true → p.addr + size_bytes p.size ≤ plan.size.mem → value < 256 ^ size_bytes p.size
      → Allows (KeptBy plan) slots seat me 0 (λ n. n) (absent (ask (origin_of plan) p value) (step slots 0 0 0 none) me)
  absents slots seat me p value single act rest other several aligned inside fits s k long at small =
      let v = me.0 in
      let knows = known plan s.words s.views k seat v at single in
      let stage = subst (λ (d : Doing). IsAt plan.size k.standing v.lead d) rest knows.at in
      let none_here = not-reserved k.standing v.lead (row_of plan.size.granule p) v.doing.reserve knows.reserve other several in
      let e = Fail v.lead p value Absent in
      let h = hand Rest Nothing in
      let may : MayJoin plan.size k.standing e = (stage, sound plan s.words s.views k seat v at single p value aligned inside fits, none_here) in
      let after = own-fail plan.size k.standing v.lead p value Absent in
      let fact : IsDisturbed (ask (origin_of plan) p value) v.lead k.history = λ u. none_here (sym (reserved-is plan s.words s.views k v.lead) ∙ u.reserved) in
      let w = moved v k.history (e ∷ []) h in (
        w,
        keeps,
        tt,
        as-found plan s.words 0 (set s.views seat w) (moves-one plan s.words s.views k seat v at single e refl refl act may tt s.words h after
            (laid-same plan.size s.words k.standing (joined plan.size k.standing e) refl refl k.laid)),
        decides plan s.words s.views k seat v at single (e ∷ []) h me.1 (IsDisturbed (ask (origin_of plan) p value) v.lead) fact
            (told-one plan s.words s.views k seat v at single e refl refl act may tt h me.1 after),
      )

  limit-of : (n version limit : ℕ) → 2 * n ≡ version → version ≡ 2 * limit → n ≡ limit
  limit-of n version limit is twice = omega arith

  -- one whose class has had all of its writes fails
  pub limits : (slots seat : ℕ) (me : Mine) (version : ℕ) (p : Place) (value : ℕ) → IsSingle me.0.lead (marked me.0.numbers) → MayAct plan.first me.0.lead me.0.seen → me.0.doing ≡ hand Rest (Row (row_of plan.size.granule p) version)
      → version ≡ 2 * plan.size.limit
      → is_aligned p ≡ true → p.addr + size_bytes p.size ≤ plan.size.mem → value < 256 ^ size_bytes p.size
      → Allows (KeptBy plan) slots seat me 0 (λ n. n) (limited (ask (origin_of plan) p value) (step slots 0 0 0 none) me)
  limits slots seat me version p value single act doing twice aligned inside fits s k long at small =
      let class = class_at plan.size p in
      let v = me.0 in
      let knows = subst (λ (h : Hand). Knows plan.size k.standing v.lead h) doing (known plan s.words s.views k seat v at single) in
      let kp = knows.reserve in
      let most = k.classes.most class in
      let quiet : k.standing.overtaken v.lead ≡ false = elim (cases_Bool (k.standing.overtaken v.lead)) [
        | inl gone ↦ let more = (kp.gone gone).0 in absurd (omega arith)
        | inr quiet ↦ quiet
      ] in
      let tag = kp.still quiet in
      let had = k.classes.quiet class (ap (λ (m : ℕ). m % 2) tag ∙ kp.even) ∙ tag in
      let all : k.standing.writes class ≡ plan.size.limit = limit-of (k.standing.writes class) version plan.size.limit had twice in
      let e = Fail v.lead p value Limit in
      let h = hand Rest Nothing in
      let may : MayJoin plan.size k.standing e = (knows.at, sound plan s.words s.views k seat v at single p value aligned inside fits, (kp.is, quiet, omega arith)) in
      let after = own-fail plan.size k.standing v.lead p value Limit in
      let writes = writes-is plan s.words s.views k p in
      let fact : IsDisturbed (ask (origin_of plan) p value) v.lead k.history = λ u. let room = u.room in absurd (omega arith) in
      let w = moved v k.history (e ∷ []) h in (
        w,
        keeps,
        tt,
        as-found plan s.words 0 (set s.views seat w) (moves-one plan s.words s.views k seat v at single e refl refl act may tt s.words h after
            (laid-same plan.size s.words k.standing (joined plan.size k.standing e) refl refl k.laid)),
        decides plan s.words s.views k seat v at single (e ∷ []) h me.1 (IsDisturbed (ask (origin_of plan) p value) v.lead) fact
            (told-one plan s.words s.views k seat v at single e refl refl act may tt h me.1 after),
      )

  -- CLREX
  pub clears : (slots seat : ℕ) (me : Mine) (p : Place) (value : ℕ) → IsSingle me.0.lead (marked me.0.numbers) → MayAct plan.first me.0.lead me.0.seen → me.0.doing.doing ≡ Rest
      → Allows (KeptBy plan) slots seat me 0 (λ n. n) (cleared (ask (origin_of plan) p value) (step slots 0 0 0 none) me)
  clears slots seat me p value single act rest s k long at small =
      let v = me.0 in
      let knows = known plan s.words s.views k seat v at single in
      let stage = subst (λ (d : Doing). IsAt plan.size k.standing v.lead d) rest knows.at in
      let e = Clear v.lead in
      let h = hand Rest Nothing in
      let may : MayJoin plan.size k.standing e = (stage, lead-below plan s.words s.views k seat v at single) in
      let after = own-clear plan.size k.standing v.lead in
      let w = moved v k.history (e ∷ []) h in (
        w,
        keeps,
        tt,
        as-found plan s.words 0 (set s.views seat w) (moves-one plan s.words s.views k seat v at single e refl refl act may tt s.words h after
            (laid-same plan.size s.words k.standing (joined plan.size k.standing e) refl refl k.laid)),
        told-one plan s.words s.views k seat v at single e refl refl act may tt h me.1 after,
      )
