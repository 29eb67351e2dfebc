-- The steps by which a thread is started, and by which it learns so.
use Rattle.std.proofs.Common.{◌≡◌, ℕ, ◌+◌, ◌*◌, ◌<◌, ◌≤◌, true, List, [], ◌∷◌, set, refl, ap, sym, ◌∙◌, subst, arith, append-nil}
use mathlib.Core.Option.{none}
use Rattle.llsc_base.specs.declared.access.Place.{Place}
use Rattle.history.specs.Standing.{joined}
use Rattle.history.specs.Started.{MayStand, child_of, is_started, starts_of}
use Rattle.history.specs.declared.entry.Entry.{Entry}
use Rattle.history.specs.declared.entry.Entry.TheVariants.{Start}
use Rattle.history.proofs.Born.{child-below}
use Rattle.atomic_table.specs.Table.{Allows, keeps, step}
use Rattle.shared_memory.specs.Seen.{IsSingle}
use Rattle.shared_memory.specs.Passes.{marked}
use Rattle.shared_memory.specs.inner.Passes.{moved}
use Rattle.shared_memory.specs.inner.Told.{ask}
use Rattle.shared_memory.specs.declared.plans.Plan.{Plan}
use Rattle.version_rule.specs.declared.hands.Doing.{Doing}
use Rattle.version_rule.specs.declared.hands.Doing.TheVariants.{Rest}
use Rattle.version_rule.specs.Knowledge.{IsAt}
use Rattle.version_rule.specs.Kept.{KeptBy, origin_of}
use Rattle.version_rule.specs.StartWords.{start_word}
use Rattle.version_rule.specs.Told.{Mine, known_own, start_found, started}
use Rattle.version_rule.specs.inner.Told.{birth}
use Rattle.version_rule.proofs.Facts.{as-found, known, lead-below}
use Rattle.version_rule.proofs.Laid.{laid-behind}
use Rattle.version_rule.proofs.Moves.{moves-by, moves-none, told-by, told-none}
use Rattle.version_rule.proofs.Own.{own-start}
use Rattle.version_rule.proofs.Started.{all-threads, mark-tells, starts-one, starts_of-entries}

module _ (plan : Plan) where
  -- a thread is started: the next of those that are its starter's own
  pub starts-child : (slots seat : ℕ) (me : Mine) (child entry arg : ℕ) → IsSingle me.0.lead (marked me.0.numbers) → me.0.doing.doing ≡ Rest
      → plan.first * (1 + plan.spare) ≡ plan.size.threads → me.0.lead < plan.first → starts_of me.0.lead me.0.seen < plan.spare
      → child ≡ child_of plan.first plan.spare me.0.lead (starts_of me.0.lead me.0.seen)
      → Allows (KeptBy plan) slots seat me (start_word plan child) (λ _. 1) (λ _. started (birth (origin_of plan) child entry arg) (step slots (start_word plan child) 1 0 none) me 1)
  starts-child slots seat me child entry arg single rest all first few is s k long at small =
      let v = me.0 in
      let knows = known plan s.words s.views k seat v at single in
      let stage = subst (λ (d : Doing). IsAt plan.size k.standing v.lead d) rest knows.at in
      let e = Start v.lead child entry arg in
      let count : starts_of v.lead k.history ≡ starts_of v.lead v.seen =
      starts_of-entries v.lead k.history v.seen ((k.tells.each seat v at).part.all v.lead single.has) in
      let stands : MayStand plan.first plan.spare k.history e =
      (first, subst (λ (n : ℕ). n < plan.spare) (sym count) few, is ∙ ap (child_of plan.first plan.spare v.lead) (sym count)) in
      let most = child-below plan.first plan.spare v.lead (starts_of v.lead v.seen) first few in
      let threads = all-threads plan.first plan.spare plan.size.threads all in
      let below : child < plan.size.threads = omega arith in
      let from : plan.first ≤ child = omega arith in
      let after = own-start plan.size k.standing v.lead child entry arg v.doing rest knows in
      let w = moved v k.history (e ∷ []) v.doing in (
        w,
        keeps,
        tt,
        moves-by plan s.words s.views k seat v at single e refl stands stage tt (set s.words (start_word plan child) 1) v.doing after
            (laid-behind plan.size s.words k.standing (joined plan.size k.standing e) (start_word plan child) 1 (omega arith) refl refl k.laid)
            (starts-one plan s.words k.history v.lead child entry arg from below k.starts),
        told-by plan s.words s.views k seat v at single e refl stands stage tt v.doing me.1 after,
      )

  -- a seat learns that its thread is one of the machine's
  pub knows-own : (slots seat : ℕ) (me : Mine) (p : Place) (value : ℕ) → IsSingle me.0.lead (marked me.0.numbers)
      → Allows (KeptBy plan) slots seat me 0 (λ n. n) (known_own (ask (origin_of plan) p value) (step slots 0 0 0 none) me)
  knows-own slots seat me p value single s k long at small =
      let v = me.0 in
      let knows = known plan s.words s.views k seat v at single in (
        moved v k.history [] v.doing,
        keeps,
        tt,
        as-found plan s.words 0 (set s.views seat (moved v k.history [] v.doing)) (moves-none plan s.words s.views k seat v at single v.doing knows),
        (told-none plan s.words s.views k seat v at single v.doing me.1 knows, lead-below plan s.words s.views k seat v at single),
      )

  -- a thread that doesn't begin by itself looks whether it was started
  pub looks-start : (slots seat : ℕ) (me : Mine) (p : Place) (value : ℕ) → IsSingle me.0.lead (marked me.0.numbers) → plan.first ≤ me.0.lead
      → Allows (KeptBy plan) slots seat me (start_word plan me.0.lead) (λ n. n) (start_found (ask (origin_of plan) p value) (step slots (start_word plan me.0.lead) 0 0 none) me)
  looks-start slots seat me p value single from s k long at small =
      let i = start_word plan me.0.lead in
      let v = me.0 in
      let knows = known plan s.words s.views k seat v at single in
      let word = k.starts.marks v.lead from (lead-below plan s.words s.views k seat v at single) in (
        moved v k.history [] v.doing,
        keeps,
        tt,
        as-found plan s.words i (set s.views seat (moved v k.history [] v.doing)) (moves-none plan s.words s.views k seat v at single v.doing knows),
        (
          told-none plan s.words s.views k seat v at single v.doing me.1 knows,
          λ one. subst (λ (l : List Entry). is_started v.lead l ≡ true) (sym (append-nil k.history)) (mark-tells v.lead k.history (sym word ∙ one)),
        ),
      )
