-- Logs of threads, taken apart and put together.
use Rattle.std.proofs.Common.{◌≡◌, ℕ, true, false, List, [], ◌∷◌, ◌++◌, refl, sym, ap, subst, ◌∙◌, inl, inr, append-nil, append_assoc}
use Rattle.std.proofs.lemmas.Bool.{cases_Bool}
use Rattle.llsc_base.specs.Sizes.{Numbers}
use Rattle.history.specs.declared.entry.Entry.{Entry}
use Rattle.run_merge.specs.Logs.{is_own, log_of, logged, stamped}
use Rattle.run_merge.specs.declared.logs.Stamped.{Stamped}
use Rattle.guest_calls.proofs.Splits.{same_head, same_tail}

module _ (size : Numbers) (t : ℕ) where
  -- ---- one entry

  pub logged_yes : (past : List Entry) (e : Entry) (es : List Entry) → is_own t e ≡ true
      → logged size t past (e ∷ es) ≡ stamped size past e ∷ logged size t (past ++ e ∷ []) es
  logged_yes past e es own = rw own refl

  pub logged_no : (past : List Entry) (e : Entry) (es : List Entry) → is_own t e ≡ false
      → logged size t past (e ∷ es) ≡ logged size t (past ++ e ∷ []) es
  logged_no past e es own = rw own refl

  -- ---- one list behind another

  pub logged-append : (past xs ys : List Entry) → logged size t past (xs ++ ys) ≡ logged size t past xs ++ logged size t (past ++ xs) ys
  logged-append past [] ys = ap (λ p. logged size t p ys) (sym (append-nil past))
  logged-append past (e ∷ xs) ys =
      let rest : logged size t (past ++ e ∷ []) (xs ++ ys) ≡ logged size t (past ++ e ∷ []) xs ++ logged size t (past ++ e ∷ xs) ys =
      logged-append (past ++ e ∷ []) xs ys ∙ ap (λ p. logged size t (past ++ e ∷ []) xs ++ logged size t p ys) (append_assoc past (e ∷ []) xs) in
      elim (cases_Bool (is_own t e)) [
        | inl own ↦
            logged_yes past e (xs ++ ys) own ∙ ap (λ l. stamped size past e ∷ l) rest
            ∙ ap (λ l. l ++ logged size t (past ++ e ∷ xs) ys) (sym (logged_yes past e xs own))
        | inr other ↦
            logged_no past e (xs ++ ys) other ∙ rest
            ∙ ap (λ l. l ++ logged size t (past ++ e ∷ xs) ys) (sym (logged_no past e xs other))
      ]

  -- an access of the thread, in the middle
  pub log_at : (before : List Entry) (e : Entry) (after : List Entry) → is_own t e ≡ true
      → log_of size t (before ++ e ∷ after) ≡ log_of size t before ++ stamped size before e ∷ logged size t (before ++ e ∷ []) after
  log_at before e after own = logged-append [] before (e ∷ after) ∙ ap (λ l. log_of size t before ++ l) (logged_yes before e after own)

  -- one more entry
  pub log_more : (before : List Entry) (e : Entry) → is_own t e ≡ true → log_of size t (before ++ e ∷ []) ≡ log_of size t before ++ stamped size before e ∷ []
  log_more before e own = log_at before e [] own

  pub log_same : (before : List Entry) (e : Entry) → is_own t e ≡ false → log_of size t (before ++ e ∷ []) ≡ log_of size t before
  log_same before e other =
      logged-append [] before (e ∷ []) ∙ ap (λ l. log_of size t before ++ l) (logged_no before e [] other) ∙ append-nil (log_of size t before)

  -- ---- a log that is split at an access

  pub record LoggedAt (past all : List Entry) (front : List Stamped) (one : Stamped) (back : List Stamped) : Type 0 where
    pub before : List Entry
    pub entry : Entry
    pub after : List Entry
    pub are : all ≡ before ++ entry ∷ after
    pub own : is_own t entry ≡ true
    pub here : one ≡ stamped size (past ++ before) entry
    pub early : logged size t past before ≡ front
    pub late : logged size t (past ++ (before ++ entry ∷ [])) after ≡ back

  at_first : (past : List Entry) (e : Entry) (all : List Entry) (one : Stamped) (back : List Stamped) → is_own t e ≡ true
      → stamped size past e ∷ logged size t (past ++ e ∷ []) all ≡ one ∷ back → LoggedAt past (e ∷ all) [] one back
  at_first past e all one back own is = record {
    before = [];
    entry = e;
    after = all;
    are = refl;
    own = own;
    here = sym (same_head (stamped size past e) one (logged size t (past ++ e ∷ []) all) back is) ∙ ap (λ p. stamped size p e) (sym (append-nil past));
    early = refl;
    late = same_tail (stamped size past e) one (logged size t (past ++ e ∷ []) all) back is;
  }

  later_here : (past : List Entry) (e : Entry) (all : List Entry) (front : List Stamped) (one : Stamped) (back : List Stamped)
      → (at : LoggedAt (past ++ e ∷ []) all front one back) → one ≡ stamped size (past ++ e ∷ at.before) at.entry
  later_here past e all front one back at = at.here ∙ ap (λ p. stamped size p at.entry) (append_assoc past (e ∷ []) at.before)

  later_late : (past : List Entry) (e : Entry) (all : List Entry) (front : List Stamped) (one : Stamped) (back : List Stamped)
      → (at : LoggedAt (past ++ e ∷ []) all front one back) → logged size t (past ++ e ∷ (at.before ++ at.entry ∷ [])) at.after ≡ back
  later_late past e all front one back at = ap (λ p. logged size t p at.after) (sym (append_assoc past (e ∷ []) (at.before ++ at.entry ∷ []))) ∙ at.late

  at_own : (past : List Entry) (e : Entry) (all : List Entry) (front : List Stamped) (one : Stamped) (back : List Stamped) → is_own t e ≡ true
      → LoggedAt (past ++ e ∷ []) all front one back → LoggedAt past (e ∷ all) (stamped size past e ∷ front) one back
  at_own past e all front one back own at = record {
    before = e ∷ at.before;
    entry = at.entry;
    after = at.after;
    are = ap (λ l. e ∷ l) at.are;
    own = at.own;
    here = later_here past e all front one back at;
    early = logged_yes past e at.before own ∙ ap (λ l. stamped size past e ∷ l) at.early;
    late = later_late past e all front one back at;
  }

  at_other : (past : List Entry) (e : Entry) (all : List Entry) (front : List Stamped) (one : Stamped) (back : List Stamped) → is_own t e ≡ false
      → LoggedAt (past ++ e ∷ []) all front one back → LoggedAt past (e ∷ all) front one back
  at_other past e all front one back other at = record {
    before = e ∷ at.before;
    entry = at.entry;
    after = at.after;
    are = ap (λ l. e ∷ l) at.are;
    own = at.own;
    here = later_here past e all front one back at;
    early = logged_no past e at.before other ∙ at.early;
    late = later_late past e all front one back at;
  }

  pub split_logged : (past all : List Entry) (front : List Stamped) (one : Stamped) (back : List Stamped) → logged size t past all ≡ front ++ one ∷ back
      → LoggedAt past all front one back
  split_logged past [] [] one back is = cc
  split_logged past [] (f ∷ front) one back is = cc
  split_logged past (e ∷ all) [] one back is = elim (cases_Bool (is_own t e)) [
    | inl own ↦ at_first past e all one back own (sym (logged_yes past e all own) ∙ is)
    | inr other ↦ at_other past e all [] one back other (split_logged (past ++ e ∷ []) all [] one back (sym (logged_no past e all other) ∙ is))
  ]
  split_logged past (e ∷ all) (f ∷ front) one back is = elim (cases_Bool (is_own t e)) [
    | inl own ↦
        let both : stamped size past e ∷ logged size t (past ++ e ∷ []) all ≡ f ∷ (front ++ one ∷ back) = sym (logged_yes past e all own) ∙ is in
        let first : stamped size past e ≡ f = same_head (stamped size past e) f (logged size t (past ++ e ∷ []) all) (front ++ one ∷ back) both in
        let rest : logged size t (past ++ e ∷ []) all ≡ front ++ one ∷ back = same_tail (stamped size past e) f (logged size t (past ++ e ∷ []) all) (front ++ one ∷ back) both in
        subst (λ g. LoggedAt past (e ∷ all) (g ∷ front) one back) first
        (at_own past e all front one back own (split_logged (past ++ e ∷ []) all front one back rest))
    | inr other ↦
        at_other past e all (f ∷ front) one back other (split_logged (past ++ e ∷ []) all (f ∷ front) one back (sym (logged_no past e all other) ∙ is))
  ]
