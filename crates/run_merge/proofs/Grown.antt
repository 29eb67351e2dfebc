-- A thread's log in a history that has grown by one of its accesses, or by none.
use Rattle.std.proofs.Common.{◌≡◌, ℕ, ◌==◌, Bool, true, false, List, [], ◌∷◌, ◌++◌, refl, sym, ap, subst, ◌∙◌, inl, inr, append-nil, append_assoc}
use Rattle.std.specs.List.{filter}
use Rattle.std.proofs.lemmas.Bool.{cases_Bool}
use Rattle.llsc_base.specs.Memory.{row_of}
use Rattle.llsc_base.specs.Sizes.{Numbers}
use Rattle.llsc_base.specs.declared.access.Place.{Place}
use Rattle.history.specs.Cause.{writes_in_class}
use Rattle.history.specs.Entry.{is_access, thread_of}
use Rattle.history.specs.Parts.{accesses_of, entries_of}
use Rattle.history.specs.declared.entry.Access.{Access}
use Rattle.history.specs.declared.entry.Entry.{Entry}
use Rattle.version_memory.specs.Stands.{Stands}
use Rattle.guest_calls.proofs.Splits.{at_it, before_it, behind_it, meets}
use Rattle.run_merge.specs.Logs.{IsFirst, IsLogOf, access_of, is_own, log_of, logged, stamp_behind, stamped}
use Rattle.run_merge.specs.declared.logs.Stamped.{Stamped}
use Rattle.run_merge.proofs.Parts.{SplitsAt, filter_no, filter_yes, same_back, split_filter}
use Rattle.run_merge.proofs.Logged.{logged-append, logged_no, logged_yes}

-- the accesses of a thread, filtered at once
pub own_accesses : (t : ℕ) (es : List Entry) → filter (is_own t) es ≡ accesses_of (entries_of t es)
own_accesses t [] = refl
own_accesses t (e ∷ es) = by (is_access e) (thread_of e == t) refl refl (own_accesses t es)
  where
    by : (access own : Bool) → is_access e ≡ access → (thread_of e == t) ≡ own → filter (is_own t) es ≡ accesses_of (entries_of t es)
        → filter (is_own t) (e ∷ es) ≡ accesses_of (entries_of t (e ∷ es))
    by true true is at rest = rw (is, at) (rw is (ap (λ l. e ∷ l) rest))
    by true false is at rest = rw (is, at) rest
    by false true is at rest = rw (is, at) (rw is rest)
    by false false is at rest = rw (is, at) rest

-- none of a thread's accesses among entries, and so nothing in its log
pub none_logged : (size : Numbers) (t : ℕ) (past es : List Entry) → filter (is_own t) es ≡ [] → logged size t past es ≡ []
none_logged size t past [] none = refl
none_logged size t past (e ∷ es) none = elim (cases_Bool (is_own t e)) [
  | inl own ↦ absurd (let is : e ∷ filter (is_own t) es ≡ [] = sym (filter_yes (is_own t) e es own) ∙ none in let f : ⊥ = cc in f)
  | inr other ↦ logged_no size t past e es other ∙ none_logged size t (past ++ e ∷ []) es (sym (filter_no (is_own t) e es other) ∙ none)
]

none_kept : {A : Type 0} (p : A → Bool) (xs : List A) (x : A) (ys : List A) → p x ≡ true → filter p (xs ++ x ∷ ys) ≡ [] → ⊥
none_kept p [] x ys kept none = let is : x ∷ filter p ys ≡ [] = sym (filter_yes p x ys kept) ∙ none in cc
none_kept p (y ∷ xs) x ys kept none = elim (cases_Bool (p y)) [
  | inl here ↦ absurd (let is : y ∷ filter p (xs ++ x ∷ ys) ≡ [] = sym (filter_yes p y (xs ++ x ∷ ys) here) ∙ none in let f : ⊥ = cc in f)
  | inr gone ↦ none_kept p xs x ys kept (sym (filter_no p y (xs ++ x ∷ ys) gone) ∙ none)
]

abbrev pub made : Access → ℕ → Stamped
made access stamp = record { access = access; stamp = stamp }

module _ (size : Numbers) (t : ℕ) (old new added : List Entry) (longer : new ≡ old ++ added) where
  -- by none
  pub grown_by_none : entries_of t added ≡ [] → log_of size t new ≡ log_of size t old
  grown_by_none none =
      ap (log_of size t) longer ∙ logged-append size t [] old added
      ∙ ap (λ l. log_of size t old ++ l) (none_logged size t old added (own_accesses t added ∙ ap accesses_of none)) ∙ append-nil (log_of size t old)

  module _ (own : List Entry) (e : Entry) (mine : entries_of t added ≡ own) (one : accesses_of own ≡ e ∷ []) where
    at : SplitsAt (is_own t) added [] e []
    at = split_filter (is_own t) added [] e [] (own_accesses t added ∙ ap accesses_of mine ∙ one)

    grown : log_of size t new ≡ log_of size t old ++ stamped size (old ++ at.before) e ∷ []
    grown =
        let behind = logged size t (old ++ (at.before ++ e ∷ [])) at.after in
        let here : logged size t old added ≡ stamped size (old ++ at.before) e ∷ [] =
        ap (logged size t old) at.are ∙ logged-append size t old at.before (e ∷ at.after)
        ∙ ap (λ l. l ++ logged size t (old ++ at.before) (e ∷ at.after)) (none_logged size t old at.before at.early)
        ∙ logged_yes size t (old ++ at.before) e at.after at.kept
        ∙ ap (λ l. stamped size (old ++ at.before) e ∷ l) (none_logged size t ((old ++ at.before) ++ e ∷ []) at.after at.late) in
        ap (log_of size t) longer ∙ logged-append size t [] old added ∙ ap (λ l. log_of size t old ++ l) here

    -- by one that has no stamp
    pub grown_by_plain : ((past : List Entry) → stamp_behind size past e ≡ 0) → log_of size t new ≡ log_of size t old ++ made (access_of e) 0 ∷ []
    grown_by_plain no_stamp = grown ∙ ap (λ n. log_of size t old ++ made (access_of e) n ∷ []) (no_stamp (old ++ at.before))

    -- by one that stands behind so many writes of its class
    pub grown_by_stamped : (place : Place) (stamp : ℕ) → ((past : List Entry) → stamp_behind size past e ≡ writes_in_class size (row_of size.granule place) past)
        → Stands (λ past. writes_in_class size (row_of size.granule place) past ≡ stamp) e old new
        → log_of size t new ≡ log_of size t old ++ made (access_of e) stamp ∷ []
    grown_by_stamped place stamp counts stands =
        let whole : (old ++ at.before) ++ e ∷ at.after ≡ stands.past ++ e ∷ stands.later =
        append_assoc old at.before (e ∷ at.after) ∙ ap (λ l. old ++ l) (sym at.are) ∙ sym longer ∙ stands.are in
        let same : old ++ at.before ≡ stands.past = elim (meets (old ++ at.before) e at.after stands.past e stands.later whole) [
          | at_it fronts entries ↦ fronts
          | before_it middle others backs ↦ absurd (none_kept (is_own t) middle e stands.later at.kept (ap (filter (is_own t)) (sym backs) ∙ at.late))
          | behind_it middle fronts rests ↦
              let before : at.before ≡ stands.since.0 ++ e ∷ middle =
              same_back old at.before (stands.since.0 ++ e ∷ middle) (fronts ∙ ap (λ l. l ++ e ∷ middle) stands.since.1 ∙ append_assoc old stands.since.0 (e ∷ middle)) in
              absurd (none_kept (is_own t) stands.since.0 e middle at.kept (ap (filter (is_own t)) (sym before) ∙ at.early))
        ] in
        grown ∙ ap (λ n. log_of size t old ++ made (access_of e) n ∷ [])
        (counts (old ++ at.before) ∙ ap (writes_in_class size (row_of size.granule place)) same ∙ stands.fact)

-- what was added, as a call on the memory tells it
pub logged_on : (size : Numbers) (t : ℕ) (old new : List Entry) (one kept : Stamped) (entries more : List Stamped) (count next : ℕ) → kept ≡ one
    → log_of size t new ≡ log_of size t old ++ one ∷ []
    → ((all : List Stamped) → IsFirst all entries count → IsFirst (all ++ kept ∷ []) more next)
    → IsLogOf size t old entries count → IsLogOf size t new more next
logged_on size t old new one kept entries more count next same grows add is =
    subst (λ l. IsFirst l more next) (ap (λ s. log_of size t old ++ s ∷ []) same ∙ sym grows) (add (log_of size t old) is)
