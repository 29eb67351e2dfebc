-- All threads' logs together have the accesses of a history.
use Rattle.std.proofs.Common.{◌≡◌, ℕ, zero, suc, ◌+◌, ◌≤◌, ◌==◌, ◌&&◌, Bool, true, false, List, [], ◌∷◌, ◌++◌, length, refl, sym, ap, ◌∙◌, inl, inr, append_assoc, length-append, arith}
use Rattle.std.specs.List.{range_with_len, sum_by}
use Rattle.std.proofs.lemmas.Bool.{cases_Bool, ne_eqb}
use Rattle.std.proofs.lemmas.List.Sums.{sum_by-cons}
use Rattle.llsc_base.specs.Sizes.{Numbers}
use Rattle.history.specs.Accesses.{entry_of, history_of}
use Rattle.history.specs.Entry.{is_access, thread_of}
use Rattle.history.specs.Parts.{accesses_of}
use Rattle.history.specs.declared.entry.Access.{Access}
use Rattle.history.specs.declared.entry.Deed.{Deed}
use Rattle.history.specs.declared.entry.Deed.TheVariants as deed
use Rattle.history.specs.declared.entry.Entry.{Entry}
use Rattle.run_merge.specs.Logs.{log_of, logged, stamped}
use Rattle.run_merge.specs.inner.Tables.{AreApart}
use Rattle.run_merge.specs.Taking.{AreKnown, IsTakenSoFar}
use Rattle.run_merge.proofs.Logged.{log_at, logged_no, logged_yes}
use Rattle.run_merge.proofs.Parts.{filter_no, filter_yes}
use Rattle.run_merge.proofs.Tables.{sum_less, sum_none}
use Rattle.run_merge.proofs.Twins.{own_of}

known_rest : (count : ℕ) (e : Entry) (es : List Entry) → AreKnown count (e ∷ es) → AreKnown count es
known_rest count e es known front x back is access = known (e ∷ front) x back (ap (λ l. e ∷ l) is) access

pub sum_logs : (size : Numbers) (count : ℕ) (past es : List Entry) → AreKnown count es
    → sum_by (λ t. length (logged size t past es)) (range_with_len 0 count) ≡ length (accesses_of es)
sum_logs size count past [] known = sum_none (λ t. length (logged size t past [])) 0 count (λ t. refl)
sum_logs size count past (e ∷ es) known = elim (cases_Bool (is_access e)) [
  | inl access ↦
      let f : ℕ → ℕ = λ t. length (logged size t past (e ∷ es)) in
      let g : ℕ → ℕ = λ t. length (logged size t (past ++ e ∷ []) es) in
      let own : f (thread_of e) ≡ g (thread_of e) + 1 = ap length (logged_yes size (thread_of e) past e es (own_of e access)) ∙ omega arith in
      let all = sum_less f g 1 0 count (thread_of e) (omega arith) (omega (arith, known [] e es refl access)) own
      (λ u other. ap length (logged_no size u past e es (ap (λ b. is_access e && b) (ne_eqb (thread_of e) u (λ same. other (sym same))) ∙ and_false (is_access e)))) in
      let more : length (accesses_of (e ∷ es)) ≡ length (accesses_of es) + 1 = ap length (filter_yes is_access e es access) ∙ omega arith in
      omega (arith, all, more, sum_logs size count (past ++ e ∷ []) es (known_rest count e es known))
  | inr mark ↦
      sum_logs_mark (λ t. ap length (logged_no size t past e es (ap (λ b. b && (thread_of e == t)) mark)))
      ∙ sum_logs size count (past ++ e ∷ []) es (known_rest count e es known) ∙ ap length (sym (filter_no is_access e es mark))
]
  where
    and_false : (b : Bool) → (b && false) ≡ false
    and_false true = refl
    and_false false = refl

    sum_logs_mark : ((t : ℕ) → length (logged size t past (e ∷ es)) ≡ length (logged size t (past ++ e ∷ []) es))
        → sum_by (λ t. length (logged size t past (e ∷ es))) (range_with_len 0 count) ≡ sum_by (λ t. length (logged size t (past ++ e ∷ []) es)) (range_with_len 0 count)
    sum_logs_mark same = same_sums (λ t. length (logged size t past (e ∷ es))) (λ t. length (logged size t (past ++ e ∷ []) es)) 0 count same
      where
        same_sums : (f g : ℕ → ℕ) (from many : ℕ) → ((t : ℕ) → f t ≡ g t) → sum_by f (range_with_len from many) ≡ sum_by g (range_with_len from many)
        same_sums f g from many same = ap (λ h. sum_by h (range_with_len from many)) (λ i t. same t i)

-- ---- what is taken is no more than what there is

sum_most : (f g : ℕ → ℕ) (from count : ℕ) → ((t : ℕ) → f t ≤ g t) → sum_by f (range_with_len from count) ≤ sum_by g (range_with_len from count)
sum_most f g from zero most = omega arith
sum_most f g from (suc count) most =
    omega (arith, sum_by-cons f from (range_with_len (from + 1) count), sum_by-cons g from (range_with_len (from + 1) count), most from, sum_most f g (from + 1) count most)

one_access : (access : Access) → is_access (entry_of access) ≡ true
one_access access = by access.deed
  where
    by : (made : Deed) → is_access (entry_of (record access { deed = made })) ≡ true
    by deed.Load = refl
    by deed.LoadEx = refl
    by deed.Store = refl
    by deed.StoreEx = refl
    by deed.StoreFail = refl
    by deed.Clear = refl

pub all_accesses : (merged : List Access) → length (accesses_of (history_of merged)) ≡ length merged
all_accesses [] = refl
all_accesses (access ∷ merged) = ap length (filter_yes is_access (entry_of access) (history_of merged) (one_access access)) ∙ ap suc (all_accesses merged)

pub no_more : (size : Numbers) (seen : List Entry) (merged : List Access) (base : List ℕ) → IsTakenSoFar size seen (history_of merged) → AreApart size seen base → AreKnown size.threads seen
    → length merged ≤ length (accesses_of seen)
no_more size seen merged base way apart known =
    let taken_known : AreKnown size.threads (history_of merged) = λ front e back is access.
    let t = thread_of e in
    let log : log_of size t (history_of merged) ≡ log_of size t front ++ stamped size front e ∷ logged size t (front ++ e ∷ []) back =
    ap (log_of size t) is ∙ log_at size t front e back (own_of e access) in
    let whole : log_of size t seen ≡ log_of size t front ++ stamped size front e ∷ (logged size t (front ++ e ∷ []) back ++ (way.fronts t).0) =
    (way.fronts t).1 ∙ ap (λ l. l ++ (way.fronts t).0) log ∙ append_assoc (log_of size t front) (stamped size front e ∷ logged size t (front ++ e ∷ []) back) (way.fronts t).0 in
    apart.known t (log_of size t front) (stamped size front e) (logged size t (front ++ e ∷ []) back ++ (way.fronts t).0) whole in
    let one = sum_logs size size.threads [] (history_of merged) taken_known in
    let all = sum_logs size size.threads [] seen known in
    let most = sum_most (λ t. length (log_of size t (history_of merged))) (λ t. length (log_of size t seen)) 0 size.threads
    (λ t. omega (arith, ap length (way.fronts t).1, length-append (log_of size t (history_of merged)) (way.fronts t).0)) in
    omega (arith, one, all, most, all_accesses merged)
