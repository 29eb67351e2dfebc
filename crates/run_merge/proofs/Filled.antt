-- The tables of logs of which nothing is taken.
use Rattle.std.proofs.Common.{◌≡◌, ℕ, zero, suc, ◌+◌, ◌<◌, ◌≤◌, ◌==◌, Bool, true, false, cond, Some, List, [], ◌∷◌, ◌++◌, length, map, get_or, slice_get, slice_index, replicate, refl, sym, ap, subst, ◌∙◌, inl, inr, arith, length-append}
use Rattle.std.proofs.lemmas.List.{length-replicate, take_all}
use Rattle.std.specs.List.{count_by, range_with_len, sum_by}
use Rattle.std.proofs.lemmas.Bool.{and_parts, cases_Bool, cases_lt, eqb-true}
use Rattle.std.proofs.lemmas.Option.{slice_get_cases, slice_get_within}
use Rattle.std.proofs.lemmas.List.Elements.{filter-append}
use Rattle.std.proofs.lemmas.List.Sums.{sum_by-cons}
use Rattle.llsc_base.specs.Sizes.{Numbers}
use Rattle.llsc_base.proofs.Cells.{class_of-lt}
use Rattle.history.specs.Accesses.{history_of}
use Rattle.history.specs.Cause.{is_write, writes_in_class}
use Rattle.history.specs.Entry.{is_access, thread_of}
use Rattle.history.specs.Parts.{accesses_of}
use Rattle.history.specs.declared.entry.Access.{Access}
use Rattle.llsc_base.specs.Memory.{class_of, row_of}
use Rattle.history.specs.declared.entry.Entry.{Entry}
use Rattle.history.specs.declared.entry.Entry.TheVariants.{Read, Write, Fail, Clear}
use Rattle.run_merge.specs.inner.Filling.{AreSmall, AreWide, IsStack}
use Rattle.run_merge.specs.Logs.{access_of, log_of, logged, most_logged, stamp_behind, stamped}
use Rattle.run_merge.specs.Merge.{IsMerge}
use Rattle.run_merge.specs.Runs.{KeepLogs}
use Rattle.run_merge.specs.inner.Merging.{AreLogs, IsMerging, tables_of}
use Rattle.run_merge.specs.inner.Tables.{AreApart, AreTables, class_at, is_read_at, spot, waiting}
use Rattle.run_merge.specs.Taking.{AreKnown, IsTakenSoFar, row_at}
use Rattle.run_merge.specs.declared.merging.Merging.{Merging}
use Rattle.run_merge.specs.declared.logs.Log.{Log}
use Rattle.run_merge.specs.declared.logs.Stamped.{Stamped}
use Rattle.run_merge.proofs.Logged.{log_at as log_at_own, split_logged}
use Rattle.run_merge.proofs.Parts.{filter_no, filter_yes}
use Rattle.run_merge.proofs.Taking.{none_taken}
use Rattle.run_merge.proofs.Counted.{all_accesses, sum_logs}
use Rattle.run_merge.proofs.Tables.{sum_has}
use Rattle.run_merge.proofs.Twins.{own_of, write_access}

-- ---- lists

at_front : {A : Type 0} (front : List A) (x : A) (back : List A) (d : A) → get_or (front ++ x ∷ back) (length front) d ≡ x
at_front [] x back d = refl
at_front (f ∷ front) x back d = at_front front x back d

front_less : {A : Type 0} (front : List A) (x : A) (back : List A) → length front < length (front ++ x ∷ back)
front_less front x back = omega (arith, length-append front (x ∷ back))

-- the element at an index, with what stands before and behind it
split_at : {A : Type 0} (all : List A) (i : ℕ) (d : A) → i < length all → (front : List A) × ((back : List A) × (all ≡ front ++ get_or all i d ∷ back))
split_at [] i d less = absurd (omega (arith, less))
split_at (x ∷ all) zero d less = ([], (all, refl))
split_at (x ∷ all) (suc i) d less = let rest = split_at all i d (omega (arith, less)) in (x ∷ rest.0, (rest.1.0, ap (λ l. x ∷ l) rest.1.1))

pub zero_at : (n i : ℕ) → slice_index (replicate n 0) i ≡ 0
zero_at zero i = refl
zero_at (suc n) zero = refl
zero_at (suc n) (suc i) = zero_at n i

sums_are : (f : Log → ℕ) (g : ℕ → ℕ) (from : ℕ) (logs : List Log) → ((i : ℕ) (log : Log) → slice_get logs i ≡ Some log → f log ≡ g (from + i))
    → sum_by f logs ≡ sum_by g (range_with_len from (length logs))
sums_are f g from [] same = refl
sums_are f g from (log ∷ logs) same =
    let here : f log ≡ g from = same 0 log refl ∙ ap g (omega arith) in
    let rest : sum_by f logs ≡ sum_by g (range_with_len (from + 1) (length logs)) = sums_are f g (from + 1) logs (λ i l is. same (suc i) l is ∙ ap g (omega arith)) in
    let one : sum_by f (log ∷ logs) ≡ f log + sum_by f logs = sum_by-cons f log logs in
    let other : sum_by g (from ∷ range_with_len (from + 1) (length logs)) ≡ g from + sum_by g (range_with_len (from + 1) (length logs)) = sum_by-cons g from (range_with_len (from + 1) (length logs)) in
    one ∙ omega (arith, here, rest) ∙ sym other

-- ---- stamps

false_true : {A : Type 0} → false ≡ true → A
false_true e = absurd (let f : ⊥ = cc in f)

small : (b : Bool) → cond b 1 0 ≤ 1
small true = omega arith
small false = omega arith

writes_most : (size : Numbers) (row : ℕ) (es : List Entry) → writes_in_class size row es ≤ length (accesses_of es)
writes_most size row [] = omega arith
writes_most size row (e ∷ es) =
    let one : writes_in_class size row (e ∷ es) ≡ cond (is_write size row e) 1 0 + writes_in_class size row es = sum_by-cons (λ x. cond (is_write size row x) 1 0) e es in
    elim (cases_Bool (is_access e)) [
      | inl access ↦
          let more : length (accesses_of (e ∷ es)) ≡ length (accesses_of es) + 1 = ap length (filter_yes is_access e es access) ∙ omega arith in
          omega (arith, one, small (is_write size row e), more, writes_most size row es)
      | inr mark ↦ elim (cases_Bool (is_write size row e)) [
        | inl write ↦ false_true (sym mark ∙ write_access size row e write)
        | inr none ↦
            let here : ◌≡◌ {A = ℕ} (cond (is_write size row e) 1 0) 0 = ap (λ b. cond b 1 0) none in
            omega (arith, one, here, ap length (filter_no is_access e es mark), writes_most size row es)
      ]
    ]

stamp_most : (size : Numbers) (past : List Entry) (e : Entry) → stamp_behind size past e ≤ length (accesses_of past)
stamp_most size past (Read t p v x) = writes_most size (row_of size.granule p) past
stamp_most size past (Write t p v x) = writes_most size (row_of size.granule p) past
stamp_most size past (Fail t p v c) = omega arith
stamp_most size past (Clear t) = omega arith
stamp_most size past e = omega arith

module _ (size : Numbers) (seen : List Entry) where
  small_at : (t : ℕ) (front : List Stamped) (one : Stamped) (back : List Stamped) → log_of size t seen ≡ front ++ one ∷ back → one.stamp ≤ length (accesses_of seen)
  small_at t front one back is =
      let at = split_logged size t [] seen front one back is in
      let whole : length (accesses_of seen) ≡ length (accesses_of at.before) + length (accesses_of (at.entry ∷ at.after)) =
      ap (λ l. length (accesses_of l)) at.are ∙ ap length (filter-append is_access at.before (at.entry ∷ at.after)) ∙ length-append (accesses_of at.before) (accesses_of (at.entry ∷ at.after)) in
      let is_stamp : one.stamp ≡ stamp_behind size at.before at.entry = ap (λ (s : Stamped). s.stamp) at.here in
      omega (arith, whole, is_stamp, stamp_most size at.before at.entry)

  -- all stamps of a log are small where the accesses are few
  pub small_log : (t : ℕ) → length (accesses_of seen) ≤ 1000000 → AreSmall (log_of size t seen)
  small_log t few i d less =
      let at = split_at (log_of size t seen) i d less in
      omega (arith, few, small_at t at.0 (get_or (log_of size t seen) i d) at.1.0 at.1.1)

  -- and so are its accesses
  pub log_short : AreKnown size.threads seen → length (accesses_of seen) ≤ 1000000 → (t : ℕ) → t < size.threads → length (log_of size t seen) ≤ 1000000
  log_short known few t less =
      omega (arith, few, sum_logs size size.threads [] seen known, sum_has (λ u. length (log_of size u seen)) 0 size.threads t (omega arith) (omega (arith, less)))

  -- a thread that has a log is one of the machine's
  known_of : AreKnown size.threads seen → (t : ℕ) (front : List Stamped) (one : Stamped) (back : List Stamped) → log_of size t seen ≡ front ++ one ∷ back → t < size.threads
  known_of known t front one back is =
      let at = split_logged size t [] seen front one back is in
      let parts = and_parts (is_access at.entry) (thread_of at.entry == t) at.own in
      subst (λ n. n < size.threads) (eqb-true (thread_of at.entry) t parts.1) (known at.before at.entry at.after at.are parts.0)

  module _ (logs : List Log) (are : AreLogs size seen logs) (known : AreKnown size.threads seen) (widths bases : List ℕ) (end : ℕ) (some : 0 < size.classes)
      (wide : (t : ℕ) (log : Log) → slice_get logs t ≡ Some log → AreWide size log.entries.items (length log.entries.items) widths)
      (stack : IsStack widths size.classes bases end) where
    log_at : (t : ℕ) → t < size.threads → (log : Log) × (slice_get logs t ≡ Some log)
    log_at t less = elim (slice_get_cases logs t).1 [
      | inl found ↦ (found.0, found.2)
      | inr past ↦ absurd (omega (arith, past.0, less, are.many))
    ]

    wide_at : (t : ℕ) (front : List Stamped) (one : Stamped) (back : List Stamped) → log_of size t seen ≡ front ++ one ∷ back → one.stamp < slice_index widths (class_at size one)
    wide_at t front one back is =
        let l = log_at t (known_of known t front one back is) in
        let entries : l.0.entries.items ≡ front ++ one ∷ back = are.each t l.0 l.1 ∙ is in
        let got : get_or l.0.entries.items (length front) one ≡ one = ap (λ e. get_or e (length front) one) entries ∙ at_front front one back one in
        let inside : length front < length l.0.entries.items = subst (λ (e : List Stamped). length front < length e) (sym entries) (front_less front one back) in
        subst (λ (x : Stamped). x.stamp < slice_index widths (class_at size x)) got (wide t l.0 l.1 (length front) one inside inside)

    pub apart_of : AreApart size seen bases
    apart_of = record {
      known = known_of known;
      apart = λ t u front one back before other after is also reads writes same.
          let c = class_at size one in
          let d = class_at size other in
          let c_in : c < size.classes = class_of-lt size.classes (row_at size one) some in
          let d_in : d < size.classes = class_of-lt size.classes (row_at size other) some in
          let one_in = wide_at t front one back is in
          let other_in = wide_at u before other after also in
          elim (cases_lt c d) [
            | inl less ↦ absurd (omega (arith, stack.apart c d less d_in, one_in, same))
            | inr more ↦ elim (cases_lt d c) [
              | inl less ↦ absurd (omega (arith, stack.apart d c less c_in, other_in, same))
              | inr most ↦
                  let classes : c ≡ d = omega (arith, more, most) in
                  (classes, omega (arith, ap (slice_index bases) classes, same))
            ]
          ];
    }

    pub spots_of : (t : ℕ) (front : List Stamped) (one : Stamped) (back : List Stamped) → log_of size t seen ≡ front ++ one ∷ back → spot size bases one < end
    spots_of t front one back is = omega (arith, wide_at t front one back is, stack.within (class_at size one) (class_of-lt size.classes (row_at size one) some))

    pub lefts_of : (k : ℕ) → sum_by (λ (log : Log). count_by (is_read_at size bases k) log.entries.items) logs ≡ waiting size seen [] bases k
    lefts_of k =
        sums_are (λ log. count_by (is_read_at size bases k) log.entries.items) (λ t. count_by (is_read_at size bases k) (log_of size t seen)) 0 logs
        (λ i log at. ap (count_by (is_read_at size bases k)) (are.each i log at) ∙ ap (λ t. count_by (is_read_at size bases k) (log_of size t seen)) (omega arith))
        ∙ ap (λ n. sum_by (λ t. count_by (is_read_at size bases k) (log_of size t seen)) (range_with_len 0 n)) are.many

    pub begun_is : (m : Merging) → m.out.items ≡ [] → m.base.items ≡ bases → length bases ≡ size.classes → length m.left.items ≡ end
        → ((k : ℕ) → slice_index m.left.items k ≡ sum_by (λ (log : Log). count_by (is_read_at size bases k) log.entries.items) logs)
        → m.count.items ≡ replicate size.classes 0 → m.at.items ≡ replicate size.threads 0 → length m.reservations.loads.items ≡ size.threads → IsMerging size seen m
    begun_is m out base many left lefts count at reservations =
        let tables : AreTables size seen [] (tables_of m) = record {
          counts = λ row. ap (λ l. slice_index l (class_of size.classes row)) count ∙ zero_at size.classes (class_of size.classes row);
          lefts = λ i. lefts i ∙ lefts_of i ∙ ap (λ b. waiting size seen [] b i) (sym base);
        } in
        record {
          form = subst (λ (l : List Access). l ≡ map access_of (history_of l)) (sym out) refl;
          way = subst (λ (l : List Access). IsTakenSoFar size seen (history_of l)) (sym out) (none_taken size seen);
          tables = subst (λ (l : List Access). AreTables size seen (history_of l) (tables_of m)) (sym out) tables;
          apart = subst (AreApart size seen) (sym base) apart_of;
          room = record {
            some = some;
            base = ap length base ∙ many;
            count = ap length count ∙ length-replicate size.classes 0;
            spots = λ t front one back is. subst (λ n. spot size m.base.items one < n) (sym left) (subst (λ b. spot size b one < end) (sym base) (spots_of t front one back is));
          };
          threads = ap length at ∙ length-replicate size.threads 0;
          at = λ t less. subst (λ (l : List Access). slice_index m.at.items t ≡ length (log_of size t (history_of l))) (sym out) (ap (λ l. slice_index l t) at ∙ zero_at size.threads t);
          reservations = reservations;
        }

-- ---- logs that a run keeps

-- all counts together
pub sum_counts : (size : Numbers) (seen : List Entry) (logs : List Log) → KeepLogs size seen logs → sum_by (λ (log : Log). log.count) logs ≡ length (accesses_of seen)
sum_counts size seen logs keep =
    sums_are (λ log. log.count) (λ t. length (log_of size t seen)) 0 logs (λ i log at. (keep.each i log at).count_is ∙ ap (λ t. length (log_of size t seen)) (omega arith))
    ∙ ap (λ n. sum_by (λ t. length (log_of size t seen)) (range_with_len 0 n)) keep.many ∙ sum_logs size size.threads [] seen keep.known

-- where the accesses are few, logs are whole
pub whole_logs : (size : Numbers) (seen : List Entry) (logs : List Log) → KeepLogs size seen logs → length (accesses_of seen) ≤ 1000000 → AreLogs size seen logs
unfolding most_logged
whole_logs size seen logs keep few = record {
  many = keep.many;
  each = λ t log at.
      let inside : t < length logs = slice_get_within logs t log at in
      let short : length (log_of size t seen) ≤ 1000000 = log_short size seen keep.known few t (omega (arith, inside, keep.many)) in
      (keep.each t log at).first_are ∙ take_all most_logged (log_of size t seen) short;
}

-- a merge has as many accesses as the history
pub merge_length : (size : Numbers) (seen : List Entry) (merged : List Access) → IsMerge size seen merged → AreKnown size.threads seen → length merged ≡ length (accesses_of seen)
merge_length size seen merged merge known =
    let merged_known : AreKnown size.threads (history_of merged) = λ front e back is access.
    let t = thread_of e in
    let log : log_of size t (history_of merged) ≡ log_of size t front ++ stamped size front e ∷ logged size t (front ++ e ∷ []) back =
    ap (log_of size t) is ∙ log_at_own size t front e back (own_of e access) in
    known_of size seen known t (log_of size t front) (stamped size front e) (logged size t (front ++ e ∷ []) back) (sym (merge t) ∙ log) in
    let same : (t : ℕ) → length (log_of size t (history_of merged)) ≡ length (log_of size t seen) = λ t. ap length (merge t) in
    let sums : sum_by (λ t. length (log_of size t (history_of merged))) (range_with_len 0 size.threads) ≡ sum_by (λ t. length (log_of size t seen)) (range_with_len 0 size.threads) =
    ap (λ h. sum_by h (range_with_len 0 size.threads)) (λ i t. same t i) in
    sym (all_accesses merged) ∙ sym (sum_logs size size.threads [] (history_of merged) merged_known) ∙ sums ∙ sum_logs size size.threads [] seen known
