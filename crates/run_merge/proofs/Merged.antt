-- One access more of a merge.
use Rattle.std.proofs.Common.{◌≡◌, ℕ, ◌+◌, ◌-◌, ◌<◌, ◌≤◌, ◌==◌, ◌&&◌, Bool, true, false, if◌then◌else◌, Some, slice_get, List, [], ◌∷◌, ◌++◌, length, map, set, get_or, refl, sym, ap, subst, ◌∙◌, inl, inr, append-nil, length-append, length-set, arith, eq-eqb, eqb-true, get_or-set_same, get_or-set_other, slice_index}
use Rattle.std.proofs.lemmas.Bool.{and_parts, cases_eq}
use Rattle.std.proofs.lemmas.List.{get_or-append_right, map-append}
use Rattle.std.proofs.lemmas.Option.{slice_get_read}
use Rattle.llsc_base.specs.Sizes.{Numbers}
use Rattle.history.specs.Accesses.{entry_of, history_of}
use Rattle.history.specs.declared.entry.Entry.{Entry}
use Rattle.run_merge.specs.Logs.{access_of, log_of}
use Rattle.history.specs.declared.entry.Entry.TheVariants.{Read, Write, Fail}
use Rattle.run_merge.proofs.Logged.{split_logged}
use Rattle.run_merge.specs.inner.Merging.{AreLogs, IsMerging, tables_of}
use Rattle.run_merge.specs.declared.logs.Log.{Log}
use Rattle.run_merge.specs.inner.Tables.{AreApart, AreTables, Tables, after_taking, class_at, is_open, is_read_at, spot}
use Rattle.run_merge.specs.Taking.{IsTakenSoFar, MayBeTaken, reads, row_at, writes}
use Rattle.run_merge.specs.declared.merging.Merging.{Merging}
use Rattle.run_merge.specs.declared.logs.Stamped.{Stamped}
use Rattle.guest_calls.proofs.Splits.{same_head}
use Rattle.run_merge.proofs.Parts.{same_back}
use Rattle.run_merge.proofs.Tables.{after_neither, after_read, after_write, all_taken, none_left, one_less, read_no_write}
use Rattle.run_merge.proofs.Taking.{new_log, one_taken, other_log}

-- ---- the next access of a thread

pub record NextOf (size : Numbers) (seen taken : List Entry) (t : ℕ) (next : Stamped) : Type 0 where
  pub after : List Stamped
  pub is : log_of size t seen ≡ log_of size t taken ++ next ∷ after

behind : (front left all : List Stamped) (d next : Stamped) → all ≡ front ++ left → length front < length all → next ≡ get_or all (length front) d
    → (after : List Stamped) × (all ≡ front ++ next ∷ after)
behind front [] all d next is short got = absurd (let long : length all ≡ length front = ap length (is ∙ append-nil front) in omega (arith, long, short))
behind front (x ∷ after) all d next is short got =
    let here : get_or all (length front) d ≡ x = ap (λ l. get_or l (length front) d) is ∙ get_or-append_right front (x ∷ after) (length front) (length front) d refl (omega arith) ∙ first (length front - length front) (omega arith) in
    (after, is ∙ ap (λ y. front ++ y ∷ after) (sym (got ∙ here)))
  where
    first : (k : ℕ) → k ≡ 0 → get_or (x ∷ after) k d ≡ x
    first k zero_is = ap (λ n. get_or (x ∷ after) n d) zero_is

pub next_of : (size : Numbers) (seen taken : List Entry) (t at : ℕ) (d next : Stamped) → IsTakenSoFar size seen taken → at ≡ length (log_of size t taken)
    → at < length (log_of size t seen) → next ≡ get_or (log_of size t seen) at d → NextOf size seen taken t next
next_of size seen taken t at d next way is short got =
    let found = behind (log_of size t taken) (way.fronts t).0 (log_of size t seen) d next (way.fronts t).1 (subst (λ n. n < length (log_of size t seen)) is short) (got ∙ ap (λ n. get_or (log_of size t seen) n d) is) in
    record { after = found.0; is = found.1 }

-- ---- may be taken, and is free

false_true : {A : Type 0} → false ≡ true → A
false_true e = absurd (let f : ⊥ = cc in f)

both_true : (a b : Bool) → a ≡ true → b ≡ true → (a && b) ≡ true
both_true true b one other = other
both_true false b one other = cc

module _ (size : Numbers) (seen taken : List Entry) (tables : Tables) (are : AreTables size seen taken tables) (apart : AreApart size seen tables.base) (t : ℕ) (next : Stamped) where
  pub free_may : NextOf size seen taken t next → is_open size tables next ≡ true → MayBeTaken size seen taken t next
  free_may at free = by (reads next.access.deed) (writes next.access.deed) refl refl free
    where
      by : (read written : Bool) → reads next.access.deed ≡ read → writes next.access.deed ≡ written
          → (if read then slice_index tables.count (class_at size next) == next.stamp
          else (if written then (slice_index tables.count (class_at size next) == next.stamp) && (slice_index tables.left (spot size tables.base next) == 0) else true)) ≡ true
          → MayBeTaken size seen taken t next
      by true written r w free = record {
        after = at.after;
        is_next = at.is;
        read = λ _. sym (are.counts (row_at size next)) ∙ eqb-true (slice_index tables.count (class_at size next)) next.stamp free;
        written = λ _. sym (are.counts (row_at size next)) ∙ eqb-true (slice_index tables.count (class_at size next)) next.stamp free;
        loads = λ is. false_true (sym (read_no_write next.access.deed r) ∙ is);
      }
      by false true r w free =
          let parts = and_parts (slice_index tables.count (class_at size next) == next.stamp) (slice_index tables.left (spot size tables.base next) == 0) free in
          let count = sym (are.counts (row_at size next)) ∙ eqb-true (slice_index tables.count (class_at size next)) next.stamp parts.0 in
          record {
            after = at.after;
            is_next = at.is;
            read = λ _. count;
            written = λ _. count;
            loads = λ _. none_left size seen taken tables are apart next (eqb-true (slice_index tables.left (spot size tables.base next)) 0 parts.1);
          }
      by false false r w free = record {
        after = at.after;
        is_next = at.is;
        read = λ is. false_true (sym r ∙ is);
        written = λ is. false_true (sym w ∙ is);
        loads = λ is. false_true (sym w ∙ is);
      }

  pub may_free : MayBeTaken size seen taken t next → is_open size tables next ≡ true
  may_free may = by (reads next.access.deed) (writes next.access.deed) refl refl
    where
      by : (read written : Bool) → reads next.access.deed ≡ read → writes next.access.deed ≡ written
          → (if read then slice_index tables.count (class_at size next) == next.stamp
          else (if written then (slice_index tables.count (class_at size next) == next.stamp) && (slice_index tables.left (spot size tables.base next) == 0) else true)) ≡ true
      by true written r w = eq-eqb (slice_index tables.count (class_at size next)) next.stamp (are.counts (row_at size next) ∙ may.read r)
      by false true r w =
          both_true (slice_index tables.count (class_at size next) == next.stamp) (slice_index tables.left (spot size tables.base next) == 0)
          (eq-eqb (slice_index tables.count (class_at size next)) next.stamp (are.counts (row_at size next) ∙ may.written w))
          (eq-eqb (slice_index tables.left (spot size tables.base next)) 0 (all_taken size seen taken tables are apart t next may.after may.is_next w (may.loads w)))
      by false false r w = refl

-- where the next one isn't free, none may be taken
pub none_may : (size : Numbers) (seen taken : List Entry) (tables : Tables) → AreTables size seen taken tables → AreApart size seen tables.base → (t : ℕ) (next other : Stamped)
    → NextOf size seen taken t next → is_open size tables next ≡ false → MayBeTaken size seen taken t other → ⊥
none_may size seen taken tables are apart t next other at shut may =
    let same : other ≡ next = same_head other next may.after at.after (same_back (log_of size t taken) (other ∷ may.after) (next ∷ at.after) (sym may.is_next ∙ at.is)) in
    let free : is_open size tables next ≡ true = subst (λ x. is_open size tables x ≡ true) same (may_free size seen taken tables are apart t other may) in
    false_true (sym shut ∙ free)

-- ---- the tables of a state that has gone on

after_base : (size : Numbers) (tables : Tables) (one : Stamped) → (after_taking size tables one).base ≡ tables.base
after_base size tables one = by (reads one.access.deed) (writes one.access.deed)
  where
    by : (read written : Bool) → (if read then record tables { left = set tables.left (spot size tables.base one) (slice_index tables.left (spot size tables.base one) - 1) }
        else (if written then record tables { count = set tables.count (class_at size one) (slice_index tables.count (class_at size one) + 1) } else tables)).base ≡ tables.base
    by true written = refl
    by false true = refl
    by false false = refl

after_left : (size : Numbers) (tables : Tables) (one : Stamped) → length (after_taking size tables one).left ≡ length tables.left
after_left size tables one = by (reads one.access.deed) (writes one.access.deed)
  where
    by : (read written : Bool) → length (if read then record tables { left = set tables.left (spot size tables.base one) (slice_index tables.left (spot size tables.base one) - 1) }
        else (if written then record tables { count = set tables.count (class_at size one) (slice_index tables.count (class_at size one) + 1) } else tables)).left ≡ length tables.left
    by true written = length-set tables.left (spot size tables.base one) (slice_index tables.left (spot size tables.base one) - 1)
    by false true = refl
    by false false = refl

after_count : (size : Numbers) (tables : Tables) (one : Stamped) → length (after_taking size tables one).count ≡ length tables.count
after_count size tables one = by (reads one.access.deed) (writes one.access.deed)
  where
    by : (read written : Bool) → length (if read then record tables { left = set tables.left (spot size tables.base one) (slice_index tables.left (spot size tables.base one) - 1) }
        else (if written then record tables { count = set tables.count (class_at size one) (slice_index tables.count (class_at size one) + 1) } else tables)).count ≡ length tables.count
    by true written = refl
    by false true = length-set tables.count (class_at size one) (slice_index tables.count (class_at size one) + 1)
    by false false = refl

-- an access of a log is as a record keeps it
kept : (e : Entry) → access_of (entry_of (access_of e)) ≡ access_of e
kept (Read t p v true) = refl
kept (Read t p v false) = refl
kept (Write t p v true) = refl
kept (Write t p v false) = refl
kept (Fail t p v c) = refl
kept e = refl

module _ (size : Numbers) (seen : List Entry) (old : Merging) (is : IsMerging size seen old) (t : ℕ) (next : Stamped) (may : MayBeTaken size seen (history_of old.out.items) t next)
    (known : t < size.threads) (within : class_at size next < size.classes) where
  abbrev taken : List Entry
  taken = history_of old.out.items

  spot_in : spot size old.base.items next < length old.left.items
  spot_in = is.room.spots t (log_of size t taken) next may.after may.is_next

  pub some_left : reads next.access.deed ≡ true → 1 ≤ slice_index old.left.items (spot size old.base.items next)
  some_left read =
      let i = spot size old.base.items next in
      let here : is_read_at size old.base.items i next ≡ true = both_true (reads next.access.deed) (i == i) read (eq-eqb i i refl) in
      omega (arith, is.tables.lefts i, one_less size seen taken is.way t next may (tables_of old) is.tables is.apart spot_in (subst (λ n. class_at size next < n) (sym is.room.count) within) i here)

  later_tables : AreTables size seen (taken ++ entry_of next.access ∷ []) (after_taking size (tables_of old) next)
  later_tables = by (reads next.access.deed) (writes next.access.deed) refl refl
    where
      by : (read written : Bool) → reads next.access.deed ≡ read → writes next.access.deed ≡ written
          → AreTables size seen (taken ++ entry_of next.access ∷ [])
          (if read then record (tables_of old) { left = set old.left.items (spot size old.base.items next) (slice_index old.left.items (spot size old.base.items next) - 1) }
          else (if written then record (tables_of old) { count = set old.count.items (class_at size next) (slice_index old.count.items (class_at size next) + 1) } else tables_of old))
      by true written r w = after_read size seen taken is.way t next may (tables_of old) is.tables is.apart spot_in (subst (λ n. class_at size next < n) (sym is.room.count) within) r
      by false true r w = after_write size seen taken is.way t next may (tables_of old) is.tables is.apart spot_in (subst (λ n. class_at size next < n) (sym is.room.count) within) r w
      by false false r w = after_neither size seen taken is.way t next may (tables_of old) is.tables is.apart spot_in (subst (λ n. class_at size next < n) (sym is.room.count) within) r w

  pub goes_on : (new : Merging) (at : ℕ) → tables_of new ≡ after_taking size (tables_of old) next → new.out.items ≡ old.out.items ++ next.access ∷ []
      → new.at.items ≡ set old.at.items t (at + 1) → at ≡ slice_index old.at.items t
      → length new.reservations.loads.items ≡ length old.reservations.loads.items → IsMerging size seen new
  goes_on new at tables out ats at_is reservations =
      let grown : history_of new.out.items ≡ taken ++ entry_of next.access ∷ [] = ap history_of out ∙ map-append entry_of old.out.items (next.access ∷ []) in
      let found = split_logged size t [] seen (log_of size t taken) next may.after may.is_next in
      let one : next.access ≡ access_of found.entry = ap (λ (s : Stamped). s.access) found.here in
      let here : next.access ≡ access_of (entry_of next.access) = one ∙ sym (kept found.entry) ∙ ap (λ a. access_of (entry_of a)) (sym one) in
      let base : new.base.items ≡ old.base.items = ap (λ (x : Tables). x.base) tables ∙ after_base size (tables_of old) next in
      let left : length new.left.items ≡ length old.left.items = ap (λ (x : Tables). length x.left) tables ∙ after_left size (tables_of old) next in
      let count : length new.count.items ≡ length old.count.items = ap (λ (x : Tables). length x.count) tables ∙ after_count size (tables_of old) next in
      record {
        form = out ∙ ap (λ l. l ++ next.access ∷ []) is.form ∙ ap (λ a. map access_of taken ++ a ∷ []) here ∙ sym (map-append access_of taken (entry_of next.access ∷ [])) ∙ ap (map access_of) (sym grown);
        way = subst (IsTakenSoFar size seen) (sym grown) (one_taken size seen taken is.way t next may);
        tables = subst (λ l. AreTables size seen l (tables_of new)) (sym grown) (subst (AreTables size seen (taken ++ entry_of next.access ∷ [])) (sym tables) later_tables);
        apart = subst (AreApart size seen) (sym base) is.apart;
        room = record {
          some = is.room.some;
          base = ap length base ∙ is.room.base;
          count = count ∙ is.room.count;
          spots = λ u front one back at_one. omega (arith, left, ap (λ b. spot size b one) base, is.room.spots u front one back at_one);
        };
        threads = ap length ats ∙ length-set old.at.items t (at + 1) ∙ is.threads;
        at = λ u less. elim (cases_eq u t) [
          | inl same ↦
              let here : slice_index new.at.items t ≡ at + 1 = ap (λ l. slice_index l t) ats ∙ get_or-set_same old.at.items t (at + 1) 0 (omega (arith, known, is.threads)) in
              let long : length (log_of size t (taken ++ entry_of next.access ∷ [])) ≡ length (log_of size t taken) + 1 =
              ap length (new_log size seen taken is.way t next may) ∙ length-append (log_of size t taken) (next ∷ []) in
              ap (slice_index new.at.items) same ∙ omega (arith, here, at_is, is.at t known, long) ∙ ap (λ l. length (log_of size t l)) (sym grown) ∙ ap (λ k. length (log_of size k (history_of new.out.items))) (sym same)
          | inr other ↦
              ap (λ l. slice_index l u) ats ∙ get_or-set_other old.at.items t u (at + 1) 0 other ∙ is.at u less
              ∙ ap length (sym (other_log size seen taken is.way t next may u other)) ∙ ap (λ l. length (log_of size u l)) (sym grown)
        ];
        reservations = reservations ∙ is.reservations;
      }

-- ---- the next access, as the code finds it

pub next_found : (size : Numbers) (seen : List Entry) (m : Merging) → IsMerging size seen m → (logs : List Log) → AreLogs size seen logs → (t : ℕ) (log : Log) (ats : List ℕ) (entries : List Stamped) (d : Stamped)
    → t < size.threads → log ≡ get_or logs t log → ats ≡ m.at.items → entries ≡ log.entries.items → get_or ats t 0 < length entries
    → NextOf size seen (history_of m.out.items) t (get_or entries (get_or ats t 0) d)
next_found size seen m is logs are t log ats entries d known got ats_are entries_are short =
    let at_log : slice_get logs t ≡ Some log = slice_get_read logs size.threads t log (sym are.many) known got in
    let whole : entries ≡ log_of size t seen = entries_are ∙ are.each t log at_log in
    let at_is : get_or ats t 0 ≡ length (log_of size t (history_of m.out.items)) = ap (λ l. get_or l t 0) ats_are ∙ is.at t known in
    next_of size seen (history_of m.out.items) t (get_or ats t 0) d (get_or entries (get_or ats t 0) d) is.way at_is
    (subst (λ l. get_or ats t 0 < length l) whole short) (ap (λ l. get_or l (get_or ats t 0) d) whole)
