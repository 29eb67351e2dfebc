-- Accesses that are taken one after another from the logs of a history: while some is left, one may be taken, and once none is left they are a merge.
use Rattle.std.proofs.Common.{◌≡◌, ◌≢◌, ◌⊎◌, ℕ, ◌+◌, ◌<◌, ◌≤◌, ◌==◌, ◌&&◌, Bool, true, false, List, [], ◌∷◌, ◌++◌, length, refl, sym, ap, subst, ◌∙◌, inl, inr, append-nil, append_assoc, length-append, arith, eq-eqb}
use Rattle.std.specs.List.{count_by, filter}
use Rattle.std.proofs.lemmas.Bool.{and_parts, cases_Bool, cases_lt, eqb-true, ne_eqb}
use Rattle.std.proofs.lemmas.List.Elements.{filter-append}
use Rattle.llsc_base.specs.Sizes.{Numbers}
use Rattle.llsc_base.specs.Memory.{class_of, row_of}
use Rattle.llsc_base.specs.declared.access.Place.{Place}
use Rattle.history.specs.Accesses.{entry_of}
use Rattle.history.specs.Cause.{is_write, writes_in_class}
use Rattle.history.specs.Entry.{is_access, is_in_class, thread_of}
use Rattle.history.specs.declared.entry.Access.{Access}
use Rattle.history.specs.declared.entry.Deed.{Deed}
use Rattle.history.specs.declared.entry.Deed.TheVariants as deed
use Rattle.history.specs.declared.entry.Entry.{Entry}
use Rattle.history.specs.declared.entry.Entry.TheVariants.{Read, Write, Fail, Clear, Watch, Miss, Begin, End, Start}
use Rattle.run_merge.specs.Logs.{access_of, is_own, log_of, logged, stamp_behind, stamped}
use Rattle.run_merge.specs.Taking.{IsReadAt, IsTakenSoFar, MayBeTaken, reads, row_at, writes}
use Rattle.run_merge.specs.declared.logs.Stamped.{Stamped}
use Rattle.guest_calls.proofs.Splits.{at_it, before_it, behind_it, meets}
use Rattle.run_merge.proofs.Parts.{filter_no, filter_yes, front_in, next_in, same_front, split_filter}
use Rattle.run_merge.proofs.Logged.{LoggedAt, log_at, log_more, log_same, logged-append, split_logged}
use Rattle.run_merge.proofs.Twins.{count_writes, own_of, same_class, same_entry, twin, write_stamp, writes_front}

-- ---- an access and its entry

-- what is recorded of an entry, as an entry again
again : (e : Entry) → is_access e ≡ true → access_of (entry_of (access_of e)) ≡ access_of e
again (Read t p v true) access = refl
again (Read t p v false) access = refl
again (Write t p v true) access = refl
again (Write t p v false) access = refl
again (Fail t p v c) access = refl
again (Clear t) access = refl
again (Watch t p) access = cc
again (Miss t p) access = cc
again (Begin t p) access = cc
again (End t p) access = cc
again (Start t child entry arg) access = cc

is_one : (access : Access) → is_access (entry_of access) ≡ true
is_one access = by access.deed
  where
    by : (made : Deed) → is_access (entry_of (record access { deed = made })) ≡ true
    by deed.Load = refl
    by deed.LoadEx = refl
    by deed.Store = refl
    by deed.StoreEx = refl
    by deed.StoreFail = refl
    by deed.Clear = refl

thread_again : (access : Access) → thread_of (entry_of access) ≡ access.thread
thread_again access = by access.deed
  where
    by : (made : Deed) → thread_of (entry_of (record access { deed = made })) ≡ access.thread
    by deed.Load = refl
    by deed.LoadEx = refl
    by deed.Store = refl
    by deed.StoreEx = refl
    by deed.StoreFail = refl
    by deed.Clear = refl

thread_kept : (e : Entry) → is_access e ≡ true → (access_of e).thread ≡ thread_of e
thread_kept (Read t p v true) access = refl
thread_kept (Read t p v false) access = refl
thread_kept (Write t p v true) access = refl
thread_kept (Write t p v false) access = refl
thread_kept (Fail t p v c) access = refl
thread_kept (Clear t) access = refl
thread_kept (Watch t p) access = cc
thread_kept (Miss t p) access = cc
thread_kept (Begin t p) access = cc
thread_kept (End t p) access = cc
thread_kept (Start t child entry arg) access = cc

-- ---- counts

more_writes : (size : Numbers) (row : ℕ) (early : List Entry) (e : Entry) (later : List Entry) → is_write size row e ≡ true
    → writes_in_class size row early < writes_in_class size row (early ++ e ∷ later)
more_writes size row early e later is =
    let p = is_write size row in
    let all : filter p (early ++ e ∷ later) ≡ filter p early ++ e ∷ filter p later =
    filter-append p early (e ∷ later) ∙ ap (λ l. filter p early ++ l) (filter_yes p e later is) in
    let long : length (filter p (early ++ e ∷ later)) ≡ length (filter p early) + length (e ∷ filter p later) = ap length all ∙ length-append (filter p early) (e ∷ filter p later) in
    omega (arith, long, count_writes size row early, count_writes size row (early ++ e ∷ later))

-- an access is a read, a write, or neither
data Kind (e : Entry) : Type 0 where
  a_read : (thread : ℕ) (place : Place) (value : ℕ) (ex : Bool) → e ≡ Read thread place value ex → Kind e
  a_write : (thread : ℕ) (place : Place) (value : ℕ) (ex : Bool) → e ≡ Write thread place value ex → Kind e
  neither : reads (access_of e).deed ≡ false → writes (access_of e).deed ≡ false → Kind e

kind : (e : Entry) → Kind e
kind (Read t p v x) = a_read t p v x refl
kind (Write t p v x) = a_write t p v x refl
kind (Fail t p v c) = neither refl refl
kind (Clear t) = neither refl refl
kind (Watch t p) = neither refl refl
kind (Miss t p) = neither refl refl
kind (Begin t p) = neither refl refl
kind (End t p) = neither refl refl
kind (Start t child entry arg) = neither refl refl

reads_is : (t : ℕ) (p : Place) (v : ℕ) (x : Bool) → (reads (access_of (Read t p v x)).deed ≡ true) × (writes (access_of (Read t p v x)).deed ≡ false) × ((access_of (Read t p v x)).place ≡ p)
reads_is t p v true = (refl, refl, refl)
reads_is t p v false = (refl, refl, refl)

writes_is : (t : ℕ) (p : Place) (v : ℕ) (x : Bool) → (writes (access_of (Write t p v x)).deed ≡ true) × (reads (access_of (Write t p v x)).deed ≡ false) × ((access_of (Write t p v x)).place ≡ p)
writes_is t p v true = (refl, refl, refl)
writes_is t p v false = (refl, refl, refl)

false_true : {A : Type 0} → false ≡ true → A
false_true e = absurd (let f : ⊥ = cc in f)

read_stamp : (size : Numbers) (row : ℕ) (past : List Entry) (e : Entry) → reads (access_of e).deed ≡ true → is_in_class size row (access_of e).place ≡ true
    → stamp_behind size past e ≡ writes_in_class size row past
read_stamp size row past (Read t p v true) read near = ap (λ f. count_by f past) (same_class size row p near)
read_stamp size row past (Read t p v false) read near = ap (λ f. count_by f past) (same_class size row p near)
read_stamp size row past (Write t p v true) read near = cc
read_stamp size row past (Write t p v false) read near = cc
read_stamp size row past (Fail t p v c) read near = cc
read_stamp size row past (Clear t) read near = cc
read_stamp size row past (Watch t p) read near = cc
read_stamp size row past (Miss t p) read near = cc
read_stamp size row past (Begin t p) read near = cc
read_stamp size row past (End t p) read near = cc
read_stamp size row past (Start t child entry arg) read near = cc

read_or_write : (size : Numbers) (row : ℕ) (e : Entry) → reads (access_of e).deed ≡ true → is_write size row e ≡ true → ⊥
read_or_write size row (Write t p v true) read is = cc
read_or_write size row (Write t p v false) read is = cc
read_or_write size row (Read t p v x) read is = cc
read_or_write size row (Fail t p v c) read is = cc
read_or_write size row (Clear t) read is = cc
read_or_write size row (Watch t p) read is = cc
read_or_write size row (Miss t p) read is = cc
read_or_write size row (Begin t p) read is = cc
read_or_write size row (End t p) read is = cc
read_or_write size row (Start t child entry arg) read is = cc

-- ---- on the way

module _ (size : Numbers) (history taken : List Entry) (way : IsTakenSoFar size history taken) where
  -- all accesses of these entries are taken
  abbrev pub AllTaken : List Entry → Type 0
  AllTaken early = (u : ℕ) → length (log_of size u early) ≤ length (log_of size u taken)

  -- the first that isn't
  pub record FirstLeft : Type 0 where
    pub early : List Entry
    pub entry : Entry
    pub later : List Entry
    pub are : history ≡ early ++ entry ∷ later
    pub access : is_access entry ≡ true
    pub all : AllTaken early
    pub here : length (log_of size (thread_of entry) early) ≡ length (log_of size (thread_of entry) taken)

  not_own : (u : ℕ) (e : Entry) → is_access e ≡ false → is_own u e ≡ false
  not_own u e no_access = ap (λ b. b && (thread_of e == u)) no_access

  passed_mark : (early : List Entry) (e : Entry) → is_access e ≡ false → AllTaken early → AllTaken (early ++ e ∷ [])
  passed_mark early e no_access all u = subst (λ l. length l ≤ length (log_of size u taken)) (sym (log_same size u early e (not_own u e no_access))) (all u)

  passed : (early : List Entry) (e : Entry) → length (log_of size (thread_of e) early) < length (log_of size (thread_of e) taken) → AllTaken early → AllTaken (early ++ e ∷ [])
  passed early e less all u = elim (cases_Bool (is_own u e)) [
    | inl own ↦
        let same : thread_of e ≡ u = eqb-true (thread_of e) u (and_parts (is_access e) (thread_of e == u) own).1 in
        let long : length (log_of size u (early ++ e ∷ [])) ≡ length (log_of size u early) + 1 = ap length (log_more size u early e own) ∙ length-append (log_of size u early) (stamped size early e ∷ []) in
        let short : length (log_of size u early) < length (log_of size u taken) = subst (λ t. length (log_of size t early) < length (log_of size t taken)) same less in
        omega (arith, long, short)
    | inr other ↦ subst (λ l. length l ≤ length (log_of size u taken)) (sym (log_same size u early e other)) (all u)
  ]

  pub find : (early rest : List Entry) → history ≡ early ++ rest → AllTaken early → AllTaken history ⊎ FirstLeft
  find early [] are all = inl (subst AllTaken (sym (are ∙ append-nil early)) all)
  find early (e ∷ rest) are all = elim (cases_Bool (is_access e)) [
    | inl access ↦ elim (cases_lt (length (log_of size (thread_of e) early)) (length (log_of size (thread_of e) taken))) [
      | inl less ↦ find (early ++ e ∷ []) rest (are ∙ sym (append_assoc early (e ∷ []) rest)) (passed early e less all)
      | inr past ↦ inr (record {
        early = early;
        entry = e;
        later = rest;
        are = are;
        access = access;
        all = all;
        here = omega (arith, past, all (thread_of e));
      })
    ]
    | inr no_access ↦ find (early ++ e ∷ []) rest (are ∙ sym (append_assoc early (e ∷ []) rest)) (passed_mark early e no_access all)
  ]

  -- ---- the first that isn't taken may be taken

  module _ (first : FirstLeft) where
    own_next : log_of size (thread_of first.entry) history
        ≡ log_of size (thread_of first.entry) first.early ++ stamped size first.early first.entry ∷ logged size (thread_of first.entry) (first.early ++ first.entry ∷ []) first.later
    own_next = ap (log_of size (thread_of first.entry)) first.are ∙ log_at size (thread_of first.entry) first.early first.entry first.later (own_of first.entry first.access)

    -- its thread's others are those that were taken
    own_logs : log_of size (thread_of first.entry) first.early ≡ log_of size (thread_of first.entry) taken
    own_logs =
        let t = thread_of first.entry in
        same_front (log_of size t first.early) (log_of size t taken) (stamped size first.early first.entry ∷ logged size t (first.early ++ first.entry ∷ []) first.later) (way.fronts t).0
        (sym own_next ∙ (way.fronts t).1) first.here

    early_front : (u : ℕ) → (more : List Stamped) × (log_of size u taken ≡ log_of size u first.early ++ more)
    early_front u =
        let whole : log_of size u history ≡ log_of size u first.early ++ logged size u first.early (first.entry ∷ first.later) =
        ap (log_of size u) first.are ∙ logged-append size u [] first.early (first.entry ∷ first.later) in
        front_in (log_of size u first.early) (log_of size u taken) (logged size u first.early (first.entry ∷ first.later)) (way.fronts u).0
        (sym whole ∙ (way.fronts u).1) (first.all u)

    -- what was written before it is taken
    no_less : (row : ℕ) → writes_in_class size row first.early ≤ writes_in_class size row taken
    no_less row =
        let p = is_write size row in
        let front = writes_front size taken first.early (λ u. (early_front u).0) (λ u. (early_front u).1) row in
        let long : length (filter p taken) ≡ length (filter p first.early) + length front.0 = ap length front.1 ∙ length-append (filter p first.early) front.0 in
        omega (arith, long, count_writes size row first.early, count_writes size row taken)

    -- where it is a read, its class has not moved on
    read_no_more : (row : ℕ) → reads (access_of first.entry).deed ≡ true → row_of size.granule (access_of first.entry).place ≡ row
        → stamp_behind size first.early first.entry ≡ writes_in_class size row first.early → writes_in_class size row taken ≤ writes_in_class size row first.early
    read_no_more row read at stamp = elim (cases_lt (writes_in_class size row first.early) (writes_in_class size row taken)) [
      | inl less ↦
          let t = thread_of first.entry in
          let one = stamped size first.early first.entry in
          let behind : one.stamp < writes_in_class size (row_at size one) taken =
          subst (λ r. one.stamp < writes_in_class size r taken) (sym at) (subst (λ n. n < writes_in_class size row taken) (sym stamp) less) in
          let was = way.loads t (log_of size t first.early) one (read, (logged size t (first.early ++ first.entry ∷ []) first.later, own_next)) behind in
          absurd (omega (arith, was, first.here))
      | inr past ↦ past
    ]

    -- nor where it is a write
    write_no_more : (row : ℕ) → is_write size row first.entry ≡ true → writes_in_class size row taken ≤ writes_in_class size row first.early
    write_no_more row is = elim (cases_lt (writes_in_class size row first.early) (writes_in_class size row taken)) [
      | inl less ↦ absurd (too_many less)
      | inr past ↦ past
    ]
      where
        too_many : writes_in_class size row first.early < writes_in_class size row taken → ⊥
        too_many less =
            let p = is_write size row in
            let e = first.entry in
            let t = thread_of e in
            let front = writes_front size history taken (λ u. (way.fronts u).0) (λ u. (way.fronts u).1) row in
            let ours : filter p history ≡ filter p first.early ++ e ∷ filter p first.later =
            ap (filter p) first.are ∙ filter-append p first.early (e ∷ first.later) ∙ ap (λ l. filter p first.early ++ l) (filter_yes p e first.later is) in
            let short : length (filter p first.early) < length (filter p taken) = omega (arith, less, count_writes size row first.early, count_writes size row taken) in
            let next = next_in (filter p first.early) (filter p taken) e (filter p first.later) front.0 (sym ours ∙ front.1) short in
            let at = split_filter p taken (filter p first.early) e next.0 next.1 in
            let found = twin size history taken (λ u. (way.fronts u).0) (λ u. (way.fronts u).1) at.before e at.after at.are first.access in
            let access : is_access found.entry ≡ true = (and_parts (is_access found.entry) (thread_of found.entry == t) found.own).0 in
            let same : found.entry ≡ e = same_entry size row found.entry e is access found.same in
            let stamps : stamp_behind size found.early e ≡ stamp_behind size at.before e = subst (λ x. stamp_behind size found.early x ≡ stamp_behind size at.before e) same found.stamp in
            let counts : writes_in_class size row found.early ≡ writes_in_class size row first.early =
            sym (write_stamp size row found.early e is) ∙ stamps ∙ write_stamp size row at.before e is ∙ count_writes size row at.before ∙ ap length at.early ∙ sym (count_writes size row first.early) in
            let splits : found.early ++ e ∷ found.later ≡ first.early ++ e ∷ first.later = ap (λ x. found.early ++ x ∷ found.later) (sym same) ∙ sym found.are ∙ first.are in
            let shorter : length (log_of size t at.before) < length (log_of size t taken) =
            let whole : log_of size t taken ≡ log_of size t at.before ++ stamped size at.before e ∷ logged size t (at.before ++ e ∷ []) at.after =
            ap (log_of size t) at.are ∙ log_at size t at.before e at.after (own_of e first.access) in
            let long : length (log_of size t taken) ≡ length (log_of size t at.before) + length (stamped size at.before e ∷ logged size t (at.before ++ e ∷ []) at.after) =
            ap length whole ∙ length-append (log_of size t at.before) (stamped size at.before e ∷ logged size t (at.before ++ e ∷ []) at.after) in
            omega (arith, long) in
            elim (meets found.early e found.later first.early e first.later splits) [
              | at_it fronts entries ↦
                  let logs : length (log_of size t at.before) ≡ length (log_of size t first.early) = ap length (sym found.logs) ∙ ap (λ l. length (log_of size t l)) fronts in
                  omega (arith, logs, shorter, first.here)
              | before_it middle others backs ↦
                  let more : writes_in_class size row found.early < writes_in_class size row first.early =
                  subst (λ l. writes_in_class size row found.early < writes_in_class size row l) (sym others) (more_writes size row found.early e middle is) in
                  omega (arith, more, counts)
              | behind_it middle fronts rests ↦
                  let more : writes_in_class size row first.early < writes_in_class size row found.early =
                  subst (λ l. writes_in_class size row first.early < writes_in_class size row l) (sym fronts) (more_writes size row first.early e middle is) in
                  omega (arith, more, counts)
            ]

    -- its next access, as its log has it
    next_is : log_of size (thread_of first.entry) history
        ≡ log_of size (thread_of first.entry) taken ++ stamped size first.early first.entry ∷ logged size (thread_of first.entry) (first.early ++ first.entry ∷ []) first.later
    next_is = own_next ∙ ap (λ l. l ++ stamped size first.early first.entry ∷ logged size (thread_of first.entry) (first.early ++ first.entry ∷ []) first.later) own_logs

    -- the reads with its stamp stand before it
    reads_before : (row : ℕ) → is_write size row first.entry ≡ true → (u : ℕ) (before : List Stamped) (one : Stamped) → IsReadAt size history u before one
        → is_in_class size row one.access.place ≡ true → one.stamp ≡ writes_in_class size row first.early → length before < length (log_of size u taken)
    reads_before row is u before one at near stamp =
        let e = first.entry in
        let found = split_logged size u [] history before one at.1.0 at.1.1 in
        let access : is_access found.entry ≡ true = (and_parts (is_access found.entry) (thread_of found.entry == u) found.own).0 in
        let read : reads (access_of found.entry).deed ≡ true = subst (λ (x : Stamped). reads x.access.deed ≡ true) found.here at.0 in
        let place : is_in_class size row (access_of found.entry).place ≡ true = subst (λ (x : Stamped). is_in_class size row x.access.place ≡ true) found.here near in
        let counts : writes_in_class size row found.before ≡ writes_in_class size row first.early =
        sym (read_stamp size row found.before found.entry read place) ∙ ap (λ (x : Stamped). x.stamp) (sym found.here) ∙ stamp in
        elim (meets found.before found.entry found.after first.early e first.later (sym found.are ∙ first.are)) [
          | at_it fronts entries ↦ absurd (read_or_write size row found.entry read (subst (λ x. is_write size row x ≡ true) (sym entries) is))
          | before_it middle others backs ↦
              let log : log_of size u first.early ≡ log_of size u found.before ++ stamped size found.before found.entry ∷ logged size u (found.before ++ found.entry ∷ []) middle =
              ap (log_of size u) others ∙ log_at size u found.before found.entry middle found.own in
              let long : length (log_of size u first.early) ≡ length (log_of size u found.before) + length (stamped size found.before found.entry ∷ logged size u (found.before ++ found.entry ∷ []) middle) =
              ap length log ∙ length-append (log_of size u found.before) (stamped size found.before found.entry ∷ logged size u (found.before ++ found.entry ∷ []) middle) in
              omega (arith, long, first.all u, ap length found.early)
          | behind_it middle fronts rests ↦
              let more : writes_in_class size row first.early < writes_in_class size row found.before =
              subst (λ l. writes_in_class size row first.early < writes_in_class size row l) (sym fronts) (more_writes size row first.early e middle is) in
              absurd (omega (arith, more, counts))
        ]

    taken_by : (e : Entry) → first.entry ≡ e → Kind e → MayBeTaken size history taken (thread_of first.entry) (stamped size first.early first.entry)
    taken_by e is (a_read t p v x is_read) = record {
      after = logged size (thread_of first.entry) (first.early ++ first.entry ∷ []) first.later;
      is_next = next_is;
      read = λ _. read_count t p v x (is ∙ is_read);
      written = λ w. false_true (sym (reads_is t p v x).1 ∙ subst (λ y. writes (access_of y).deed ≡ true) (is ∙ is_read) w);
      loads = λ w. false_true (sym (reads_is t p v x).1 ∙ subst (λ y. writes (access_of y).deed ≡ true) (is ∙ is_read) w);
    }
      where
        read_count : (t : ℕ) (p : Place) (v : ℕ) (x : Bool) → first.entry ≡ Read t p v x
            → writes_in_class size (row_at size (stamped size first.early first.entry)) taken ≡ stamp_behind size first.early first.entry
        read_count t p v x same =
            let row = row_of size.granule p in
            let place : row_of size.granule (access_of first.entry).place ≡ row = ap (λ y. row_of size.granule (access_of y).place) same ∙ ap (row_of size.granule) (reads_is t p v x).2 in
            let stamp : stamp_behind size first.early first.entry ≡ writes_in_class size row first.early = ap (stamp_behind size first.early) same in
            let read : reads (access_of first.entry).deed ≡ true = subst (λ y. reads (access_of y).deed ≡ true) (sym same) (reads_is t p v x).0 in
            ap (λ r. writes_in_class size r taken) place ∙ omega (arith, no_less row, read_no_more row read place stamp) ∙ sym stamp
    taken_by e is (a_write t p v x is_write_of) = record {
      after = logged size (thread_of first.entry) (first.early ++ first.entry ∷ []) first.later;
      is_next = next_is;
      read = λ r. false_true (sym (writes_is t p v x).1 ∙ subst (λ y. reads (access_of y).deed ≡ true) (is ∙ is_write_of) r);
      written = λ _. write_count t p v x (is ∙ is_write_of);
      loads = λ _. write_loads t p v x (is ∙ is_write_of);
    }
      where
        here : (t : ℕ) (p : Place) (v : ℕ) (x : Bool) → first.entry ≡ Write t p v x → is_write size (row_of size.granule p) first.entry ≡ true
        here t p v x same = ap (is_write size (row_of size.granule p)) same ∙ eq-eqb (class_of size.classes (row_of size.granule p)) (class_of size.classes (row_of size.granule p)) refl

        place_is : (t : ℕ) (p : Place) (v : ℕ) (x : Bool) → first.entry ≡ Write t p v x → row_at size (stamped size first.early first.entry) ≡ row_of size.granule p
        place_is t p v x same = ap (λ y. row_of size.granule (access_of y).place) same ∙ ap (row_of size.granule) (writes_is t p v x).2

        write_count : (t : ℕ) (p : Place) (v : ℕ) (x : Bool) → first.entry ≡ Write t p v x
            → writes_in_class size (row_at size (stamped size first.early first.entry)) taken ≡ stamp_behind size first.early first.entry
        write_count t p v x same =
            let row = row_of size.granule p in
            let stamp : stamp_behind size first.early first.entry ≡ writes_in_class size row first.early = ap (stamp_behind size first.early) same in
            ap (λ r. writes_in_class size r taken) (place_is t p v x same) ∙ omega (arith, no_less row, write_no_more row (here t p v x same)) ∙ sym stamp

        write_loads : (t : ℕ) (p : Place) (v : ℕ) (x : Bool) → first.entry ≡ Write t p v x → (u : ℕ) (before : List Stamped) (one : Stamped) → IsReadAt size history u before one
            → is_in_class size (row_at size (stamped size first.early first.entry)) one.access.place ≡ true → one.stamp ≡ stamp_behind size first.early first.entry
            → length before < length (log_of size u taken)
        write_loads t p v x same u before one at near stamp =
            let row = row_of size.granule p in
            let stamps : stamp_behind size first.early first.entry ≡ writes_in_class size row first.early = ap (stamp_behind size first.early) same in
            reads_before row (here t p v x same) u before one at (subst (λ r. is_in_class size r one.access.place ≡ true) (place_is t p v x same) near) (stamp ∙ stamps)
    taken_by e is (neither no_read no_write) = record {
      after = logged size (thread_of first.entry) (first.early ++ first.entry ∷ []) first.later;
      is_next = next_is;
      read = λ r. false_true (sym no_read ∙ subst (λ y. reads (access_of y).deed ≡ true) is r);
      written = λ w. false_true (sym no_write ∙ subst (λ y. writes (access_of y).deed ≡ true) is w);
      loads = λ w. false_true (sym no_write ∙ subst (λ y. writes (access_of y).deed ≡ true) is w);
    }

    pub may_be_taken : MayBeTaken size history taken (thread_of first.entry) (stamped size first.early first.entry)
    may_be_taken = taken_by first.entry refl (kind first.entry)

  -- all is taken, or some access may be
  pub never_stuck : AllTaken history ⊎ ((t : ℕ) × (next : Stamped) × MayBeTaken size history taken t next)
  never_stuck = elim (find [] history refl (λ u. omega arith)) [
    | inl all ↦ inl all
    | inr first ↦ inr (thread_of first.entry, stamped size first.early first.entry, may_be_taken first)
  ]

-- ---- one access more

stamp_now : (size : Numbers) (past taken : List Entry) (e : Entry)
    → (reads (access_of e).deed ≡ true → writes_in_class size (row_of size.granule (access_of e).place) taken ≡ stamp_behind size past e)
    → (writes (access_of e).deed ≡ true → writes_in_class size (row_of size.granule (access_of e).place) taken ≡ stamp_behind size past e)
    → stamp_behind size taken (entry_of (access_of e)) ≡ stamp_behind size past e
stamp_now size past taken (Read t p v true) read written = read refl
stamp_now size past taken (Read t p v false) read written = read refl
stamp_now size past taken (Write t p v true) read written = written refl
stamp_now size past taken (Write t p v false) read written = written refl
stamp_now size past taken (Fail t p v c) read written = refl
stamp_now size past taken (Clear t) read written = refl
stamp_now size past taken (Watch t p) read written = refl
stamp_now size past taken (Miss t p) read written = refl
stamp_now size past taken (Begin t p) read written = refl
stamp_now size past taken (End t p) read written = refl
stamp_now size past taken (Start t child entry arg) read written = refl

stamped_of : (one other : Stamped) → one.access ≡ other.access → one.stamp ≡ other.stamp → one ≡ other
stamped_of one other accesses stamps = ap (λ a. made a one.stamp) accesses ∙ ap (made other.access) stamps
  where
    made : Access → ℕ → Stamped
    made access stamp = record { access = access; stamp = stamp }

-- where an access is a write of a class
record WritesTo (size : Numbers) (row : ℕ) (access : Access) : Type 0 where
  stores : writes access.deed ≡ true
  near : is_in_class size row access.place ≡ true

writes_to : (size : Numbers) (row : ℕ) (access : Access) → is_write size row (entry_of access) ≡ true → WritesTo size row access
writes_to size row access is = by access.deed is
  where
    by : (made : Deed) → is_write size row (entry_of (record access { deed = made })) ≡ true → WritesTo size row (record access { deed = made })
    by deed.Store is = record { stores = refl; near = is }
    by deed.StoreEx is = record { stores = refl; near = is }
    by deed.Load is = false_true is
    by deed.LoadEx is = false_true is
    by deed.StoreFail is = false_true is
    by deed.Clear is = false_true is

count_more : (size : Numbers) (row : ℕ) (taken : List Entry) (e : Entry) → writes_in_class size row (taken ++ e ∷ []) ≤ writes_in_class size row taken + 1
count_more size row taken e =
    let p = is_write size row in
    let long : length (filter p (taken ++ e ∷ [])) ≡ length (filter p taken) + length (filter p (e ∷ [])) = ap length (filter-append p taken (e ∷ [])) ∙ length-append (filter p taken) (filter p (e ∷ [])) in
    omega (arith, long, one_kept p e, count_writes size row taken, count_writes size row (taken ++ e ∷ []))
  where
    one_kept : (p : Entry → Bool) (e : Entry) → length (filter p (e ∷ [])) ≤ 1
    one_kept p e = elim (cases_Bool (p e)) [
      | inl is ↦ subst (λ (l : List Entry). length l ≤ 1) (sym (filter_yes p e [] is)) (omega arith)
      | inr isnt ↦ subst (λ (l : List Entry). length l ≤ 1) (sym (filter_no p e [] isnt)) (omega arith)
    ]

pub count_same : (size : Numbers) (row : ℕ) (taken : List Entry) (e : Entry) → is_write size row e ≡ false → writes_in_class size row (taken ++ e ∷ []) ≡ writes_in_class size row taken
count_same size row taken e isnt =
    let p = is_write size row in
    count_writes size row (taken ++ e ∷ [])
    ∙ ap length (filter-append p taken (e ∷ []) ∙ ap (λ l. filter p taken ++ l) (filter_no p e [] isnt) ∙ append-nil (filter p taken))
    ∙ sym (count_writes size row taken)

class_turned : (size : Numbers) (one other : Place) → is_in_class size (row_of size.granule one) other ≡ true → is_in_class size (row_of size.granule other) one ≡ true
class_turned size one other near =
    eq-eqb (class_of size.classes (row_of size.granule one)) (class_of size.classes (row_of size.granule other))
    (sym (eqb-true (class_of size.classes (row_of size.granule other)) (class_of size.classes (row_of size.granule one)) near))

module _ (size : Numbers) (history taken : List Entry) (way : IsTakenSoFar size history taken) (t : ℕ) (next : Stamped) (may : MayBeTaken size history taken t next) where
  abbrev pub new : List Entry
  new = taken ++ entry_of next.access ∷ []

  found : LoggedAt size t [] history (log_of size t taken) next may.after
  found = split_logged size t [] history (log_of size t taken) next may.after may.is_next

  found_access : is_access found.entry ≡ true
  found_access = (and_parts (is_access found.entry) (thread_of found.entry == t) found.own).0

  access_is : next.access ≡ access_of found.entry
  access_is = ap (λ (x : Stamped). x.access) found.here

  thread_is : thread_of (entry_of next.access) ≡ t
  thread_is =
      thread_again next.access ∙ ap (λ (a : Access). a.thread) access_is ∙ thread_kept found.entry found_access
      ∙ eqb-true (thread_of found.entry) t (and_parts (is_access found.entry) (thread_of found.entry == t) found.own).1

  own_next_one : is_own t (entry_of next.access) ≡ true
  own_next_one = subst (λ u. is_own u (entry_of next.access) ≡ true) thread_is (own_of (entry_of next.access) (is_one next.access))

  stamped_now : stamped size taken (entry_of next.access) ≡ next
  stamped_now =
      let accesses : access_of (entry_of next.access) ≡ next.access =
      ap (λ a. access_of (entry_of a)) access_is ∙ again found.entry found_access ∙ sym access_is in
      let stamps : stamp_behind size taken (entry_of next.access) ≡ next.stamp =
      ap (λ a. stamp_behind size taken (entry_of a)) access_is
      ∙ stamp_now size found.before taken found.entry
      (λ r. ap (λ (x : Stamped). writes_in_class size (row_at size x) taken) (sym found.here) ∙ may.read (subst (λ (x : Stamped). reads x.access.deed ≡ true) (sym found.here) r) ∙ ap (λ (x : Stamped). x.stamp) found.here)
      (λ w. ap (λ (x : Stamped). writes_in_class size (row_at size x) taken) (sym found.here) ∙ may.written (subst (λ (x : Stamped). writes x.access.deed ≡ true) (sym found.here) w) ∙ ap (λ (x : Stamped). x.stamp) found.here)
      ∙ ap (λ (x : Stamped). x.stamp) (sym found.here) in
      stamped_of (stamped size taken (entry_of next.access)) next accesses stamps

  -- its log has it, and the others' logs are as they were
  pub new_log : log_of size t new ≡ log_of size t taken ++ next ∷ []
  new_log = log_more size t taken (entry_of next.access) own_next_one ∙ ap (λ x. log_of size t taken ++ x ∷ []) stamped_now

  pub other_log : (u : ℕ) → u ≢ t → log_of size u new ≡ log_of size u taken
  other_log u apart =
      log_same size u taken (entry_of next.access)
      (ap (λ b. is_access (entry_of next.access) && b) (ne_eqb (thread_of (entry_of next.access)) u (λ same. apart (sym same ∙ thread_is))) ∙ and_false (is_access (entry_of next.access)))
    where
      and_false : (b : Bool) → (b && false) ≡ false
      and_false true = refl
      and_false false = refl

  new_front : (u : ℕ) → (left : List Stamped) × (log_of size u history ≡ log_of size u new ++ left)
  new_front u = elim (cases_Bool (is_own u (entry_of next.access))) [
    | inl own ↦
        let same : t ≡ u = sym thread_is ∙ eqb-true (thread_of (entry_of next.access)) u (and_parts (is_access (entry_of next.access)) (thread_of (entry_of next.access) == u) own).1 in
        let log : log_of size u new ≡ log_of size u taken ++ next ∷ [] =
        log_more size u taken (entry_of next.access) own ∙ ap (λ x. log_of size u taken ++ x ∷ []) stamped_now in
        let whole : log_of size u history ≡ log_of size u taken ++ next ∷ may.after = subst (λ v. log_of size v history ≡ log_of size v taken ++ next ∷ may.after) same may.is_next in
        (may.after, whole ∙ sym (append_assoc (log_of size u taken) (next ∷ []) may.after) ∙ ap (λ l. l ++ may.after) (sym log))
    | inr other ↦
        let was = way.fronts u in (was.0, was.1 ∙ ap (λ l. l ++ was.0) (sym (log_same size u taken (entry_of next.access) other)))
  ]

  no_shorter : (u : ℕ) → length (log_of size u taken) ≤ length (log_of size u new)
  no_shorter u =
      let long : length (log_of size u new) ≡ length (log_of size u taken) + length (logged size u taken (entry_of next.access ∷ [])) =
      ap length (logged-append size u [] taken (entry_of next.access ∷ [])) ∙ length-append (log_of size u taken) (logged size u taken (entry_of next.access ∷ [])) in
      omega (arith, long)

  new_loads : (u : ℕ) (before : List Stamped) (one : Stamped) → IsReadAt size history u before one
      → one.stamp < writes_in_class size (row_at size one) new → length before < length (log_of size u new)
  new_loads u before one at behind = elim (cases_lt one.stamp (writes_in_class size (row_at size one) taken)) [
    | inl less ↦ omega (arith, way.loads u before one at less, no_shorter u)
    | inr past ↦ elim (cases_Bool (is_write size (row_at size one) (entry_of next.access))) [
      | inl written ↦
          let to = writes_to size (row_at size one) next.access written in
          let count : writes_in_class size (row_at size next) taken ≡ writes_in_class size (row_at size one) taken = ap (λ f. count_by f taken) (same_class size (row_at size one) next.access.place to.near) in
          let stamp : one.stamp ≡ next.stamp = omega (arith, past, behind, count_more size (row_at size one) taken (entry_of next.access), count, may.written to.stores) in
          omega (arith, may.loads to.stores u before one at (class_turned size one.access.place next.access.place to.near) stamp, no_shorter u)
      | inr isnt ↦ absurd (omega (arith, past, behind, count_same size (row_at size one) taken (entry_of next.access) isnt))
    ]
  ]

  pub one_taken : IsTakenSoFar size history new
  one_taken = record { fronts = new_front; loads = new_loads }

-- ---- the first, and the last

pub none_taken : (size : Numbers) (history : List Entry) → IsTakenSoFar size history []
none_taken size history = record {
  fronts = λ u. (log_of size u history, refl);
  loads = λ u before one at behind. absurd (omega (arith, behind));
}

-- all of them are a merge
pub all_taken : (size : Numbers) (history taken : List Entry) → IsTakenSoFar size history taken → ((u : ℕ) → length (log_of size u history) ≤ length (log_of size u taken))
    → (u : ℕ) → log_of size u taken ≡ log_of size u history
all_taken size history taken way all u =
    let was = way.fronts u in
    let long : length (log_of size u history) ≡ length (log_of size u taken) + length was.0 = ap length was.1 ∙ length-append (log_of size u taken) was.0 in
    same_front (log_of size u taken) (log_of size u history) was.0 [] (sym was.1 ∙ sym (append-nil (log_of size u history))) (omega (arith, long, all u))
