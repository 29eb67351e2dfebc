-- The same access in two lists: logs that are the same have the same reads and writes.
use Rattle.std.proofs.Common.{◌≡◌, ℕ, ◌==◌, ◌&&◌, Bool, true, false, List, [], ◌∷◌, ◌++◌, length, refl, sym, ap, subst, ◌∙◌, append-nil, append_assoc}
use Rattle.std.specs.List.{count_by, filter}
use Rattle.std.proofs.lemmas.Bool.{and_parts, eqb-true, eq-eqb}
use Rattle.std.proofs.lemmas.List.Elements.{filter-append}
use Rattle.std.proofs.lemmas.List.Sums.{length-filter}
use Rattle.llsc_base.specs.Sizes.{Numbers}
use Rattle.llsc_base.specs.Memory.{class_of, row_of}
use Rattle.llsc_base.specs.declared.access.Place.{Place}
use Rattle.history.specs.Cause.{is_write, writes_in_class}
use Rattle.history.specs.Entry.{is_access, is_in_class, thread_of}
use Rattle.history.specs.declared.entry.Access.{Access}
use Rattle.history.specs.declared.entry.Cause.{Cause}
use Rattle.history.specs.declared.entry.Deed.TheVariants as deed
use Rattle.history.specs.declared.entry.Entry.{Entry}
use Rattle.history.specs.declared.entry.Entry.TheVariants.{Read, Write, Fail, Clear, Watch, Miss, Begin, End, Start}
use Rattle.history.proofs.Ends.{by_ends}
use Rattle.run_merge.specs.Logs.{access_of, is_own, log_of, logged, stamp_behind, stamped}
use Rattle.run_merge.specs.declared.logs.Stamped.{Stamped}
use Rattle.run_merge.proofs.Parts.{filter_yes, same_front, split_filter}
use Rattle.run_merge.proofs.Logged.{log_at, split_logged}

-- ---- which entry an access is

write_fields : (t u : ℕ) (p q : Place) (v w : ℕ) (x : Bool) → t ≡ u → p ≡ q → v ≡ w → Write t p v x ≡ Write u q w x
write_fields t u p q v w x one two three = cc

read_fields : (t u : ℕ) (p q : Place) (v w : ℕ) (x : Bool) → t ≡ u → p ≡ q → v ≡ w → Read t p v x ≡ Read u q w x
read_fields t u p q v w x one two three = cc

pub write_by : (e : Entry) (thread : ℕ) (place : Place) (value : ℕ) (ex : Bool) → is_access e ≡ true → access_of e ≡ access_of (Write thread place value ex)
    → e ≡ Write thread place value ex
write_by (Write t p v true) thread place value true access same =
    write_fields t thread p place v value true (ap (λ (a : Access). a.thread) same) (ap (λ (a : Access). a.place) same) (ap (λ (a : Access). a.value) same)
write_by (Write t p v false) thread place value false access same =
    write_fields t thread p place v value false (ap (λ (a : Access). a.thread) same) (ap (λ (a : Access). a.place) same) (ap (λ (a : Access). a.value) same)
write_by (Write t p v true) thread place value false access same = let d : deed.StoreEx ≡ deed.Store = ap (λ (a : Access). a.deed) same in cc
write_by (Write t p v false) thread place value true access same = let d : deed.Store ≡ deed.StoreEx = ap (λ (a : Access). a.deed) same in cc
write_by (Read t p v true) thread place value true access same = let d : deed.LoadEx ≡ deed.StoreEx = ap (λ (a : Access). a.deed) same in cc
write_by (Read t p v true) thread place value false access same = let d : deed.LoadEx ≡ deed.Store = ap (λ (a : Access). a.deed) same in cc
write_by (Read t p v false) thread place value true access same = let d : deed.Load ≡ deed.StoreEx = ap (λ (a : Access). a.deed) same in cc
write_by (Read t p v false) thread place value false access same = let d : deed.Load ≡ deed.Store = ap (λ (a : Access). a.deed) same in cc
write_by (Fail t p v c) thread place value true access same = let d : deed.StoreFail ≡ deed.StoreEx = ap (λ (a : Access). a.deed) same in cc
write_by (Fail t p v c) thread place value false access same = let d : deed.StoreFail ≡ deed.Store = ap (λ (a : Access). a.deed) same in cc
write_by (Clear t) thread place value true access same = let d : deed.Clear ≡ deed.StoreEx = ap (λ (a : Access). a.deed) same in cc
write_by (Clear t) thread place value false access same = let d : deed.Clear ≡ deed.Store = ap (λ (a : Access). a.deed) same in cc
write_by (Watch t p) thread place value ex access same = cc
write_by (Miss t p) thread place value ex access same = cc
write_by (Begin t p) thread place value ex access same = cc
write_by (End t p) thread place value ex access same = cc
write_by (Start t child entry arg) thread place value ex access same = cc

pub read_by : (e : Entry) (thread : ℕ) (place : Place) (value : ℕ) (ex : Bool) → is_access e ≡ true → access_of e ≡ access_of (Read thread place value ex)
    → e ≡ Read thread place value ex
read_by (Read t p v true) thread place value true access same =
    read_fields t thread p place v value true (ap (λ (a : Access). a.thread) same) (ap (λ (a : Access). a.place) same) (ap (λ (a : Access). a.value) same)
read_by (Read t p v false) thread place value false access same =
    read_fields t thread p place v value false (ap (λ (a : Access). a.thread) same) (ap (λ (a : Access). a.place) same) (ap (λ (a : Access). a.value) same)
read_by (Read t p v true) thread place value false access same = let d : deed.LoadEx ≡ deed.Load = ap (λ (a : Access). a.deed) same in cc
read_by (Read t p v false) thread place value true access same = let d : deed.Load ≡ deed.LoadEx = ap (λ (a : Access). a.deed) same in cc
read_by (Write t p v true) thread place value true access same = let d : deed.StoreEx ≡ deed.LoadEx = ap (λ (a : Access). a.deed) same in cc
read_by (Write t p v true) thread place value false access same = let d : deed.StoreEx ≡ deed.Load = ap (λ (a : Access). a.deed) same in cc
read_by (Write t p v false) thread place value true access same = let d : deed.Store ≡ deed.LoadEx = ap (λ (a : Access). a.deed) same in cc
read_by (Write t p v false) thread place value false access same = let d : deed.Store ≡ deed.Load = ap (λ (a : Access). a.deed) same in cc
read_by (Fail t p v c) thread place value true access same = let d : deed.StoreFail ≡ deed.LoadEx = ap (λ (a : Access). a.deed) same in cc
read_by (Fail t p v c) thread place value false access same = let d : deed.StoreFail ≡ deed.Load = ap (λ (a : Access). a.deed) same in cc
read_by (Clear t) thread place value true access same = let d : deed.Clear ≡ deed.LoadEx = ap (λ (a : Access). a.deed) same in cc
read_by (Clear t) thread place value false access same = let d : deed.Clear ≡ deed.Load = ap (λ (a : Access). a.deed) same in cc
read_by (Watch t p) thread place value ex access same = cc
read_by (Miss t p) thread place value ex access same = cc
read_by (Begin t p) thread place value ex access same = cc
read_by (End t p) thread place value ex access same = cc
read_by (Start t child entry arg) thread place value ex access same = cc

pub record FailBy (e : Entry) (thread : ℕ) (place : Place) (value : ℕ) : Type 0 where
  pub cause : Cause
  pub is : e ≡ Fail thread place value cause

fail_fields : (t u : ℕ) (p q : Place) (v w : ℕ) (c : Cause) → t ≡ u → p ≡ q → v ≡ w → Fail t p v c ≡ Fail u q w c
fail_fields t u p q v w c one two three = cc

pub fail_by : (e : Entry) (thread : ℕ) (place : Place) (value : ℕ) (cause : Cause) → is_access e ≡ true → access_of e ≡ access_of (Fail thread place value cause)
    → FailBy e thread place value
fail_by (Fail t p v c) thread place value cause access same = record {
  cause = c;
  is = fail_fields t thread p place v value c (ap (λ (a : Access). a.thread) same) (ap (λ (a : Access). a.place) same) (ap (λ (a : Access). a.value) same);
}
fail_by (Read t p v true) thread place value cause access same = let d : deed.LoadEx ≡ deed.StoreFail = ap (λ (a : Access). a.deed) same in cc
fail_by (Read t p v false) thread place value cause access same = let d : deed.Load ≡ deed.StoreFail = ap (λ (a : Access). a.deed) same in cc
fail_by (Write t p v true) thread place value cause access same = let d : deed.StoreEx ≡ deed.StoreFail = ap (λ (a : Access). a.deed) same in cc
fail_by (Write t p v false) thread place value cause access same = let d : deed.Store ≡ deed.StoreFail = ap (λ (a : Access). a.deed) same in cc
fail_by (Clear t) thread place value cause access same = let d : deed.Clear ≡ deed.StoreFail = ap (λ (a : Access). a.deed) same in cc
fail_by (Watch t p) thread place value cause access same = cc
fail_by (Miss t p) thread place value cause access same = cc
fail_by (Begin t p) thread place value cause access same = cc
fail_by (End t p) thread place value cause access same = cc
fail_by (Start t child entry arg) thread place value cause access same = cc

pub clear_by : (e : Entry) (thread : ℕ) → is_access e ≡ true → access_of e ≡ access_of (Clear thread) → e ≡ Clear thread
clear_by (Clear t) thread access same = ap Clear (ap (λ (a : Access). a.thread) same)
clear_by (Read t p v true) thread access same = let d : deed.LoadEx ≡ deed.Clear = ap (λ (a : Access). a.deed) same in cc
clear_by (Read t p v false) thread access same = let d : deed.Load ≡ deed.Clear = ap (λ (a : Access). a.deed) same in cc
clear_by (Write t p v true) thread access same = let d : deed.StoreEx ≡ deed.Clear = ap (λ (a : Access). a.deed) same in cc
clear_by (Write t p v false) thread access same = let d : deed.Store ≡ deed.Clear = ap (λ (a : Access). a.deed) same in cc
clear_by (Fail t p v c) thread access same = let d : deed.StoreFail ≡ deed.Clear = ap (λ (a : Access). a.deed) same in cc
clear_by (Watch t p) thread access same = cc
clear_by (Miss t p) thread access same = cc
clear_by (Begin t p) thread access same = cc
clear_by (End t p) thread access same = cc
clear_by (Start t child entry arg) thread access same = cc

-- ---- rows of one class

same_write : (size : Numbers) (row : ℕ) (p : Place) → is_in_class size row p ≡ true → (e : Entry) → is_write size (row_of size.granule p) e ≡ is_write size row e
same_write size row p near (Write t q v x) =
    ap (λ c. class_of size.classes (row_of size.granule q) == c) (eqb-true (class_of size.classes (row_of size.granule p)) (class_of size.classes row) near)
same_write size row p near (Read t q v x) = refl
same_write size row p near (Fail t q v c) = refl
same_write size row p near (Clear t) = refl
same_write size row p near (Watch t q) = refl
same_write size row p near (Miss t q) = refl
same_write size row p near (Begin t q) = refl
same_write size row p near (End t q) = refl
same_write size row p near (Start t child entry arg) = refl

pub same_class : (size : Numbers) (row : ℕ) (p : Place) → is_in_class size row p ≡ true → is_write size (row_of size.granule p) ≡ is_write size row
same_class size row p near = λ i e. same_write size row p near e i

-- the stamp of a write, by the row of its class
pub write_stamp : (size : Numbers) (row : ℕ) (past : List Entry) (e : Entry) → is_write size row e ≡ true → stamp_behind size past e ≡ writes_in_class size row past
write_stamp size row past (Write t p v x) is = ap (λ f. count_by f past) (same_class size row p is)
write_stamp size row past (Read t p v x) is = cc
write_stamp size row past (Fail t p v c) is = cc
write_stamp size row past (Clear t) is = cc
write_stamp size row past (Watch t p) is = cc
write_stamp size row past (Miss t p) is = cc
write_stamp size row past (Begin t p) is = cc
write_stamp size row past (End t p) is = cc
write_stamp size row past (Start t child entry arg) is = cc

pub write_access : (size : Numbers) (row : ℕ) (e : Entry) → is_write size row e ≡ true → is_access e ≡ true
write_access size row (Write t p v x) is = refl
write_access size row (Read t p v x) is = refl
write_access size row (Fail t p v c) is = refl
write_access size row (Clear t) is = refl
write_access size row (Watch t p) is = cc
write_access size row (Miss t p) is = cc
write_access size row (Begin t p) is = cc
write_access size row (End t p) is = cc
write_access size row (Start t child entry arg) is = cc

-- an entry that is recorded as a write of a class is that write
pub same_entry : (size : Numbers) (row : ℕ) (e w : Entry) → is_write size row w ≡ true → is_access e ≡ true → access_of e ≡ access_of w → e ≡ w
same_entry size row e (Write t p v x) is access same = write_by e t p v x access same
same_entry size row e (Read t p v x) is access same = cc
same_entry size row e (Fail t p v c) is access same = cc
same_entry size row e (Clear t) is access same = cc
same_entry size row e (Watch t p) is access same = cc
same_entry size row e (Miss t p) is access same = cc
same_entry size row e (Begin t p) is access same = cc
same_entry size row e (End t p) is access same = cc
same_entry size row e (Start t child entry arg) is access same = cc

-- how many writes of a class, by those that a filter keeps
pub count_writes : (size : Numbers) (row : ℕ) (es : List Entry) → writes_in_class size row es ≡ length (filter (is_write size row) es)
count_writes size row es = sym (length-filter (is_write size row) es)

both_true : (a b : Bool) → a ≡ true → b ≡ true → (a && b) ≡ true
both_true true b one other = other
both_true false b one other = cc

pub own_of : (e : Entry) → is_access e ≡ true → is_own (thread_of e) e ≡ true
own_of e access = both_true (is_access e) (thread_of e == thread_of e) access (eq-eqb (thread_of e) (thread_of e) refl)

-- ---- of each thread, the log of one list is a front of another's

module _ (size : Numbers) (history taken : List Entry) (left : ℕ → List Stamped) (fronts : (t : ℕ) → log_of size t history ≡ log_of size t taken ++ left t) where
  -- where an access of the one stands in the other
  pub record Twin (before : List Entry) (e : Entry) : Type 0 where
    pub early : List Entry
    pub entry : Entry
    pub later : List Entry
    pub are : history ≡ early ++ entry ∷ later
    pub own : is_own (thread_of e) entry ≡ true
    pub same : access_of entry ≡ access_of e
    pub stamp : stamp_behind size early entry ≡ stamp_behind size before e
    pub logs : log_of size (thread_of e) early ≡ log_of size (thread_of e) before

  pub twin : (before : List Entry) (e : Entry) (after : List Entry) → taken ≡ before ++ e ∷ after → is_access e ≡ true → Twin before e
  twin before e after are access =
      let t = thread_of e in
      let behind = logged size t (before ++ e ∷ []) after in
      let whole : log_of size t history ≡ log_of size t before ++ stamped size before e ∷ (behind ++ left t) =
      fronts t ∙ ap (λ l. log_of size t l ++ left t) are ∙ ap (λ l. l ++ left t) (log_at size t before e after (own_of e access))
      ∙ append_assoc (log_of size t before) (stamped size before e ∷ behind) (left t) in
      let at = split_logged size t [] history (log_of size t before) (stamped size before e) (behind ++ left t) whole in
      record {
        early = at.before;
        entry = at.entry;
        later = at.after;
        are = at.are;
        own = at.own;
        same = ap (λ (x : Stamped). x.access) (sym at.here);
        stamp = ap (λ (x : Stamped). x.stamp) (sym at.here);
        logs = at.early;
      }

  -- the writes of a class of the one are a front of the other's
  Begins : ℕ → List Entry → Type 0
  Begins row ws = (rest : List Entry) → filter (is_write size row) taken ≡ ws ++ rest → (more : List Entry) × (filter (is_write size row) history ≡ ws ++ more)

  one_more : (row : ℕ) (ws : List Entry) (w : Entry) → Begins row ws → Begins row (ws ++ w ∷ [])
  unfolding Begins
  one_more row ws w before rest is =
      let p = is_write size row in
      let split : filter p taken ≡ ws ++ w ∷ rest = is ∙ append_assoc ws (w ∷ []) rest in
      let at = split_filter p taken ws w rest split in
      let found = twin at.before w at.after at.are (write_access size row w at.kept) in
      let access : is_access found.entry ≡ true = (and_parts (is_access found.entry) (thread_of found.entry == thread_of w) found.own).0 in
      let same : found.entry ≡ w = same_entry size row found.entry w at.kept access found.same in
      let stamps : stamp_behind size found.early w ≡ stamp_behind size at.before w = subst (λ x. stamp_behind size found.early x ≡ stamp_behind size at.before w) same found.stamp in
      let counts : length (filter p found.early) ≡ length ws =
      sym (count_writes size row found.early) ∙ sym (write_stamp size row found.early w at.kept) ∙ stamps
      ∙ write_stamp size row at.before w at.kept ∙ count_writes size row at.before ∙ ap length at.early in
      let ours : filter p history ≡ filter p found.early ++ w ∷ filter p found.later =
      ap (filter p) (found.are ∙ ap (λ x. found.early ++ x ∷ found.later) same) ∙ filter-append p found.early (w ∷ found.later)
      ∙ ap (λ l. filter p found.early ++ l) (filter_yes p w found.later at.kept) in
      let known = before (w ∷ rest) split in
      let front : filter p found.early ≡ ws = same_front (filter p found.early) ws (w ∷ filter p found.later) known.0 (sym ours ∙ known.1) counts in
      (filter p found.later, ours ∙ ap (λ l. l ++ w ∷ filter p found.later) front ∙ sym (append_assoc ws (w ∷ []) (filter p found.later)))

  pub writes_front : (row : ℕ) → (more : List Entry) × (filter (is_write size row) history ≡ filter (is_write size row) taken ++ more)
  unfolding Begins
  writes_front row =
      by_ends (Begins row) (λ rest is. (filter (is_write size row) history, refl)) (one_more row) (filter (is_write size row) taken) [] (sym (append-nil (filter (is_write size row) taken)))
