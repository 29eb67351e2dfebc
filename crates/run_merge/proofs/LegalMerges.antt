-- What merges a history that Arm's memory and monitors allow is allowed too.
use Rattle.std.proofs.Common.{◌≡◌, ℕ, ◌+◌, ◌==◌, ◌&&◌, ◌||◌, ◌<◌, Bool, true, false, List, [], ◌∷◌, ◌++◌, Some, length, refl, sym, ap, subst, ◌∙◌, inl, inr, append-nil, append_assoc, length-append, arith, eq-eqb}
use Rattle.std.specs.List.{filter, list_any}
use Rattle.std.proofs.lemmas.Bool.{and_parts, cases_Bool, ne_eqb}
use Rattle.std.proofs.lemmas.List.Elements.{filter-append}
use Rattle.llsc_base.specs.Sizes.{Numbers}
use Rattle.llsc_base.specs.Memory.{class_of, row_of}
use Rattle.llsc_base.specs.declared.access.Place.{Place}
use Rattle.history.specs.ArmLegal.{IsArmLegal, IsSound, MayAccess}
use Rattle.history.specs.Cause.{is_write, writes_in_class}
use Rattle.history.specs.Entry.{is_access, thread_of}
use Rattle.history.specs.Marked.{is_write_in}
use Rattle.history.specs.Monitor.{Monitor, at_rest_by, marked_row, monitor_after}
use Rattle.history.specs.declared.entry.Deed.{Deed}
use Rattle.history.specs.declared.entry.Deed.TheVariants as deed
use Rattle.history.specs.declared.entry.Entry.{Entry}
use Rattle.history.specs.declared.entry.Entry.TheVariants.{Read, Write, Fail, Clear, Watch, Miss, Begin, End, Start}
use Rattle.history.proofs.Ends.{by_ends}
use Rattle.history.proofs.Appends.{IsArmLegal-back, IsArmLegal-front, IsArmLegal-push}
use Rattle.history.proofs.Marks.{IsAsLarge-monitor_after, granule-monitor_after}
use Rattle.run_merge.specs.Logs.{access_of, is_own, log_of, logged, stamp_behind, stamped}
use Rattle.run_merge.specs.declared.logs.Stamped.{Stamped}
use Rattle.run_merge.proofs.Parts.{filter_yes, filter_no, same_back, same_front}
use Rattle.run_merge.proofs.Logged.{log_at, logged_yes, logged_no, split_logged}
use Rattle.run_merge.proofs.Twins.{Twin, clear_by, count_writes, fail_by, read_by, twin, write_by, writes_front}
use Rattle.run_merge.proofs.Memories.{value_is}
use Rattle.run_merge.proofs.Marked.{IsMarkedBy, is_exclusive, is_marked, marked_by}

-- ---- an exclusive access of a thread shows in its log

abbrev exclusive : Deed → Bool
exclusive deed.Load = false
exclusive deed.Store = false
exclusive _ = true

with_own : (own ex : Bool) → own ≡ true → (own && ex) ≡ ex
with_own true ex is = refl
with_own false ex is = cc

without_own : (own ex : Bool) → own ≡ false → (own && ex) ≡ false
without_own true ex is = cc
without_own false ex is = refl

mine : (t : ℕ) (e : Entry) → is_own t e ≡ true → is_exclusive t e ≡ exclusive (access_of e).deed
mine t (Read u p v true) own = with_own (u == t) true own
mine t (Read u p v false) own = with_own (u == t) false own
mine t (Write u p v true) own = with_own (u == t) true own
mine t (Write u p v false) own = with_own (u == t) false own
mine t (Fail u p v c) own = own
mine t (Clear u) own = own
mine t (Watch u p) own = cc
mine t (Miss u p) own = cc
mine t (Begin u p) own = cc
mine t (End u p) own = cc
mine t (Start u child entry arg) own = cc

another : (t : ℕ) (e : Entry) → is_own t e ≡ false → is_exclusive t e ≡ false
another t (Read u p v x) own = without_own (u == t) x own
another t (Write u p v x) own = without_own (u == t) x own
another t (Fail u p v c) own = own
another t (Clear u) own = own
another t (Watch u p) own = refl
another t (Miss u p) own = refl
another t (Begin u p) own = refl
another t (End u p) own = refl
another t (Start u child entry arg) own = refl

exclusives : (size : Numbers) (t : ℕ) (past es : List Entry) → list_any (is_exclusive t) es ≡ list_any (λ (s : Stamped). exclusive s.access.deed) (logged size t past es)
exclusives size t past [] = refl
exclusives size t past (e ∷ es) = elim (cases_Bool (is_own t e)) [
  | inl own ↦
      ap (λ b. b || list_any (is_exclusive t) es) (mine t e own)
      ∙ ap (λ b. exclusive (access_of e).deed || b) (exclusives size t (past ++ e ∷ []) es)
      ∙ ap (list_any (λ (s : Stamped). exclusive s.access.deed)) (sym (logged_yes size t past e es own))
  | inr other ↦
      ap (λ b. b || list_any (is_exclusive t) es) (another t e other)
      ∙ exclusives size t (past ++ e ∷ []) es
      ∙ ap (list_any (λ (s : Stamped). exclusive s.access.deed)) (sym (logged_no size t past e es other))
]

-- ---- a write in a row is one in its class

far : (size : Numbers) (row : ℕ) (e : Entry) → is_write size row e ≡ false → is_write_in size.granule row e ≡ false
far size row (Write t p v x) no_write = ne_eqb (row_of size.granule p) row (λ same.
    absurd (let near : (class_of size.classes (row_of size.granule p) == class_of size.classes row) ≡ true = eq-eqb (class_of size.classes (row_of size.granule p)) (class_of size.classes row) (ap (class_of size.classes) same) in
    let f : false ≡ true = sym no_write ∙ near in let g : ⊥ = cc in g))
far size row (Read t p v x) no_write = refl
far size row (Fail t p v c) no_write = refl
far size row (Clear t) no_write = refl
far size row (Watch t p) no_write = refl
far size row (Miss t p) no_write = refl
far size row (Begin t p) no_write = refl
far size row (End t p) no_write = refl
far size row (Start t child entry arg) no_write = refl

in_row : (size : Numbers) (row : ℕ) (es : List Entry) → list_any (is_write_in size.granule row) es ≡ list_any (is_write_in size.granule row) (filter (is_write size row) es)
in_row size row [] = refl
in_row size row (e ∷ es) = elim (cases_Bool (is_write size row e)) [
  | inl here ↦
      ap (λ b. is_write_in size.granule row e || b) (in_row size row es)
      ∙ ap (list_any (is_write_in size.granule row)) (sym (filter_yes (is_write size row) e es here))
  | inr elsewhere ↦
      ap (λ b. b || list_any (is_write_in size.granule row) es) (far size row e elsewhere)
      ∙ in_row size row es
      ∙ ap (list_any (is_write_in size.granule row)) (sym (filter_no (is_write size row) e es elsewhere))
]

-- ---- two lists with the same logs, the one allowed

module _ (size : Numbers) (bytes : List ℕ) (history taken : List Entry) (same : (t : ℕ) → log_of size t taken ≡ log_of size t history) where
  fronts : (t : ℕ) → log_of size t history ≡ log_of size t taken ++ []
  fronts t = sym (same t) ∙ sym (append-nil (log_of size t taken))

  backs : (t : ℕ) → log_of size t taken ≡ log_of size t history ++ []
  backs t = same t ∙ sym (append-nil (log_of size t history))

  -- they have the same writes of each class
  pub all_writes : (row : ℕ) → filter (is_write size row) history ≡ filter (is_write size row) taken
  all_writes row =
      let ours = filter (is_write size row) history in
      let theirs = filter (is_write size row) taken in
      let one = writes_front size history taken (λ _. []) fronts row in
      let other = writes_front size taken history (λ _. []) backs row in
      let long : length ours ≡ length theirs + length one.0 = ap length one.1 ∙ length-append theirs one.0 in
      let longer : length theirs ≡ length ours + length other.0 = ap length other.1 ∙ length-append ours other.0 in
      same_front ours theirs [] one.0 (append-nil ours ∙ one.1) (omega (arith, long, longer))

  -- and where so many of them stand before two entries, they are the same
  early_writes : (row : ℕ) (early : List Entry) (e : Entry) (later before : List Entry) (a : Entry) (after : List Entry)
      → history ≡ early ++ e ∷ later → taken ≡ before ++ a ∷ after → writes_in_class size row early ≡ writes_in_class size row before
      → filter (is_write size row) early ≡ filter (is_write size row) before
  early_writes row early e later before a after ours theirs counts =
      let p = is_write size row in
      let both : filter p early ++ filter p (e ∷ later) ≡ filter p before ++ filter p (a ∷ after) =
      sym (filter-append p early (e ∷ later)) ∙ ap (filter p) (sym ours) ∙ all_writes row ∙ ap (filter p) theirs ∙ filter-append p before (a ∷ after) in
      same_front (filter p early) (filter p before) (filter p (e ∷ later)) (filter p (a ∷ after)) both
      (sym (count_writes size row early) ∙ counts ∙ count_writes size row before)

  -- a mark that stands in the one stands in the other
  mark_moves : (t row : ℕ) (early before : List Entry) → log_of size t early ≡ log_of size t before
      → filter (is_write size row) early ≡ filter (is_write size row) before
      → IsMarkedBy size.granule t row early → IsMarkedBy size.granule t row before
  mark_moves t row early before logs writes by =
      let p = is_write size row in
      let rd = Read t by.place by.value true in
      let own : is_own t rd ≡ true = eq-eqb t t refl in
      let whole : log_of size t before ≡ log_of size t by.before ++ stamped size by.before rd ∷ logged size t (by.before ++ rd ∷ []) by.later =
      sym logs ∙ ap (log_of size t) by.are ∙ log_at size t by.before rd by.later own in
      let at = split_logged size t [] before (log_of size t by.before) (stamped size by.before rd) (logged size t (by.before ++ rd ∷ []) by.later) whole in
      let access : is_access at.entry ≡ true = (and_parts (is_access at.entry) (thread_of at.entry == t) at.own).0 in
      let is : at.entry ≡ rd = read_by at.entry t by.place by.value true access (ap (λ (x : Stamped). x.access) (sym at.here)) in
      let stamps : stamp_behind size by.before rd ≡ stamp_behind size at.before rd =
      ap (λ (x : Stamped). x.stamp) at.here ∙ ap (stamp_behind size at.before) is in
      let counts : writes_in_class size row by.before ≡ writes_in_class size row at.before =
      ap (λ r. writes_in_class size r by.before) (sym by.of_row) ∙ stamps ∙ ap (λ r. writes_in_class size r at.before) by.of_row in
      let ours : filter p early ≡ filter p by.before ++ filter p by.later = ap (filter p) by.are ∙ filter-append p by.before (rd ∷ by.later) in
      let are : before ≡ at.before ++ rd ∷ at.after = at.are ∙ ap (λ x. at.before ++ x ∷ at.after) is in
      let theirs : filter p before ≡ filter p at.before ++ filter p at.after = ap (filter p) are ∙ filter-append p at.before (rd ∷ at.after) in
      let both : filter p by.before ++ filter p by.later ≡ filter p at.before ++ filter p at.after = sym ours ∙ writes ∙ theirs in
      let firsts : filter p by.before ≡ filter p at.before =
      same_front (filter p by.before) (filter p at.before) (filter p by.later) (filter p at.after) both
      (sym (count_writes size row by.before) ∙ counts ∙ count_writes size row at.before) in
      let lasts : filter p at.after ≡ filter p by.later =
      same_back (filter p at.before) (filter p at.after) (filter p by.later) (sym both ∙ ap (λ l. l ++ filter p by.later) firsts) in
      record {
        before = at.before;
        place = by.place;
        value = by.value;
        later = at.after;
        are = are;
        of_row = by.of_row;
        own =
            exclusives size t (at.before ++ at.entry ∷ []) at.after
            ∙ ap (list_any (λ (s : Stamped). exclusive s.access.deed)) at.late
            ∙ sym (exclusives size t (by.before ++ rd ∷ []) by.later) ∙ by.own;
        unwritten =
            in_row size row at.after ∙ ap (list_any (is_write_in size.granule row)) lasts ∙ sym (in_row size row by.later) ∙ by.unwritten;
      }

  sound_there : (one other : Monitor) → length one.marks ≡ length other.marks → length one.memory ≡ length other.memory → (t : ℕ) (p : Place) (v : ℕ)
      → IsSound (length one.marks) (length one.memory) t p v → IsSound (length other.marks) (length other.memory) t p v
  sound_there one other marks memories t p v sound =
      subst (λ n. IsSound n (length other.memory) t p v) marks (subst (λ n. IsSound (length one.marks) n t p v) memories sound)

  abbrev first : Monitor
  first = at_rest_by size.granule bytes size.threads

  large : (one other : List Entry) → IsArmLegal (at_rest_by size.granule bytes size.threads) one → IsArmLegal (at_rest_by size.granule bytes size.threads) other → (t : ℕ) (p : Place) (v : ℕ)
      → IsSound (length (monitor_after first one).marks) (length (monitor_after first one).memory) t p v
      → IsSound (length (monitor_after first other).marks) (length (monitor_after first other).memory) t p v
  large one other legal legal_too t p v sound =
      let a = IsAsLarge-monitor_after first one legal in
      let b = IsAsLarge-monitor_after first other legal_too in
      sound_there (monitor_after first one) (monitor_after first other) (a.threads ∙ sym b.threads) (a.bytes ∙ sym b.bytes) t p v sound

  abbrev Here : List Entry → Entry → Type 0
  Here before a = Twin size history taken (λ _. []) fronts before a

  -- what is known where an access stands in the history
  there : IsArmLegal (at_rest_by size.granule bytes size.threads) history → (before : List Entry) (a : Entry) → (at : Here before a)
      → IsArmLegal (at_rest_by size.granule bytes size.threads) at.early × MayAccess (monitor_after first at.early) at.entry
  there legal before a at =
      let whole = subst (IsArmLegal first) at.are legal in
      (IsArmLegal-front first at.early (at.entry ∷ at.later) whole, (IsArmLegal-back first at.early (at.entry ∷ at.later) whole).0)

  access_at : (before : List Entry) (a : Entry) → (at : Here before a) → is_access at.entry ≡ true
  access_at before a at = (and_parts (is_access at.entry) (thread_of at.entry == thread_of a) at.own).0

  -- an access may stand where it does
  may : IsArmLegal (at_rest_by size.granule bytes size.threads) history → (before : List Entry) (a : Entry) (after : List Entry) → taken ≡ before ++ a ∷ after
      → IsArmLegal (at_rest_by size.granule bytes size.threads) before → MayAccess (monitor_after (at_rest_by size.granule bytes size.threads) before) a
  may legal before (Read t p v x) after are so_far =
      let a = Read t p v x in
      let at = twin size history taken (λ _. []) fronts before a after are refl in
      let is = read_by at.entry t p v x (access_at before a at) at.same in
      let known = there legal before a at in
      let stood = subst (MayAccess (monitor_after first at.early)) is known.1 in
      let sound = large at.early before known.0 so_far t p v stood.0 in
      let counts : writes_in_class size (row_of size.granule p) at.early ≡ writes_in_class size (row_of size.granule p) before =
      subst (λ e. stamp_behind size at.early e ≡ writes_in_class size (row_of size.granule p) before) is at.stamp in
      let writes = early_writes (row_of size.granule p) at.early at.entry at.later before a after at.are are counts in
      (sound, stood.1 ∙ value_is size first at.early before p known.0 so_far sound.aligned stood.0.inside sound.inside writes)
  may legal before (Write t p v false) after are so_far =
      let a = Write t p v false in
      let at = twin size history taken (λ _. []) fronts before a after are refl in
      let is = write_by at.entry t p v false (access_at before a at) at.same in
      let known = there legal before a at in
      let stood = subst (MayAccess (monitor_after first at.early)) is known.1 in
      (large at.early before known.0 so_far t p v stood.0, λ e. absurd (let f : ⊥ = cc in f))
  may legal before (Write t p v true) after are so_far =
      let a = Write t p v true in
      let at = twin size history taken (λ _. []) fronts before a after are refl in
      let is = write_by at.entry t p v true (access_at before a at) at.same in
      let known = there legal before a at in
      let stood = subst (MayAccess (monitor_after first at.early)) is known.1 in
      let row = row_of size.granule p in
      let counts : writes_in_class size row at.early ≡ writes_in_class size row before =
      subst (λ e. stamp_behind size at.early e ≡ writes_in_class size row before) is at.stamp in
      let writes = early_writes row at.early at.entry at.later before a after at.are are counts in
      let marked : marked_row (monitor_after first at.early) t ≡ Some row = stood.1 refl ∙ ap (λ (g : ℕ). Some (row_of g p)) (granule-monitor_after first at.early) in
      let by = mark_moves t row at.early before at.logs writes (marked_by size.granule size.threads t row bytes at.early known.0 marked) in (
        large at.early before known.0 so_far t p v stood.0,
        λ _. is_marked size.granule size.threads t row bytes before so_far by ∙ ap (λ (g : ℕ). Some (row_of g p)) (sym (granule-monitor_after first before)),
      )
  may legal before (Fail t p v c) after are so_far =
      let a = Fail t p v c in
      let at = twin size history taken (λ _. []) fronts before a after are refl in
      let found = fail_by at.entry t p v c (access_at before a at) at.same in
      let known = there legal before a at in
      let stood = subst (MayAccess (monitor_after first at.early)) found.is known.1 in
      large at.early before known.0 so_far t p v stood
  may legal before (Clear t) after are so_far =
      let a = Clear t in
      let at = twin size history taken (λ _. []) fronts before a after are refl in
      let is = clear_by at.entry t (access_at before a at) at.same in
      let known = there legal before a at in
      let stood = subst (MayAccess (monitor_after first at.early)) is known.1 in
      let many = (IsAsLarge-monitor_after first at.early known.0).threads ∙ sym (IsAsLarge-monitor_after first before so_far).threads in
      subst (λ n. t < n) many stood
  may legal before (Watch t p) after are so_far = tt
  may legal before (Miss t p) after are so_far = tt
  may legal before (Begin t p) after are so_far = tt
  may legal before (End t p) after are so_far = tt
  may legal before (Start t child entry arg) after are so_far = tt

  -- all of them
  Fronts : List Entry → Type 0
  Fronts before = (after : List Entry) → taken ≡ before ++ after → IsArmLegal (at_rest_by size.granule bytes size.threads) before

  one_more : IsArmLegal (at_rest_by size.granule bytes size.threads) history → (before : List Entry) (a : Entry) → Fronts before → Fronts (before ++ a ∷ [])
  unfolding Fronts
  one_more legal before a so_far after are =
      let split : taken ≡ before ++ a ∷ after = are ∙ append_assoc before (a ∷ []) after in
      let early = so_far (a ∷ after) split in
      IsArmLegal-push first before a early (may legal before a after split early)

  pub merge_legal : IsArmLegal (at_rest_by size.granule bytes size.threads) history → IsArmLegal (at_rest_by size.granule bytes size.threads) taken
  unfolding Fronts
  merge_legal legal = by_ends Fronts (λ after are. tt) (one_more legal) taken [] (sym (append-nil taken))
