-- The logs of all threads, taken together one after another.
use Rattle.std.proofs.Common.{◌≡◌, ℕ, zero, suc, ◌+◌, All, Bool, true, false, if◌then◌else◌, Option, Some, None, IfSome, MatchOption, List, [], ◌∷◌, ◌++◌, length, nat_lt, slice_get, refl, sym, subst, ap, ◌∙◌, zero-add, arith, inl, inr, eq-eqb, ◌==◌}
use Rattle.std.specs.List.{range_with_len}
use Rattle.std.proofs.lemmas.Bool.{cases_lt}
use Rattle.std.proofs.lemmas.List.{map-append}
use Rattle.std.proofs.lemmas.List.Elements.{All-head, All-nil, All-tail, All-cons}
use Rattle.atomic_table.specs.Seated.{TableId}
use Rattle.llsc_base.specs.Images.{Program}
use Rattle.llsc_base.specs.Sizes.{Numbers}
use Rattle.history.specs.Cause.{HasCause}
use Rattle.history.specs.Entry.{thread_of}
use Rattle.history.specs.Parts.{entries_of}
use Rattle.history.specs.Started.{MayStand}
use Rattle.history.specs.declared.entry.Entry.{Entry}
use Rattle.history.proofs.Appends.{entries_of-append}
use Rattle.history.proofs.Cuts.{each-none}
use Rattle.shared_memory.specs.Origin.{IsLegalFrom, Origin}
use Rattle.shared_memory.specs.Seen.{IsFront, IsOneOf, SaysAllOf, joint, longer}
use Rattle.version_memory.specs.Memory.{pass_home, pass_numbers, pass_seen}
use Rattle.version_memory.specs.declared.passes.VersionPass.{VersionPass}
use Rattle.guest_core.specs.Machine.{InstructionSet, MachineOf}
use Rattle.guest_calls.proofs.Splits.{none_behind}
use Rattle.guest_thread.specs.Crews.{HaveSeen, threads_of}
use Rattle.guest_thread.specs.inner.Crews.{AreEndsOf, AreTaken, IsEndOf}
use Rattle.guest_thread.specs.declared.crews.Job.{Job}
use Rattle.guest_thread.specs.declared.ends.GuestEnd.{GuestEnd}
use Rattle.guest_thread.proofs.Crewed.{ended_more}
use Rattle.run_merge.specs.inner.Crews.{AreLogsOf, HaveLogged}
use Rattle.run_merge.specs.Logs.{IsFirst, IsLogOf}
use Rattle.run_merge.specs.Runs.{KeepLogs}
use Rattle.run_merge.specs.Taking.{AreKnown}
use Rattle.run_merge.specs.declared.joins.Recorded.{Recorded}
use Rattle.run_merge.specs.declared.logs.Log.{Log}
use Rattle.run_merge.proofs.Later.{log_later}
use Rattle.run_merge.proofs.Parts.{filter_yes}

-- ---- before the first access

-- where no thread has an entry, there is none
pub nothing_seen : (history : List Entry) → ((t : ℕ) → entries_of t history ≡ []) → history ≡ []
nothing_seen [] none = refl
nothing_seen (e ∷ history) none =
    let one : e ∷ entries_of (thread_of e) history ≡ [] =
    sym (filter_yes (λ x. thread_of x == thread_of e) e history (eq-eqb (thread_of e) (thread_of e) refl)) ∙ none (thread_of e) in
    cc

-- and that is legal
pub legal_none : (origin : Origin) → IsLegalFrom origin []
legal_none origin = record {
  legal = record {
    accesses = tt;
    operations = λ thread. record { missing = []; finished = record { operations = []; are = refl } };
    causes = each-none (HasCause origin.size);
  };
  known = λ thread past. refl;
  born = each-none (MayStand origin.first origin.spare);
}

-- what is so of all, of those before the last and of the last
pub all_split : {A : Type 0} (is : A → Type 0) (all rest : List A) (last : A) → all ≡ rest ++ last ∷ [] → All is all → All is rest × is last
all_split is all [] last are each = (All-nil is, All-head is last [] (subst (All is) are each))
all_split is all (x ∷ rest) last are each =
    let whole = subst (All is) are each in
    let others = all_split is (rest ++ last ∷ []) rest last refl (All-tail is x (rest ++ last ∷ []) whole) in
    (All-cons is x rest (All-head is x (rest ++ last ∷ []) whole) others.0, others.1)

pub seen_split : {C R : Type 0} (found : Option (Job VersionPass C R)) (jobs rest : List (Job VersionPass C R)) → MatchOption found (jobs ≡ []) (λ last. jobs ≡ rest ++ last ∷ [])
    → HaveSeen pass_seen [] jobs → IfSome found (λ last. (pass_seen last.pass ≡ []) × HaveSeen pass_seen [] rest)
seen_split None jobs rest is each = tt
seen_split {C = C} {R = R} (Some last) jobs rest is each =
    let HasSeen : Job VersionPass C R → Type 0 = λ job. pass_seen job.pass ≡ [] in
    let parts = all_split HasSeen jobs rest last is each in
    (parts.1, parts.0)

-- ---- the first thread

no_items : {A : Type 0} (xs : List A) → length xs ≡ 0 → xs ≡ []
no_items [] none = refl
no_items (x ∷ xs) none = absurd (omega (arith, none))

pub logged_first : {I S C R : Type 0} (set : InstructionSet I S) (mem : TableId) (origin : Origin) (program : Program) (budget : ℕ) (first : Job VersionPass C R) (jobs : List (Job VersionPass C R))
    (done : VersionPass) (end : GuestEnd) (log : Log) (ends : List GuestEnd) (logs : List Log) (new : Recorded)
    → jobs ≡ [] → ends ≡ [] → length logs ≡ 0 → pass_home done ≡ mem → IsOneOf first.thread (pass_numbers done)
    → IsEndOf set program origin budget (pass_seen done) first.thread end → IsLogOf origin.size first.thread (pass_seen done) log.entries.items log.count → IsLegalFrom origin (pass_seen done)
    → new.ran.pass ≡ done → new.ran.ends.items ≡ ends ++ end ∷ [] → new.logs.items ≡ logs ++ log ∷ []
    → HaveLogged set mem origin program budget (threads_of (first ∷ jobs)) new
logged_first {C = C} {R = R} set mem origin program budget first jobs done end log ends logs new alone none empty memory number here kept legal pass ends_are logs_are =
    let threads : threads_of (first ∷ jobs) ≡ first.thread ∷ [] = ap (λ (js : List (Job VersionPass C R)). threads_of (first ∷ js)) alone in
    let one_end : new.ran.ends.items ≡ end ∷ [] = ends_are ∙ ap (λ l. l ++ end ∷ []) none in
    let one_log : new.logs.items ≡ log ∷ [] = logs_are ∙ ap (λ l. l ++ log ∷ []) (no_items logs empty) in
    subst (λ ts. HaveLogged set mem origin program budget ts new) (sym threads) (record {
      ended = record {
        memory = ap pass_home pass ∙ memory;
        taken = subst (λ p. AreTaken (pass_numbers p) (first.thread ∷ [])) (sym pass) (All-cons (λ u. IsOneOf u (pass_numbers done)) first.thread [] number (All-nil (λ u. IsOneOf u (pass_numbers done))));
        ends = subst (λ p. AreEndsOf set program origin budget (pass_seen p) (first.thread ∷ []) new.ran.ends.items) (sym pass)
            (subst (AreEndsOf set program origin budget (pass_seen done) (first.thread ∷ [])) (sym one_end) (here, tt));
      };
      logs = subst (λ p. AreLogsOf origin.size (pass_seen p) (first.thread ∷ []) new.logs.items) (sym pass)
          (subst (AreLogsOf origin.size (pass_seen done) (first.thread ∷ [])) (sym one_log) (kept, tt));
      legal = subst (λ p. IsLegalFrom origin (pass_seen p)) (sym pass) legal;
    })

-- ---- one thread more

module _ (size : Numbers) where
  logs_later : (old new : List Entry) (numbers : ℕ → Bool) (ts : List ℕ) (logs : List Log) → IsFront old new → SaysAllOf numbers old new → AreTaken numbers ts
      → AreLogsOf size old ts logs → AreLogsOf size new ts logs
  logs_later old new numbers [] [] front says taken are = tt
  logs_later old new numbers [] (log ∷ logs) front says taken are = absurd are
  logs_later old new numbers (t ∷ ts) [] front says taken are = absurd are
  logs_later old new numbers (t ∷ ts) (log ∷ logs) front says taken are = (
    subst (λ l. IsFirst l log.entries.items log.count) (sym (log_later size t old new front (says t (All-head (λ u. IsOneOf u numbers) t ts taken)))) are.0,
    logs_later old new numbers ts logs front says (All-tail (λ u. IsOneOf u numbers) t ts taken) are.1,
  )

  one_more : (history : List Entry) (t : ℕ) (log : Log) (ts : List ℕ) (logs : List Log) → AreLogsOf size history ts logs
      → IsLogOf size t history log.entries.items log.count → AreLogsOf size history (ts ++ t ∷ []) (logs ++ log ∷ [])
  one_more history t log [] [] are is = (is, tt)
  one_more history t log [] (other ∷ logs) are is = absurd are
  one_more history t log (u ∷ ts) [] are is = absurd are
  one_more history t log (u ∷ ts) (other ∷ logs) are is = (are.0, one_more history t log ts logs are.1 is)

either : (is : List Entry → Type 0) (one other : List Entry) (b : Bool) → is one → is other → is (if b then other else one)
either is one other true first second = second
either is one other false first second = first

-- one more has ended, with its log
pub logged_more : {I S C R : Type 0} (set : InstructionSet I S) (machine : C → MachineOf I S) (mem : TableId) (origin : Origin) (program : Program) (budget : ℕ) (first last : Job VersionPass C R) (jobs rest : List (Job VersionPass C R))
    (ran new : Recorded) (done : VersionPass) (end : GuestEnd) (log : Log)
    → jobs ≡ rest ++ last ∷ []
    → HaveLogged set mem origin program budget (threads_of (first ∷ rest)) ran
    → IsEndOf set program origin budget (pass_seen done) last.thread end → IsOneOf last.thread (pass_numbers done)
    → IsLegalFrom origin (pass_seen done) → IsLogOf origin.size last.thread (pass_seen done) log.entries.items log.count
    → pass_home new.ran.pass ≡ mem → pass_numbers new.ran.pass ≡ joint (pass_numbers ran.ran.pass) (pass_numbers done)
    → pass_seen new.ran.pass ≡ longer (pass_seen ran.ran.pass) (pass_seen done)
    → IsFront (pass_seen ran.ran.pass) (pass_seen new.ran.pass) × IsFront (pass_seen done) (pass_seen new.ran.pass)
    → SaysAllOf (pass_numbers ran.ran.pass) (pass_seen ran.ran.pass) (pass_seen new.ran.pass) → SaysAllOf (pass_numbers done) (pass_seen done) (pass_seen new.ran.pass)
    → new.ran.ends.items ≡ ran.ran.ends.items ++ end ∷ [] → new.logs.items ≡ ran.logs.items ++ log ∷ []
    → HaveLogged set mem origin program budget (threads_of (first ∷ jobs)) new
logged_more {C = C} {R = R} set machine mem origin program budget first last jobs rest ran new done end log is logged here taken legal kept memory joined whole fronts mine yours ends logs =
    let threads : threads_of (first ∷ jobs) ≡ threads_of (first ∷ rest) ++ last.thread ∷ [] =
    ap (λ js. threads_of (first ∷ js)) is ∙ map-append (λ (job : Job VersionPass C R). job.thread) (first ∷ rest) (last ∷ []) in
    let seen = pass_seen new.ran.pass in
    record {
      ended = ended_more set machine pass_home pass_numbers pass_seen mem origin program budget first last jobs rest ran.ran new.ran done end is logged.ended here taken memory joined fronts mine yours ends;
      logs = subst (λ ts. AreLogsOf origin.size seen ts new.logs.items) (sym threads)
          (subst (AreLogsOf origin.size seen (threads_of (first ∷ rest) ++ last.thread ∷ [])) (sym logs)
          (one_more origin.size seen last.thread log (threads_of (first ∷ rest)) ran.logs.items
          (logs_later origin.size (pass_seen ran.ran.pass) seen (pass_numbers ran.ran.pass) (threads_of (first ∷ rest)) ran.logs.items fronts.0 mine logged.ended.taken logged.logs)
          (subst (λ l. IsFirst l log.entries.items log.count) (sym (log_later origin.size last.thread (pass_seen done) seen fronts.1 (yours last.thread taken))) kept)));
      legal = subst (IsLegalFrom origin) (sym whole) (either (IsLegalFrom origin) (pass_seen ran.ran.pass) (pass_seen done) (nat_lt (length (pass_seen ran.ran.pass)) (length (pass_seen done))) logged.legal legal);
    }

-- ---- all threads

module _ (size : Numbers) (history : List Entry) where
  as_many : (n count : ℕ) (logs : List Log) → AreLogsOf size history (range_with_len n count) logs → length logs ≡ count
  as_many n zero [] are = refl
  as_many n zero (log ∷ logs) are = absurd are
  as_many n (suc count) [] are = absurd are
  as_many n (suc count) (log ∷ logs) are = ap suc (as_many (n + 1) count logs are.1)

  log_at : (n count t : ℕ) (logs : List Log) (log : Log) → AreLogsOf size history (range_with_len n count) logs → slice_get logs t ≡ Some log
      → IsLogOf size (n + t) history log.entries.items log.count
  log_at n zero t [] log are got = cc
  log_at n zero t (one ∷ logs) log are got = absurd are
  log_at n (suc count) t [] log are got = absurd are
  log_at n (suc count) zero (one ∷ logs) log are got =
      let same : one ≡ log = cc in
      let number : n ≡ n + 0 = omega arith in
      subst (λ k. IsLogOf size k history log.entries.items log.count) number (subst (λ (l : Log). IsLogOf size n history l.entries.items l.count) same are.0)
  log_at n (suc count) (suc t) (one ∷ logs) log are got =
      let number : n + 1 + t ≡ n + suc t = omega arith in
      subst (λ k. IsLogOf size k history log.entries.items log.count) number (log_at (n + 1) count t logs log are.1 got)

-- no thread stands in a legal history that the machine doesn't have
known_threads : (origin : Origin) (seen : List Entry) → IsLegalFrom origin seen → AreKnown origin.size.threads seen
known_threads origin seen legal front e back is access = elim (cases_lt (thread_of e) origin.size.threads) [
  | inl less ↦ less
  | inr past ↦
      let none : entries_of (thread_of e) (front ++ e ∷ back) ≡ [] = ap (entries_of (thread_of e)) (sym is) ∙ legal.known (thread_of e) past in
      absurd (not_none (thread_of e) front e back refl (sym (entries_of-append (thread_of e) front (e ∷ back)) ∙ none))
]
  where
    not_none : (t : ℕ) (front : List Entry) (e : Entry) (back : List Entry) → thread_of e ≡ t → entries_of t front ++ entries_of t (e ∷ back) ≡ [] → ⊥
    not_none t front e back same none = none_behind (entries_of t front) e (entries_of t back) (sym none ∙ ap (λ l. entries_of t front ++ l) (filter_yes (λ x. thread_of x == t) e back (eq-eqb (thread_of e) t same)))

pub all_logs : (origin : Origin) (seen : List Entry) (ts : List ℕ) (logs : List Log) → ts ≡ range_with_len 0 origin.size.threads → AreLogsOf origin.size seen ts logs → IsLegalFrom origin seen
    → KeepLogs origin.size seen logs
all_logs origin seen ts logs all are legal =
    let in_order = subst (λ l. AreLogsOf origin.size seen l logs) all are in
    record {
      many = as_many origin.size seen 0 origin.size.threads logs in_order;
      each = λ t log got. subst (λ k. IsLogOf origin.size k seen log.entries.items log.count) (zero-add t) (log_at origin.size seen 0 origin.size.threads t logs log in_order got);
      known = known_threads origin seen legal;
    }
