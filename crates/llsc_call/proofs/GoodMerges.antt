-- A merge of a history in which all threads have ended by themselves is a good record.
use Rattle.std.proofs.Common.{◌≡◌, ◌≢◌, ℕ, ◌<◌, ◌==◌, true, false, Some, List, [], ◌∷◌, ◌++◌, length, map, slice_get, refl, sym, ap, subst, ◌∙◌, inl, inr, arith}
use Rattle.std.specs.List.{filter}
use Rattle.std.proofs.lemmas.Bool.{and_parts, cases_Bool}
use Rattle.std.proofs.lemmas.Option.{slice_get_cases}
use Rattle.llsc_base.specs.Images.{Program}
use Rattle.llsc_base.specs.Sizes.{Numbers}
use Rattle.history.specs.Accesses.{entry_of, history_of}
use Rattle.history.specs.Entry.{is_access, thread_of}
use Rattle.history.specs.Legal.{IsLegal}
use Rattle.history.specs.Monitor.{at_rest_by}
use Rattle.history.specs.declared.entry.Access.{Access}
use Rattle.history.specs.declared.entry.Entry.{Entry}
use Rattle.history.specs.declared.entry.Entry.TheVariants.{Read, Write, Fail, Clear, Watch, Miss, Begin, End, Start}
use Rattle.history.proofs.Appends.{IsArmLegal-from_accesses_of}
use Rattle.llsc_base.specs.declared.outside.Stop.{Stop}
use Rattle.llsc_base.specs.declared.outside.Stop.TheVariants.{TagLimit}
use Rattle.a32_step.specs.Machine.{Machine, a32}
use Rattle.guest_calls.specs.Pairs.{pair_of, pairs_in, pairs_of}
use Rattle.guest_calls.specs.Run.{Pair, by_itself, by_limit, EndsOn, Ends}
use Rattle.guest_thread.specs.Ended.{HasEnded}
use Rattle.guest_thread.specs.Outcome.{AreEndsOn}
use Rattle.guest_thread.specs.Start.{thread_start}
use Rattle.guest_thread.specs.declared.ends.GuestEnd.{GuestEnd}
use Rattle.run_checker.specs.Verdict.{Judges}
use Rattle.run_checker.specs.declared.verdicts.Verdict.TheVariants as verdict
use Rattle.run_checker.proofs.GoodRecords.{legal_good}
use Rattle.run_merge.specs.Logs.{access_of, is_own, log_of, logged}
use Rattle.run_merge.specs.Merge.{IsMerge}
use Rattle.run_merge.specs.declared.logs.Stamped.{Stamped}
use Rattle.run_merge.proofs.Grown.{own_accesses}
use Rattle.run_merge.proofs.LegalMerges.{merge_legal}
use Rattle.run_merge.proofs.Logged.{logged_no, logged_yes}
use Rattle.run_merge.proofs.Parts.{filter_no, filter_yes}

-- ---- what a thread asked, by its log

same_pair : (e : Entry) → is_access e ≡ true → pair_of (entry_of (access_of e)) ≡ pair_of e
same_pair (Read t p v true) access = refl
same_pair (Read t p v false) access = refl
same_pair (Write t p v true) access = refl
same_pair (Write t p v false) access = refl
same_pair (Fail t p v c) access = refl
same_pair (Clear t) access = refl
same_pair (Watch t p) access = cc
same_pair (Miss t p) access = cc
same_pair (Begin t p) access = cc
same_pair (End t p) access = cc
same_pair (Start t child entry arg) access = cc

abbrev pair_in : Stamped → Pair
pair_in s = pair_of (entry_of s.access)

logged_pairs : (size : Numbers) (t : ℕ) (past es : List Entry) → map pair_in (logged size t past es) ≡ map pair_of (filter (is_own t) es)
logged_pairs size t past [] = refl
logged_pairs size t past (e ∷ es) = elim (cases_Bool (is_own t e)) [
  | inl own ↦
      ap (map pair_in) (logged_yes size t past e es own)
      ∙ ap (λ p. p ∷ map pair_in (logged size t (past ++ e ∷ []) es)) (same_pair e (and_parts (is_access e) (thread_of e == t) own).0)
      ∙ ap (λ l. pair_of e ∷ l) (logged_pairs size t (past ++ e ∷ []) es)
      ∙ ap (map pair_of) (sym (filter_yes (is_own t) e es own))
  | inr other ↦
      ap (map pair_in) (logged_no size t past e es other)
      ∙ logged_pairs size t (past ++ e ∷ []) es
      ∙ ap (map pair_of) (sym (filter_no (is_own t) e es other))
]

pairs_are : (size : Numbers) (t : ℕ) (es : List Entry) → pairs_of t es ≡ map pair_in (log_of size t es)
pairs_are size t es = ap (map pair_of) (sym (own_accesses t es)) ∙ sym (logged_pairs size t [] es)

-- ---- ends

alone : (program : Program) (budget : ℕ) (start : Machine) (pairs : List Pair) (stop : Stop) (steps : ℕ) (output : List ℕ)
    → ((addr : ℕ) → stop ≢ TagLimit addr) → EndsOn a32 program budget start pairs stop steps output → Ends a32 program budget start pairs stop steps output
alone program budget start _ _ _ _ never (by_itself pairs stop steps output ends) = ends
alone program budget start _ _ _ _ never (by_limit pairs machine steps output place value reached less asks) = absurd (never place.addr refl)

pub merge_good : (program : Program) (size : Numbers) (budget : ℕ) (history : List Entry) (ends : List GuestEnd) (merged : List Access)
    → IsLegal size program.bytes history → AreEndsOn a32 program size budget history ends
    → ((t addr : ℕ) (end : GuestEnd) → slice_get ends t ≡ Some end → end.stop ≢ TagLimit addr)
    → IsMerge size history merged → Judges a32 program size budget merged verdict.Good
merge_good program size budget history ends merged legal all never merge =
    legal_good a32 program size budget merged
    (merge_legal size program.bytes history (history_of merged) merge (IsArmLegal-from_accesses_of (at_rest_by size.granule program.bytes size.threads) history legal.accesses))
    (λ t known. ended t known)
  where
    ended : (t : ℕ) → t < size.threads → HasEnded a32 program size budget merged t
    ended t known = by (end_at t known)
      where
        end_at : (t : ℕ) → t < size.threads → (end : GuestEnd) × (slice_get ends t ≡ Some end)
        end_at t known = elim (slice_get_cases ends t).1 [
          | inl here ↦ (here.0, here.2)
          | inr past ↦ absurd (let many : length ends ≡ size.threads = all.many in omega (arith, past.0, known, many))
        ]

        by : ((end : GuestEnd) × (slice_get ends t ≡ Some end)) → HasEnded a32 program size budget merged t
        by found =
            let end = found.0 in
            let each = all.each t end found.1 in
            let number : end.thread ≡ t = all.numbers t end found.1 in
            let pairs : pairs_of end.thread history ≡ pairs_in t merged =
            ap (λ n. pairs_of n history) number ∙ pairs_are size t history ∙ ap (map pair_in) (sym (merge t)) ∙ sym (pairs_are size t (history_of merged)) in
            record {
              stop = end.stop;
              steps = end.steps;
              output = end.out;
              ends = subst (λ p. Ends a32 program budget (thread_start a32 program size size.threads t) p end.stop end.steps end.out) pairs
                  (alone program budget (thread_start a32 program size size.threads t) (pairs_of end.thread history) end.stop end.steps end.out (λ addr. never t addr end found.1) each.ends);
            }
