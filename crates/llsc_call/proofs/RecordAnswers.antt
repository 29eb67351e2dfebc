-- What `record` is answered with.
use Rattle.std.proofs.Common.{◌≡◌, ◌⊎◌, inl, inr, ℕ, ◌^◌, ◌<◌, ◌≤◌, All, IfErr, IfOk, map, List, Option, Some, None, Result, Ok, Err, Vec, length, refl, subst, sym}
use Rattle.std.specs.Global.{Global}
use Rattle.std.specs.Result.{OnOk}
use Rattle.llsc_base.specs.Images.{Program}
use Rattle.llsc_base.specs.Sizes.{Numbers}
use Rattle.history.specs.Accesses.{history_of}
use Rattle.history.specs.Legal.{IsComplete, IsLegal}
use Rattle.history.specs.Parts.{accesses_of}
use Rattle.history.specs.Started.{AreBorn}
use Rattle.history.specs.declared.entry.Access.{Access}
use Rattle.history.specs.declared.entry.Entry.{Entry}
use Rattle.shared_memory.specs.Origin.{IsLegalFrom, Origin}
use Rattle.guest_thread.specs.Outcome.{IsOutcome, AreEndsOn}
use Rattle.guest_thread.specs.declared.ends.GuestEnd.{GuestEnd}
use Rattle.run_record.specs.Limits.{IsAccess, most_accesses}
use Rattle.run_merge.specs.Logs.{access_of}
use Rattle.run_merge.proofs.RecordedMerges.{merge_recorded}
use Rattle.run_merge.specs.Merge.{IsMerge}
use Rattle.run_merge.specs.declared.merges.MergeFault.{MergeFault}
use Rattle.run_merge.specs.declared.merges.MergeFault.TheVariants.{TooLong, Memory}
use Rattle.llsc_words.specs.declared.formats.Format.{Format}
use Rattle.llsc_files.specs.Programs.{image_of, program_refusal}
use Rattle.llsc_call.specs.inner.Merged.{Tells, TellsOf}
use Rattle.llsc_call.specs.inner.Outcome.{IsOneAnswer, status_of, text_of}
use Rattle.llsc_call.specs.Record.{AnswersRecord, IsTooLongFor, PrintsMerge, RecordsRun}
use Rattle.llsc_call.specs.Run.{UnlessRun}
use Rattle.llsc_call.specs.Versions.{KeepsVersions}
use Rattle.llsc_call.specs.declared.outcome.Outcome.{Outcome}
use Rattle.a32_step.specs.Machine.{a32}

-- ---- what is said of a merge

told_by : (history : List Entry) (size : Numbers) (budget : ℕ) (ends : List GuestEnd) (merged : Result (Vec Access Global) MergeFault) (outcome : Outcome)
    → IfOk merged (λ all. IsMerge size history all.items) → OnOk merged (length (accesses_of history) ≤ most_accesses)
    → IfErr merged (λ fault. fault ≡ TooLong → most_accesses < length (accesses_of history)) → Tells size budget ends merged outcome
    → PrintsMerge history size budget ends (status_of outcome) (text_of outcome) ⊎ IsTooLongFor history (status_of outcome) (text_of outcome)
told_by history size budget ends (Ok all) outcome merge few long tells = inl (few, (all.items, (merge, (tells.0, tells.1))))
told_by history size budget ends (Err TooLong) outcome merge few long tells = inr (long refl, (tells.0, tells.1))
told_by history size budget ends (Err Memory) outcome merge few long tells = absurd tells

pub recorded : (program : Program) (size : Numbers) (budget : ℕ) (history : List Entry) (ends : List GuestEnd) (merged : Result (Vec Access Global) MergeFault) (outcome : Outcome)
    → IsOutcome a32 program size budget history ends → KeepsVersions size history
    → IfOk merged (λ all. IsMerge size history all.items) → OnOk merged (length (accesses_of history) ≤ most_accesses)
    → IfErr merged (λ fault. fault ≡ TooLong → most_accesses < length (accesses_of history)) → TellsOf size budget ends merged outcome
    → IsOneAnswer (RecordsRun (Some history) program size budget) outcome
recorded program size budget history ends merged outcome is versions merge few long tells = record {
  sayable = tells.sayable;
  done = tells.done;
  is = (ends, (is, (versions, told_by history size budget ends merged outcome merge few long tells.tells)));
}

-- the same of a memory that is closed
pub closed_record : (program : Program) (origin : Origin) (size : Numbers) (budget : ℕ) (seen history : List Entry) (ends : List GuestEnd) (merged : Result (Vec Access Global) MergeFault) (outcome : Outcome)
    → size ≡ origin.size → history ≡ seen → origin.bytes ≡ program.bytes → origin.first ≡ origin.size.threads → origin.spare ≡ 0
    → IsLegalFrom origin seen → IsComplete seen → KeepsVersions origin.size seen → AreEndsOn a32 program origin.size budget seen ends
    → IfOk merged (λ all. IsMerge size seen all.items) → OnOk merged (length (accesses_of seen) ≤ most_accesses)
    → IfErr merged (λ fault. fault ≡ TooLong → most_accesses < length (accesses_of seen)) → TellsOf size budget ends merged outcome
    → IsOneAnswer (RecordsRun (Some history) program origin.size budget) outcome
closed_record program origin size budget seen history ends merged outcome sized same begins all none legal complete versions are merge few long tells =
    let is : IsOutcome a32 program origin.size budget seen ends = record {
      legal = subst (λ b. IsLegal origin.size b seen) begins legal.legal;
      complete = complete;
      born = subst (λ n. AreBorn origin.size.threads n seen) none (subst (λ n. AreBorn n origin.spare seen) all legal.born);
      ends = are;
    } in
    subst (λ h. IsOneAnswer (RecordsRun (Some h) program origin.size budget) outcome) (sym same)
    (recorded program origin.size budget seen ends merged outcome is versions (subst (λ (n : Numbers). IfOk merged (λ all. IsMerge n seen all.items)) sized merge) few long
    (subst (λ (n : Numbers). TellsOf n budget ends merged outcome) sized tells))

-- a merge may stand in a record
pub accesses_of_merge : (size : Numbers) (bytes : List ℕ) (seen : List Entry) (merged : Result (Vec Access Global) MergeFault) → IsLegal size bytes seen → length bytes ≤ 2 ^ 32
    → IfOk merged (λ all. IsMerge size seen all.items) → IfOk merged (λ all. all.items ≡ map access_of (history_of all.items))
    → IfOk merged (λ all. All (IsAccess size.threads) all.items)
accesses_of_merge size bytes seen (Ok all) legal small merge form = merge_recorded size bytes seen all.items legal small merge form
accesses_of_merge size bytes seen (Err fault) legal small merge form = tt

-- ---- the history of an answer

printed : (history : List Entry) (size : Numbers) (budget : ℕ) (ends : List GuestEnd) (status : ℕ) (text : List ℕ) → (status ≡ 0) ⊎ (status ≡ 1)
    → PrintsMerge history size budget ends status text ⊎ IsTooLongFor history status text → PrintsMerge history size budget ends status text
printed history size budget ends status text ran (inl one) = one
printed history size budget ends status text (inl is) (inr long) = cc (long.1.0, is)
printed history size budget ends status text (inr is) (inr long) = cc (long.1.0, is)

record_by_story : (against : Option (List ℕ)) (story : Option (List Entry)) (program : Program) (size : Numbers) (budget status : ℕ) (text : List ℕ)
    → UnlessRun against story (RecordsRun story program size budget) status text → (status ≡ 0) ⊎ (status ≡ 1)
    → (history : List Entry) × (ends : List GuestEnd) × ((story ≡ Some history) × (IsOutcome a32 program size budget history ends × (KeepsVersions size history × PrintsMerge history size budget ends status text)))
record_by_story (Some name) story program size budget status text stands (inl is) = cc (stands.1.0, is)
record_by_story (Some name) story program size budget status text stands (inr is) = cc (stands.1.0, is)
record_by_story None None program size budget status text records ran = absurd records
record_by_story None (Some history) program size budget status text records ran =
    (history, records.0, (refl, (records.1.0, (records.1.1.0, printed history size budget records.0 status text ran records.1.1.1))))

pub record_of_answer : (format : Format) (size : Numbers) (budget : ℕ) (file : List ℕ) (story : Option (List Entry)) (status : ℕ) (text : List ℕ)
    → AnswersRecord format size budget file story status text → (status ≡ 0) ⊎ (status ≡ 1)
    → (history : List Entry) × (ends : List GuestEnd) × ((story ≡ Some history) × (IsOutcome a32 (image_of format file size) size budget history ends
    × (KeepsVersions size history × PrintsMerge history size budget ends status text)))
record_of_answer format size budget file story status text answers ran =
    record_by_story (program_refusal format size file) story (image_of format file size) size budget status text answers ran
