-- What `record` prints where every thread has left with code 0 is read again, and judged good.
use Rattle.std.proofs.Common.{◌≡◌, ◌≢◌, ℕ, ◌^◌, ◌≤◌, le-ltb, subst, List, Option, Some, None, Ok, codes, length, slice_get, inl, refl, sym, ap, ◌∙◌, arith}
use Rattle.std.proofs.lemmas.Bool.Decides.{nat_tests}
use Rattle.llsc_base.specs.Images.{Program}
use Rattle.llsc_base.specs.Limits.{most_budget}
use Rattle.llsc_base.specs.Sizes.{Numbers, size_fault}
use Rattle.llsc_base.specs.declared.outside.Stop.TheVariants.{Exit, TagLimit}
use Rattle.history.specs.Parts.{accesses_of}
use Rattle.history.specs.declared.entry.Access.{Access}
use Rattle.history.specs.declared.entry.Entry.{Entry}
use Rattle.a32_step.specs.Machine.{a32}
use Rattle.guest_thread.specs.Outcome.{HaveLeft, IsOutcome}
use Rattle.guest_thread.specs.declared.ends.GuestEnd.{GuestEnd}
use Rattle.run_checker.specs.Verdict.{Judges}
use Rattle.run_checker.specs.declared.verdicts.Verdict.TheVariants as verdict
use Rattle.run_record.specs.Limits.{IsRecord, IsRun, most_accesses}
use Rattle.run_record.specs.Reading.{record_of}
use Rattle.run_record.specs.Text.{record_text}
use Rattle.run_record.proofs.RecordTexts.{record_again, record_takes}
use Rattle.run_merge.specs.Merge.{IsMerge}
use Rattle.run_merge.proofs.Filled.{merge_length}
use Rattle.run_merge.proofs.RecordedMerges.{merge_recorded}
use Rattle.llsc_words.specs.declared.formats.Format.{Format}
use Rattle.llsc_words.specs.declared.sets.SetName.TheVariants.{A32}
use Rattle.llsc_files.specs.Programs.{image_of, program_refusal}
use Rattle.llsc_files.specs.Refusals.{too_long}
use Rattle.llsc_files.proofs.Images.{image_sized}
use Rattle.llsc_report.specs.Status.{have_left}
use Rattle.llsc_call.specs.Check.{AnswersCheck, IsJudged, most_record}
use Rattle.llsc_call.specs.Record.{AnswersRecord, PrintsMerge, RecordsRun, record_by}
use Rattle.llsc_call.specs.Run.{UnlessRun}
use Rattle.llsc_call.proofs.AsWritten.{as_written, form_written, merge_written, text_written}
use Rattle.llsc_call.proofs.CheckedMachines.{by_verdict, checked, image_checked, short_file, sound_checked}
use Rattle.llsc_call.proofs.GoodMerges.{merge_good}
use Rattle.llsc_call.proofs.KnownThreads.{legal_known}
use Rattle.llsc_call.proofs.LoadAnswers.{have_each, left-all}
use Rattle.llsc_call.proofs.Outcomes.{unless_none}
use Rattle.llsc_call.proofs.RecordFiles.{files_read}
use Rattle.llsc_call.proofs.RecordLengths.{record_length}
use Rattle.llsc_call.proofs.RecordAnswers.{record_of_answer}
use Rattle.llsc_call.proofs.RunMachine.{sound_size}

-- nothing stands against a program whose answer has status 0
none_against : (against : Option (List ℕ)) (story : Option (List Entry)) (answers : ℕ → List ℕ → Type 0) (text : List ℕ)
    → UnlessRun against story answers 0 text → against ≡ None
none_against (Some name) story answers text stands = absurd (let four = stands.1.0 in omega (arith, four))
none_against None story answers text stands = refl

-- ---- the record

in_range : (n : Numbers) → size_fault n ≡ None → (n.mem ≤ 16777216) × ((1 ≤ n.threads) × ((n.threads ≤ 16) × (n.granule ≤ 8)))
in_range n clean = grind (arith, nat_tests)

-- what is printed of threads that have all left is the text of a record of a merge, which is good
pub record IsGoodText (program : Program) (size : Numbers) (budget : ℕ) (text : List ℕ) : Type 0 where
  pub merged : List Access
  pub read : record_of text ≡ Ok (record_by size budget merged)
  pub judged : Judges a32 program size budget merged verdict.Good

no_limit : (ends : List GuestEnd) → HaveLeft ends → (t addr : ℕ) (end : GuestEnd) → slice_get ends t ≡ Some end → end.stop ≢ TagLimit addr
no_limit ends left t addr end got stopped = let wrong : Exit 0 ≡ TagLimit addr = sym (left t end got) ∙ stopped in cc

good_of : (program : Program) (size : Numbers) (budget : ℕ) (history : List Entry) (ends : List GuestEnd) (text : List ℕ) (merged : List Access)
    → IsRun size.threads size.granule budget → length program.bytes ≤ 2 ^ 32 → IsOutcome a32 program size budget history ends → HaveLeft ends
    → length (accesses_of history) ≤ most_accesses → IsMerge size history merged → text ≡ record_text (record_by size budget merged)
    → IsGoodText program size budget text
good_of program size budget history ends text merged run small outcome left few merge printed =
    let same = as_written merged in
    let again : IsMerge size history same = merge_written size history merged merge in
    let count : length same ≡ length (accesses_of history) = merge_length size history same again (legal_known size program.bytes history outcome.legal) in
    let is : IsRecord (record_by size budget same) = record {
      numbers = run;
      count = omega (arith, few, count);
      accesses = merge_recorded size program.bytes history same outcome.legal small again (form_written merged);
    } in
    record {
      merged = same;
      read = ap record_of (printed ∙ sym (text_written size budget merged)) ∙ record_again (record_by size budget same) is;
      judged = merge_good program size budget history ends same outcome.legal outcome.ends (no_limit ends left) again;
    }

good_text : (format : Format) (size : Numbers) (budget : ℕ) (file : List ℕ) (story : Option (List Entry)) (text : List ℕ) → 1 ≤ budget → budget ≤ most_budget
    → size_fault size ≡ None → AnswersRecord format size budget file story 0 text → IsGoodText (image_of format file size) size budget text
good_text format size budget file story text some most clean answers =
    let program : Program = image_of format file size in
    let found = record_of_answer format size budget file story 0 text answers (inl refl) in
    let history = found.0 in
    let ends = found.1 in
    let prints : PrintsMerge history size budget ends 0 text = found.2.1.1.1 in
    let within = in_range size clean in
    let run : IsRun size.threads size.granule budget = record { thread = within.1.0; few = within.1.1.0; rows = within.1.1.1; step = some; bounded = most } in
    let small : length program.bytes ≤ 2 ^ 32 = omega (arith, image_sized format file size program refl, within.0) in
    good_of program size budget history ends text prints.1.0 run small found.2.1.0 (have_each ends (left-all (have_left ends) (sym prints.1.1.1.0))) prints.0 prints.1.1.0 prints.1.1.1.1

-- ---- the answer of `check`

short_text : (size : Numbers) (budget : ℕ) (merged : List Access) (text : List ℕ) → record_of text ≡ Ok (record_by size budget merged) → too_long most_record text ≡ None
short_text size budget merged text read =
    let run = record_by size budget merged in
    let takes = record_takes text run read in
    let most : length text ≤ most_record = omega (arith, ap length takes.0, record_length run takes.1) in
    rw (le-ltb most_record (length text) most) refl

pub good_again : (format : Format) (size : Numbers) (budget : ℕ) (file : List ℕ) (story : Option (List Entry)) (text : List ℕ)
    → 1 ≤ budget → budget ≤ most_budget → AnswersRecord format size budget file story 0 text → AnswersCheck format size.mem file text 0 (codes "good\n")
good_again format size budget file story text some most answers =
    let program : Program = image_of format file size in
    let sound : program_refusal format size file ≡ None = none_against (program_refusal format size file) story (RecordsRun story program size budget) text answers in
    let good = good_text format size budget file story text some most (sound_size A32 format size file sound) answers in
    let run = record_by size budget good.merged in
    let judged : Judges a32 (image_of format file (checked size)) (checked size) budget good.merged verdict.Good =
    subst (λ p. Judges a32 p (checked size) budget good.merged verdict.Good) (sym (image_checked format size file)) (by_verdict program size budget good.merged verdict.Good good.judged refl) in
    files_read IsJudged format size.mem file text (Ok run) (short_file format size file sound) (short_text size budget good.merged text good.read) good.read 0 (codes "good\n")
    (unless_none (IsJudged (image_of format file (checked size)) (checked size) run) (program_refusal format (checked size) file) 0 (codes "good\n") (sound_checked format size file sound)
    (verdict.Good, (judged, (refl, refl))))
