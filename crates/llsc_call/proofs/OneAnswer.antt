-- A request has one answer for the bytes of its files.
use Rattle.std.proofs.Common.{◌≡◌, ◌⊎◌, ℕ, inl, inr, Bool, true, false, if◌then◌else◌, arith, List, [], ◌∷◌, Option, Some, None, Result, Ok, Err, sym, ◌∙◌, ap, subst}
use Rattle.llsc_base.specs.Sizes.{Numbers}
use Rattle.llsc_base.specs.Images.{Program}
use Rattle.history.specs.Accesses.{history_of}
use Rattle.a32_step.specs.Machine.{a32}
use Rattle.rv32_guest.specs.Machine.{rv32}
use Rattle.guest_thread.specs.Ends.{AreEnds}
use Rattle.guest_thread.specs.Start.{thread_start}
use Rattle.guest_thread.specs.declared.ends.GuestEnd.{GuestEnd}
use Rattle.history.specs.declared.entry.Entry.{Entry}
use Rattle.guest_thread.proofs.OneOutcome.{one_list, one_list_on}
use Rattle.guest_family.proofs.OneFamily.{one_outcome_from}
use Rattle.guest_machine.specs.Traces.{IsTraceRecord}
use Rattle.guest_machine.proofs.OneEnd.{one_end_alone}
use Rattle.guest_machine.proofs.OneTrace.{one_trace, not_too_long}
use Rattle.run_record.specs.Text.{record_text}
use Rattle.run_record.specs.Reading.{record_of}
use Rattle.run_record.specs.declared.faults.RecordFault.{RecordFault}
use Rattle.run_record.specs.declared.records.RunRecord.{RunRecord}
use Rattle.run_checker.proofs.Right.{one_verdict}
use Rattle.run_checker.proofs.Seen.{one_list_from}
use Rattle.run_checker.specs.declared.verdicts.Verdict.{Verdict}
use Rattle.run_checker.specs.declared.verdicts.Verdict.TheVariants as verdict
use Rattle.run_explainer.specs.Text.{explanation}
use Rattle.llsc_words.specs.declared.formats.Format.{Format}
use Rattle.llsc_words.specs.declared.sets.SetName.{SetName}
use Rattle.llsc_words.specs.declared.sets.SetName.TheVariants.{A32, Rv32}
use Rattle.llsc_files.specs.Programs.{image_of, program_refusal, program_refusal_as}
use Rattle.llsc_files.specs.Refusals.{Answer, machine_of, solo_size, Unless, Is}
use Rattle.llsc_report.specs.Report.{report_of}
use Rattle.llsc_call.specs.Record.{AnswersRecord, IsRecordOf, IsTooLongFor, PrintsMerge, RecordsRun}
use Rattle.llsc_call.specs.Run.{IsOutcomeBy, ReportsRun, UnlessRun}
use Rattle.llsc_call.specs.Load.{TellsLoad, load_program, load_refusal, load_size, load_text}
use Rattle.llsc_texts.specs.Assembly.{asm_answer}
use Rattle.llsc_texts.specs.Disassembly.{dis_answer}
use Rattle.llsc_report.specs.Status.{have_left, status_of, status_of_all}
use Rattle.llsc_call.specs.Trace.{IsRecorded, Traces}
use Rattle.llsc_call.specs.Check.{files_refusal, verdict_status, verdict_text, AnswersFiles, AnswersRead, IsJudged}
use Rattle.llsc_call.specs.Explain.{IsExplained, IsExplainedBy}
use Rattle.llsc_words.specs.Request.{Request, Solo, Run, Pool, Record, Assemble, Disassemble, Trace, Check, Explain, Load}
use Rattle.llsc_call.specs.Answer.{Answers, IsReported, prints_any_merge}

-- answers have one status and one text
abbrev pub AreOne : (ℕ → List ℕ → Type 0) → Type 0
AreOne answers = (status other : ℕ) (text more : List ℕ) → answers status text → answers other more → (status ≡ other) × (text ≡ more)

-- what stands against a request has one text, and where nothing does it is as the answers are
unless_one : (answers : ℕ → List ℕ → Type 0) (against : Option (List ℕ)) → AreOne answers → AreOne (Unless against answers)
unless_one answers (Some name) one status other text more a b = (a.0 ∙ sym b.0, a.1 ∙ sym b.1)
unless_one answers None one status other text more a b = one status other text more a b

is_one : (answer : Answer) → AreOne (Is answer)
is_one answer status other text more a b = (a.0 ∙ sym b.0, a.1 ∙ sym b.1)

-- a run alone
report_one : (program : Program) (size : Numbers) (budget : ℕ) → AreOne (IsReported program size budget)
report_one program size budget status other text more a b =
    let same : a.0 ≡ b.0 = one_end_alone a32 program budget (thread_start a32 program size size.threads 0) size.granule program.bytes a.0 b.0 a.1.1 b.1.1 in
    (a.2 ∙ ap (λ end. status_of end.stop) same ∙ sym b.2, a.3 ∙ ap (λ end. report_of budget (end ∷ [])) same ∙ sym b.3)

-- Traces.

same_run : (one two : RunRecord) → one.threads ≡ two.threads → one.budget ≡ two.budget → one.granule ≡ two.granule → one.accesses ≡ two.accesses
    → one ≡ two
same_run one two threads budget granule accesses =
    ap (λ n. record one { threads = n }) threads
    ∙ ap (λ n. record one { threads = two.threads; budget = n }) budget
    ∙ ap (λ n. record one { threads = two.threads; budget = two.budget; granule = n }) granule
    ∙ ap (λ l. record two { accesses = l }) accesses

one_run : (program : Program) (size : Numbers) (seed budget : ℕ) (run other : RunRecord)
    → IsTraceRecord a32 program size seed budget run → IsTraceRecord a32 program size seed budget other → run ≡ other
one_run program size seed budget run other a b =
    same_run run other (a.threads ∙ sym b.threads) (a.budget_is ∙ sym b.budget_is) (a.granule_is ∙ sym b.granule_is)
    (one_trace a32 program size seed budget run.accesses other.accesses a.trace b.trace)

record_one : (program : Program) (size : Numbers) (seed budget : ℕ) → AreOne (IsRecorded program size seed budget)
record_one program size seed budget status other text more a b =
    let run : a.0 ≡ b.0 = one_run program size seed budget a.0 b.0 a.2.0 b.2.0 in
    let ends : a.1 ≡ b.1 =
    one_list a32 program size budget (history_of b.0.accesses) a.1 b.1 (subst (λ r. AreEnds a32 program size budget (history_of r.accesses) a.1) run a.2.1.0) b.2.1.0 in
    (a.2.1.1.0 ∙ ap status_of_all ends ∙ sym b.2.1.1.0, a.2.1.1.1 ∙ ap record_text run ∙ sym b.2.1.1.1)

trace_one : (program : Program) (size : Numbers) (seed budget : ℕ) → AreOne (Traces program size seed budget)
trace_one program size seed budget status other text more (inl a) (inl b) = record_one program size seed budget status other text more a b
trace_one program size seed budget status other text more (inr a) (inr b) = (a.1.0 ∙ sym b.1.0, a.1.1 ∙ sym b.1.1)
trace_one program size seed budget status other text more (inl a) (inr b) =
    absurd (not_too_long a32 program size seed budget a.0.accesses a.2.0.trace a.2.0.sound.count b.0)
trace_one program size seed budget status other text more (inr a) (inl b) =
    absurd (not_too_long a32 program size seed budget b.0.accesses b.2.0.trace b.2.0.sound.count a.0)

-- Verdicts.

judged_one : (program : Program) (size : Numbers) (run : RunRecord) → AreOne (IsJudged program size run)
judged_one program size run status other text more a b =
    let same : a.0 ≡ b.0 = one_verdict a32 program size run.budget run.accesses a.0 b.0 a.1.0 b.1.0 in
    (a.1.1.0 ∙ ap verdict_status same ∙ sym b.1.1.0, a.1.1.1 ∙ ap verdict_text same ∙ sym b.1.1.1)

explained_by : (program : Program) (size : Numbers) (run : RunRecord) (given : Verdict) → AreOne (IsExplainedBy program size run given)
explained_by program size run verdict.Good status other text more a b =
    let same : a.0 ≡ b.0 = one_list_from a32 program size run.budget [] run.accesses a.0 b.0 a.1.0 b.1.0 in
    (a.1.1.0 ∙ sym b.1.1.0, a.1.1.1 ∙ ap (explanation run.granule program run.accesses) same ∙ sym b.1.1.1)
explained_by program size run (verdict.Bad index reason) status other text more a b = (a.0 ∙ sym b.0, a.1 ∙ sym b.1)

explained_one : (program : Program) (size : Numbers) (run : RunRecord) → AreOne (IsExplained program size run)
explained_one program size run status other text more a b =
    let same : a.0 ≡ b.0 = one_verdict a32 program size run.budget run.accesses a.0 b.0 a.1.0 b.1.0 in
    explained_by program size run a.0 status other text more a.1.1 (subst (λ v. IsExplainedBy program size run v other more) (sym same) b.1.1)

-- a record and its program, by what the record comes to on its machine
read_one : (answers : Program → Numbers → RunRecord → ℕ → List ℕ → Type 0) (format : Format) (mem : ℕ) (file : List ℕ) (read : Result RunRecord RecordFault)
    → ((program : Program) (size : Numbers) (run : RunRecord) → AreOne (answers program size run)) → AreOne (AnswersRead answers format mem file read)
read_one answers format mem file (Err fault) one = λ status other text more a b. (a.0 ∙ sym b.0, a.1 ∙ sym b.1)
read_one answers format mem file (Ok run) one =
    let size = machine_of mem run.threads run.granule in
    unless_one (answers (image_of format file size) size run) (program_refusal format size file) (one (image_of format file size) size run)

files_one : (answers : Program → Numbers → RunRecord → ℕ → List ℕ → Type 0) (format : Format) (mem : ℕ) (file recorded : List ℕ)
    → ((program : Program) (size : Numbers) (run : RunRecord) → AreOne (answers program size run)) → AreOne (AnswersFiles answers format mem file recorded)
files_one answers format mem file recorded one =
    unless_one (AnswersRead answers format mem file (record_of recorded)) (files_refusal file recorded) (read_one answers format mem file (record_of recorded) one)

-- a run, by its history
one_outcome_by : (set : SetName) (program : Program) (size : Numbers) (first spare budget : ℕ) (history : List Entry) (all others : List GuestEnd)
    → IsOutcomeBy set program size first spare budget history all → IsOutcomeBy set program size first spare budget history others → all ≡ others
one_outcome_by A32 program size first spare budget history all others a b = one_outcome_from program size first spare budget history all others a b
one_outcome_by Rv32 program size first spare budget history all others a b = one_list_on rv32 program size budget history all others a.ends b.ends

run_one : (set : SetName) (program : Program) (size : Numbers) (first spare budget : ℕ) (story : Option (List Entry)) → AreOne (ReportsRun set story program size first spare budget)
run_one set program size first spare budget None status other text more a b = absurd a
run_one set program size first spare budget (Some history) status other text more a b =
    let ends : a.0 ≡ b.0 = one_outcome_by set program size first spare budget history a.0 b.0 a.1.0 b.1.0 in
    (a.1.1.1.0 ∙ ap status_of_all ends ∙ sym b.1.1.1.0, a.1.1.1.1 ∙ ap (report_of budget) ends ∙ sym b.1.1.1.1)

-- a load, by its history
load_one : (seed threads rounds budget : ℕ) (story : Option (List Entry)) → AreOne (TellsLoad story seed threads rounds budget)
load_one seed threads rounds budget None status other text more a b = absurd a
load_one seed threads rounds budget (Some history) status other text more a b =
    let program = load_program seed threads rounds in
    let size = load_size threads in
    let ends : a.0 ≡ b.0 = one_list_on a32 program size budget history a.0 b.0 a.1.0.ends b.1.0.ends in (
      a.1.1.1.0 ∙ ap status_of_all ends ∙ sym b.1.1.1.0,
      a.1.1.1.1 ∙ ap (load_text seed threads rounds budget) ends ∙ sym b.1.1.1.1,
    )

unless_run_one : (against : Option (List ℕ)) (story : Option (List Entry)) (answers : ℕ → List ℕ → Type 0) → AreOne answers → AreOne (UnlessRun against story answers)
unless_run_one (Some name) story answers one status other text more a b = (a.1.0 ∙ sym b.1.0, a.1.1 ∙ sym b.1.1)
unless_run_one None story answers one status other text more a b = one status other text more a b

-- answers without a history
untold_one : {N : Type 0} {answers : ℕ → List ℕ → Type 0} → AreOne answers → AreOne (λ status text. N × answers status text)
untold_one one status other text more a b = one status other text more a.1 b.1

-- records have one status, and refusals one text
abbrev AreAlike : (ℕ → List ℕ → Type 0) → Type 0
AreAlike answers = (status other : ℕ) (text more : List ℕ) → answers status text → answers other more → (status ≡ other) × (status ≡ 4 → text ≡ more)

abbrev zero_or_one : Bool → ℕ
zero_or_one b = if b then 0 else 1

never_4 : (b : Bool) → zero_or_one b ≡ 4 → ⊥
never_4 true four = cc
never_4 false four = cc

-- a record, by its history
record_alike : (history : List Entry) (program : Program) (size : Numbers) (budget : ℕ) → AreAlike (IsRecordOf history program size budget)
record_alike history program size budget status other text more a b = by a.1.1.1 b.1.1.1
  where
    ends : a.0 ≡ b.0
    ends = one_list_on a32 program size budget history a.0 b.0 a.1.0.ends b.1.0.ends

    by : PrintsMerge history size budget a.0 status text ⊎ IsTooLongFor history status text → PrintsMerge history size budget b.0 other more ⊎ IsTooLongFor history other more
        → (status ≡ other) × (status ≡ 4 → text ≡ more)
    by (inl one) (inl two) = (one.1.1.1.0 ∙ ap status_of_all ends ∙ sym two.1.1.1.0, λ four. absurd (never_4 (have_left a.0) (sym one.1.1.1.0 ∙ four)))
    by (inr one) (inr two) = (one.1.0 ∙ sym two.1.0, λ four. one.1.1 ∙ sym two.1.1)
    by (inl one) (inr two) = absurd (omega (arith, one.0, two.0))
    by (inr one) (inl two) = absurd (omega (arith, one.0, two.0))

records_alike : (program : Program) (size : Numbers) (budget : ℕ) (story : Option (List Entry)) → AreAlike (RecordsRun story program size budget)
records_alike program size budget None status other text more a b = absurd a
records_alike program size budget (Some history) status other text more a b = record_alike history program size budget status other text more a b

record_unless : (against : Option (List ℕ)) (story : Option (List Entry)) (program : Program) (size : Numbers) (budget : ℕ)
    → AreAlike (UnlessRun against story (RecordsRun story program size budget))
record_unless (Some name) story program size budget status other text more a b = (a.1.0 ∙ sym b.1.0, λ four. a.1.1 ∙ sym b.1.1)
record_unless None story program size budget status other text more a b = records_alike program size budget story status other text more a b

pub one_status : (format : Format) (size : Numbers) (budget : ℕ) (file : List ℕ) (story : Option (List Entry)) → AreAlike (AnswersRecord format size budget file story)
one_status format size budget file story = record_unless (program_refusal format size file) story (image_of format file size) size budget

pub answers_one : (asked : Request) (files : List (List ℕ)) (story : Option (List Entry)) → prints_any_merge asked ≡ false → AreOne (Answers asked files story)
answers_one (Solo name format mem budget) (file ∷ []) story plain =
    let size = solo_size mem in
    untold_one (unless_one (IsReported (image_of format file size) size budget) (program_refusal format size file) (report_one (image_of format file size) size budget))
answers_one (Run name format set first spare size budget) (file ∷ []) story plain =
    unless_run_one (program_refusal_as set format size file) story (ReportsRun set story (image_of format file size) size first spare budget) (run_one set (image_of format file size) size first spare budget story)
answers_one (Pool name format size workers slice budget) (file ∷ []) story plain =
    unless_run_one (program_refusal format size file) story (ReportsRun A32 story (image_of format file size) size size.threads 0 budget) (run_one A32 (image_of format file size) size size.threads 0 budget story)
answers_one (Record name format size budget) files story plain = absurd (let e : ⊥ = cc in e)
answers_one (Assemble name format) (file ∷ []) story plain = untold_one (is_one (asm_answer format file))
answers_one (Disassemble name format mem) (file ∷ []) story plain = untold_one (is_one (dis_answer format mem file))
answers_one (Trace name format threads mem granule seed budget) (file ∷ []) story plain =
    let size = machine_of mem threads granule in
    untold_one (unless_one (Traces (image_of format file size) size seed budget) (program_refusal format size file) (trace_one (image_of format file size) size seed budget))
answers_one (Check name second format mem) (file ∷ recorded ∷ []) story plain =
    untold_one (files_one IsJudged format mem file recorded judged_one)
answers_one (Explain name second format mem) (file ∷ recorded ∷ []) story plain =
    untold_one (files_one IsExplained format mem file recorded explained_one)
answers_one (Load seed threads rounds budget) [] story plain =
    unless_run_one (load_refusal threads rounds) story (TellsLoad story seed threads rounds budget) (load_one seed threads rounds budget story)
answers_one (Load seed threads rounds budget) (first ∷ rest) story plain = λ status other text more a b. absurd a
answers_one (Solo name format mem budget) [] story plain = λ status other text more a b. absurd a
answers_one (Solo name format mem budget) (first ∷ second ∷ rest) story plain = λ status other text more a b. absurd a
answers_one (Run name format set first spare size budget) [] story plain = λ status other text more a b. absurd a
answers_one (Run name format set first spare size budget) (one ∷ two ∷ rest) story plain = λ status other text more a b. absurd a
answers_one (Pool name format size workers slice budget) [] story plain = λ status other text more a b. absurd a
answers_one (Pool name format size workers slice budget) (one ∷ two ∷ rest) story plain = λ status other text more a b. absurd a
answers_one (Assemble name format) [] story plain = λ status other text more a b. absurd a
answers_one (Assemble name format) (first ∷ second ∷ rest) story plain = λ status other text more a b. absurd a
answers_one (Disassemble name format mem) [] story plain = λ status other text more a b. absurd a
answers_one (Disassemble name format mem) (first ∷ second ∷ rest) story plain = λ status other text more a b. absurd a
answers_one (Trace name format threads mem granule seed budget) [] story plain = λ status other text more a b. absurd a
answers_one (Trace name format threads mem granule seed budget) (first ∷ second ∷ rest) story plain = λ status other text more a b. absurd a
answers_one (Check name other format mem) [] story plain = λ status other text more a b. absurd a
answers_one (Check name other format mem) (first ∷ []) story plain = λ status other text more a b. absurd a
answers_one (Check name other format mem) (first ∷ second ∷ third ∷ rest) story plain = λ status other text more a b. absurd a
answers_one (Explain name other format mem) [] story plain = λ status other text more a b. absurd a
answers_one (Explain name other format mem) (first ∷ []) story plain = λ status other text more a b. absurd a
answers_one (Explain name other format mem) (first ∷ second ∷ third ∷ rest) story plain = λ status other text more a b. absurd a
