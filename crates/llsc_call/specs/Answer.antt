-- What a call of the program answers: a status and a text, and with which history.
use Rattle.std.specs.Prelude.{◌≡◌, ◌≢◌, ℕ, ◌⊎◌, Bool, true, false, List, [], ◌∷◌, All, map, Option, Some, None}
use Rattle.llsc_base.specs.Sizes.{Numbers}
use Rattle.llsc_base.specs.Images.{Program}
use Rattle.history.specs.declared.entry.Entry.{Entry}
use Rattle.guest_thread.specs.declared.ends.GuestEnd.{GuestEnd}
use Rattle.guest_machine.specs.Alone.{IsSoloEnd}
use Rattle.llsc_words.specs.declared.formats.Format.{Format}
use Rattle.llsc_words.specs.declared.sets.SetName.TheVariants.{A32}
use Rattle.llsc_report.specs.Report.{report_of}
use Rattle.llsc_host.specs.Host.{Rose, AreBytes, AddsFront}
use Rattle.llsc_words.specs.Request.{Request, Solo, Run, Pool, Record, Assemble, Disassemble, Trace, Check, Explain, Load, files_of}
use Rattle.llsc_texts.specs.Assembly.{AnswersAsm}
use Rattle.llsc_texts.specs.Disassembly.{AnswersDis}
use Rattle.llsc_call.specs.Run.{AnswersRun}
use Rattle.llsc_call.specs.Record.{AnswersRecord}
use Rattle.llsc_report.specs.Status.{status_of}
use Rattle.llsc_call.specs.Trace.{AnswersTrace}
use Rattle.llsc_call.specs.Check.{AnswersCheck}
use Rattle.llsc_call.specs.Explain.{AnswersExplain}
use Rattle.llsc_call.specs.Load.{AnswersLoad}
use Rattle.llsc_host.specs.Said.{words_text, read_text}
use Rattle.llsc_files.specs.Refusals.{machine_of, most_program, solo_size, size_refusal, too_long, Unless}
use Rattle.llsc_files.specs.Programs.{image_of, program_refusal}
use Rattle.a32_step.specs.Machine.{a32}

-- a run of a program's one thread, with the report and the status by its stop
abbrev pub IsReported : Program → Numbers → ℕ → ℕ → List ℕ → Type 0
IsReported program size budget status text =
    (end : GuestEnd) × IsSoloEnd a32 program size budget end × (status ≡ status_of end.stop) × (text ≡ report_of budget (end ∷ []))

-- the status and the text for a format, so much memory, a budget and the bytes of the file
abbrev pub AnswersSolo : Format → ℕ → ℕ → List ℕ → ℕ → List ℕ → Type 0
AnswersSolo format mem budget file status text =
    let size = solo_size mem in
    Unless (program_refusal format size file) (IsReported (image_of format file size) size budget) status text

-- the history of threads that ran beside each other, where any did, the status and the text for a request and the bytes of its
-- files, in the order of their names
abbrev pub Answers : Request → List (List ℕ) → Option (List Entry) → ℕ → List ℕ → Type 0
Answers (Solo name format mem budget) (file ∷ []) story status text = (story ≡ None) × AnswersSolo format mem budget file status text
Answers (Run name format set first spare size budget) (file ∷ []) story status text = AnswersRun set format first spare size budget file story status text
Answers (Pool name format size workers slice budget) (file ∷ []) story status text = AnswersRun A32 format size.threads 0 size budget file story status text
Answers (Record name format size budget) (file ∷ []) story status text = AnswersRecord format size budget file story status text
Answers (Assemble name format) (file ∷ []) story status text = (story ≡ None) × AnswersAsm format file status text
Answers (Disassemble name format mem) (file ∷ []) story status text = (story ≡ None) × AnswersDis format mem file status text
Answers (Trace name format threads mem granule seed budget) (file ∷ []) story status text = (story ≡ None) × AnswersTrace format threads mem granule seed budget file status text
Answers (Check name other format mem) (file ∷ recorded ∷ []) story status text = (story ≡ None) × AnswersCheck format mem file recorded status text
Answers (Explain name other format mem) (file ∷ recorded ∷ []) story status text = (story ≡ None) × AnswersExplain format mem file recorded status text
Answers (Load seed threads rounds budget) [] story status text = AnswersLoad seed threads rounds budget story status text
Answers _ _ story status text = ⊥

-- a request's threads run freely and record what they do, so that any merge of what they did may be its answer
abbrev pub prints_any_merge : Request → Bool
prints_any_merge (Record name format size budget) = true
prints_any_merge _ = false

-- these are bytes that the files of these names may hold, one for each
abbrev pub AreFiles : (List ℕ → Option (List ℕ)) → (names files : List (List ℕ)) → Type 0
AreFiles held [] [] = Unit {0}
AreFiles held (name ∷ names) (file ∷ files) = AreBytes (held name) file × AreFiles held names files
AreFiles held _ _ = ⊥

-- these are the bytes that the files of these names are told to hold
abbrev pub AreTold : (List ℕ → Option (List ℕ)) → (names files : List (List ℕ)) → Type 0
AreTold held names files = map held names ≡ map Some files

-- a name is none of these
abbrev pub IsNoneOf : List (List ℕ) → List ℕ → Type 0
IsNoneOf names name = All (λ other. name ≢ other) names

-- A read of that name is due: the name is that of a request's file, and nothing stands against the request before that file
-- is read. What could: that there is no such machine (but not where a record says how many threads it has), and for the second
-- file that the first is too long.
abbrev pub IsDue : (List ℕ → Option (List ℕ)) → Request → List ℕ → Type 0
IsDue held (Solo file format mem budget) name = (name ≡ file) × (size_refusal (solo_size mem) ≡ None)
IsDue held (Run file format set first spare size budget) name = (name ≡ file) × (size_refusal size ≡ None)
IsDue held (Pool file format size workers slice budget) name = (name ≡ file) × (size_refusal size ≡ None)
IsDue held (Record file format size budget) name = (name ≡ file) × (size_refusal size ≡ None)
IsDue held (Assemble file format) name = name ≡ file
IsDue held (Disassemble file format mem) name = (name ≡ file) × (size_refusal (solo_size mem) ≡ None)
IsDue held (Trace file format threads mem granule seed budget) name = (name ≡ file) × (size_refusal (machine_of mem threads granule) ≡ None)
IsDue held (Check file recorded format mem) name =
    (name ≡ file) ⊎ ((name ≡ recorded) × ((bytes : List ℕ) × (AreBytes (held file) bytes × (too_long most_program bytes ≡ None))))
IsDue held (Explain file recorded format mem) name =
    (name ≡ file) ⊎ ((name ≡ recorded) × ((bytes : List ℕ) × (AreBytes (held file) bytes × (too_long most_program bytes ≡ None))))
IsDue held (Load seed threads rounds budget) name = ⊥

-- a request is answered so, by bytes that its files may hold
abbrev pub IsAnswer : (List ℕ → Option (List ℕ)) → Option Request → Option (List Entry) → ℕ → List ℕ → Type 0
IsAnswer held request story status text =
    (asked : Request) × (files : List (List ℕ))
    × ((request ≡ Some asked) × (AreFiles held (files_of asked) files × Answers asked files story status text))

-- the read of a request's file failed: the count rose, and the read of the name of the last failed read was due
abbrev pub ReadFailed : (List ℕ → Option (List ℕ)) → Option Request → ℕ → ℕ → List ℕ → Type 0
ReadFailed held request faults_before faults_after lost =
    Rose faults_before faults_after
    × ((asked : Request) × ((request ≡ Some asked) × IsDue held asked lost))

-- a front was written of the text that answers the words, of one that answers the request, or after a failed read of
-- the text that says so
abbrev pub IsCut : (List ℕ → Option (List ℕ)) → Option Request → Option (List Entry) → Type 0 → Option (List ℕ) → Option (List ℕ) → Type 0
IsCut held request story read_failed old new =
    ((request ≡ None) × (story ≡ None) × AddsFront old new words_text)
    ⊎ (((status : ℕ) × (text : List ℕ) × (IsAnswer held request story status text × AddsFront old new text))
    ⊎ (read_failed × (story ≡ None) × AddsFront old new read_text))
