-- Only proofs and inner contracts need these words.
-- What a call comes to: the text that is said of it, and the status.
use Rattle.std.specs.Prelude.{◌≡◌, ℕ, ◌⊎◌, ◌≤◌, List, [], ◌∷◌, length, string_bytes, Option, None}
use Rattle.history.specs.declared.entry.Entry.{Entry}
use Rattle.version_memory.specs.declared.passes.VersionStory.{VersionStory}
use Rattle.llsc_host.specs.Said.{words_text, read_text}
use Rattle.llsc_host.specs.declared.host.Host.{Ghosts}
use Rattle.llsc_host.specs.Writes.{Broke, Wrote}
use Rattle.llsc_files.specs.Reads.{IsDone}
use Rattle.llsc_files.specs.declared.refusals.Refusal.{Refusal}
use Rattle.llsc_files.specs.declared.refusals.Refusal.TheVariants as refusal
use Rattle.llsc_texts.specs.Disassembly.{disassembly}
use Rattle.llsc_report.specs.Report.{HasSums, report_of}
use Rattle.llsc_report.specs.Status.{status_of as status_of_stop, status_of_all}
use Rattle.llsc_report.specs.Summary.{counter_of, summary_by}
use Rattle.llsc_call.specs.Check.{verdict_status}
use Rattle.llsc_call.specs.Run.{told}
use Rattle.llsc_call.specs.declared.outcome.Outcome.{Outcome}
use Rattle.llsc_call.specs.declared.outcome.Outcome.TheVariants.{NoRequest, Unread, NoMemory, Refused, Assembled, Listed, Recorded, Judged, Explained, Alone, Beside, Counted}

-- what is said
abbrev pub text_of : Outcome → List ℕ
text_of NoRequest = words_text
text_of Unread = read_text
text_of NoMemory = []
text_of (Refused text) = string_bytes text
text_of (Assembled file) = file.items
text_of (Listed program) = disassembly program
text_of (Recorded text ends) = text.items
text_of (Judged verdict text) = string_bytes text
text_of (Explained explanation) = explanation
text_of (Alone budget end) = report_of budget (end ∷ [])
text_of (Beside budget ends) = report_of budget ends.items
text_of (Counted numbers rows) = summary_by numbers.seed numbers.threads numbers.rounds (counter_of rows)

-- the status where it is said whole
abbrev pub status_of : Outcome → ℕ
status_of NoRequest = 2
status_of Unread = 3
status_of NoMemory = 6
status_of (Refused text) = 4
status_of (Assembled file) = 0
status_of (Listed program) = 0
status_of (Recorded text ends) = status_of_all ends.items
status_of (Judged verdict text) = verdict_status verdict
status_of (Explained explanation) = 0
status_of (Alone budget end) = status_of_stop end.stop
status_of (Beside budget ends) = status_of_all ends.items
status_of (Counted numbers rows) = 0

-- the counts of all threads are numbers of 64 bits, and there are cells where the counters stand
abbrev pub CanBeSaid : Outcome → Type 0
CanBeSaid (Beside budget ends) = HasSums ends.items
CanBeSaid (Counted numbers rows) = 2000 ≤ length rows
CanBeSaid _ = Unit {0}

-- a refusal as an outcome
abbrev pub refused_by : Refusal → Outcome
refused_by (refusal.Said text) = Refused text
refused_by refusal.Memory = NoMemory

-- it answers a request by one of these answers, whole
pub record IsOneAnswer (answers : ℕ → List ℕ → Type 0) (outcome : Outcome) : Type 0 where
  pub sayable : CanBeSaid outcome
  pub done : IsDone (status_of outcome)
  pub is : answers (status_of outcome) (text_of outcome)

-- one of these answers, or want of memory
abbrev pub Gives : (ℕ → List ℕ → Type 0) → Outcome → Type 0
Gives answers outcome = (outcome ≡ NoMemory) ⊎ IsOneAnswer answers outcome

-- one of these answers by the history of a story, or want of memory, which has none
abbrev pub GivesBy : (Option (List Entry) → ℕ → List ℕ → Type 0) → Outcome → Option VersionStory → Type 0
GivesBy answers outcome story = ((outcome ≡ NoMemory) × (story ≡ None)) ⊎ IsOneAnswer (answers (told story)) outcome

-- it was said with a status: whole with its own, or with 5 where a write failed
abbrev pub Says : {S : Type 0} → Ghosts S → (old new : S) → Outcome → ℕ → Type 0
Says host old new outcome status =
    ((status ≡ status_of outcome) × Wrote host old new (text_of outcome)) ⊎ ((status ≡ 5) × Broke host old new (text_of outcome))
