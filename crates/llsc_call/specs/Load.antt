-- What `load` answers, and with which history: the counter guest of a seed runs, and says what its counters hold at the end.
use Rattle.std.specs.Prelude.{◌≡◌, ℕ, ◌<◌, ◌&&◌, if◌then◌else◌, List, Option, Some, None, codes}
use Rattle.std.specs.Option.{option_or}
use Rattle.llsc_base.specs.Images.{Program}
use Rattle.llsc_base.specs.Sizes.{Numbers, is_threads}
use Rattle.guest_gen.specs.Counters.{counter_image, counter_in, counters, is_rounds}
use Rattle.guest_gen.specs.Namings.{namings_of}
use Rattle.history.specs.declared.entry.Entry.{Entry}
use Rattle.guest_thread.specs.Outcome.{IsOutcome}
use Rattle.guest_thread.specs.declared.ends.GuestEnd.{GuestEnd}
use Rattle.llsc_words.specs.Request.{default_mem}
use Rattle.llsc_files.specs.Refusals.{machine_of, size_refusal}
use Rattle.llsc_report.specs.Report.{report_of}
use Rattle.llsc_call.specs.Beside.{left_by}
use Rattle.llsc_call.specs.Run.{UnlessRun}
use Rattle.llsc_call.specs.Versions.{KeepsVersions}
use Rattle.llsc_report.specs.Summary.{load_summary}
use Rattle.llsc_report.specs.Status.{have_left, status_of_all}
use Rattle.a32_step.specs.Machine.{a32}

-- the machine of so many threads on which a load runs
abbrev pub load_size : ℕ → Numbers
load_size threads = machine_of default_mem threads 0

-- the program of a load on that machine
abbrev pub load_program : (seed threads rounds : ℕ) → Program
load_program seed threads rounds = counter_image seed rounds (load_size threads)

-- there is a counter guest of 1 to 16 threads and 1 to 50,000 rounds, and of no others
abbrev pub guest_refusal : (threads rounds : ℕ) → Option (List ℕ)
guest_refusal threads rounds = if is_threads threads && is_rounds rounds then None else Some (codes "Range")

-- what stands against a load: that there is no such machine, or no such guest
abbrev pub load_refusal : (threads rounds : ℕ) → Option (List ℕ)
load_refusal threads rounds = option_or (size_refusal (load_size threads)) (guest_refusal threads rounds)

-- each counter holds, in the memory that a history leaves, how many rounds of the threads name it
abbrev pub CountsEveryRound : (seed threads rounds : ℕ) → List Entry → Type 0
CountsEveryRound seed threads rounds history =
    (index : ℕ) → index < counters
    → counter_in (left_by (load_program seed threads rounds) (load_size threads) history) index ≡ namings_of seed threads rounds index

-- what is printed: where each thread left with code 0 the summary, by the numbers of the load alone, and else the report of the
-- threads' ends
abbrev pub load_text : (seed threads rounds budget : ℕ) → List GuestEnd → List ℕ
load_text seed threads rounds budget ends =
    if have_left ends then load_summary seed threads rounds else report_of budget ends

-- the text of a load by a history, which is legal, complete, of the guest's threads and of memory kept by versions, and the
-- status by their stops
abbrev pub IsLoadOf : List Entry → (seed threads rounds budget : ℕ) → ℕ → List ℕ → Type 0
IsLoadOf history seed threads rounds budget status text =
    let program = load_program seed threads rounds in
    let size = load_size threads in
    (ends : List GuestEnd) × (IsOutcome a32 program size budget history ends × (KeepsVersions size history
    × ((status ≡ status_of_all ends) × (text ≡ load_text seed threads rounds budget ends))))

-- threads that ran have a history, and what is printed is by it
abbrev pub TellsLoad : Option (List Entry) → (seed threads rounds budget : ℕ) → ℕ → List ℕ → Type 0
TellsLoad None seed threads rounds budget status text = ⊥
TellsLoad (Some history) seed threads rounds budget status text = IsLoadOf history seed threads rounds budget status text

-- the history, the status and the text for a seed, so many threads and rounds, and a budget
abbrev pub AnswersLoad : (seed threads rounds budget : ℕ) → Option (List Entry) → ℕ → List ℕ → Type 0
AnswersLoad seed threads rounds budget story = UnlessRun (load_refusal threads rounds) story (TellsLoad story seed threads rounds budget)
