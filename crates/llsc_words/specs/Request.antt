-- What the words of a call ask for.
use Rattle.std.specs.Prelude.{◌≡◌, ℕ, ◌+◌, ◌*◌, ◌≤◌, ◌^◌, Bool, true, ◌&&◌, ◌==◌, nat_le, List, [], ◌∷◌, Option, Some, None, if◌then◌else◌}
use Rattle.std.specs.Option.{option_and_then}
use Rattle.llsc_base.specs.Sizes.{Numbers, numbers}
use Rattle.llsc_base.specs.Limits.{most_budget}
use Rattle.number_text.specs.Decimal.{plain_number}
use Rattle.llsc_words.specs.declared.formats.Format.{Format}
use Rattle.llsc_words.specs.declared.formats.Format.TheVariants.{Elf, Flat}
use Rattle.llsc_words.specs.declared.sets.SetName.{SetName}
use Rattle.llsc_words.specs.declared.sets.SetName.TheVariants.{A32, Rv32}
use Rattle.llsc_words.specs.declared.requests.Request.{Request as Call}
use Rattle.llsc_words.specs.declared.requests.Request.TheVariants as call
use Rattle.llsc_words.specs.declared.requests.MachineNumbers.{MachineNumbers}
use Rattle.llsc_words.specs.declared.requests.RunNumbers.{RunNumbers}
use Rattle.llsc_words.specs.declared.names.CommandName.{CommandName}
use Rattle.llsc_words.specs.declared.names.CommandName.TheVariants as name
use Rattle.llsc_words.specs.Commands.{app_by}
use Rattle.llsc_words.specs.Given.{Given, given_in}
use Rattle.llsc_words.specs.Names.{command_named}

-- what a call asks for: to run the file of that name, of that format, as one thread, with so many bytes of memory and so many
-- steps; to run it, of that instruction set, as so many threads of a machine beside each other, each of which may start so many
-- more; to run it as all threads of a machine on so many workers, so many steps of each at a time; to run it as all threads of a
-- machine beside each other, and to record what each does; to assemble the text of that name as a file of that format; to show a file as text, in so many bytes of memory; to run a file as so many
-- guest threads on one host thread, with rows of a granule and in the order that a seed fixes, and to record that; to check
-- such a record, the second file, against a program; to explain why the store-exclusives of such a record failed; or to run the
-- counter guest of a seed, as so many threads of so many rounds each, with so many steps for each
pub data Request : Type 0 where
  Solo : (file : List ℕ) (format : Format) (mem budget : ℕ) → Request
  Run : (file : List ℕ) (format : Format) (set : SetName) (first spare : ℕ) (size : Numbers) (budget : ℕ) → Request
  Pool : (file : List ℕ) (format : Format) (size : Numbers) (workers slice budget : ℕ) → Request
  Record : (file : List ℕ) (format : Format) (size : Numbers) (budget : ℕ) → Request
  Assemble : (file : List ℕ) (format : Format) → Request
  Disassemble : (file : List ℕ) (format : Format) (mem : ℕ) → Request
  Trace : (file : List ℕ) (format : Format) (threads mem granule seed budget : ℕ) → Request
  Check : (file recorded : List ℕ) (format : Format) (mem : ℕ) → Request
  Explain : (file recorded : List ℕ) (format : Format) (mem : ℕ) → Request
  Load : (seed threads rounds budget : ℕ) → Request

-- the names of a request's files, in the order in which they are read
abbrev pub files_of : Request → List (List ℕ)
files_of (Solo file format mem budget) = file ∷ []
files_of (Run file format set first spare size budget) = file ∷ []
files_of (Pool file format size workers slice budget) = file ∷ []
files_of (Record file format size budget) = file ∷ []
files_of (Assemble file format) = file ∷ []
files_of (Disassemble file format mem) = file ∷ []
files_of (Trace file format threads mem granule seed budget) = file ∷ []
files_of (Check file recorded format mem) = file ∷ recorded ∷ []
files_of (Explain file recorded format mem) = file ∷ recorded ∷ []
files_of (Load seed threads rounds budget) = []

-- the bytes of memory where none are given
abbrev pub default_mem : ℕ
default_mem = 1048576

-- the steps that a thread has where no budget is given
abbrev pub default_budget : ℕ
default_budget = 100000000

-- the threads, how many each may start, the granule, the classes and the writes of a class where none are given for a run
abbrev pub run_threads : ℕ
run_threads = 2

abbrev pub run_spare : ℕ
run_spare = 0

abbrev pub run_granule : ℕ
run_granule = 0

abbrev pub run_classes : ℕ
run_classes = 4096

abbrev pub run_limit : ℕ
run_limit = 2 ^ 62

-- the workers, and the steps that a guest runs at a time, where none are given for a pool; its other numbers are those of a run
abbrev pub pool_workers : ℕ
pool_workers = 2

abbrev pub pool_slice : ℕ
pool_slice = 1000

-- the steps of a thread where none are given for a run that its threads record; its other numbers are those of a run
abbrev pub record_budget : ℕ
record_budget = 10000

-- the threads, the granule, the seed and the steps of a thread where none are given for a trace
abbrev pub trace_threads : ℕ
trace_threads = 2

abbrev pub trace_granule : ℕ
trace_granule = 0

abbrev pub trace_seed : ℕ
trace_seed = 0

abbrev pub trace_budget : ℕ
trace_budget = 10000

-- the threads and the rounds of each where none are given for a load
abbrev pub load_threads : ℕ
load_threads = 2

abbrev pub load_rounds : ℕ
load_rounds = 1000

-- the number that a value is, None where it is none or isn't given
abbrev pub number_in : Option (List ℕ) → Option ℕ
number_in None = None
number_in (Some text) = plain_number text

-- the number that an option's value is, None where it is none, and the default where no value is given
abbrev pub number_or : ℕ → Option (List ℕ) → Option ℕ
number_or default None = Some default
number_or default (Some text) = plain_number text

-- a budget is 1 to 1,000,000,000,000 steps
abbrev pub is_budget : ℕ → Bool
is_budget budget = nat_le 1 budget && nat_le budget most_budget

abbrev pub in_range : Option ℕ → Option ℕ
in_range None = None
in_range (Some budget) = if is_budget budget then Some budget else None

abbrev pub budget_or : ℕ → Option (List ℕ) → Option ℕ
budget_or default text = in_range (number_or default text)

-- a pool has 1 to 4 workers
abbrev pub is_workers : ℕ → Bool
is_workers workers = nat_le 1 workers && nat_le workers 4

abbrev pub some_workers : Option ℕ → Option ℕ
some_workers None = None
some_workers (Some workers) = if is_workers workers then Some workers else None

abbrev pub workers_or : ℕ → Option (List ℕ) → Option ℕ
workers_or default text = some_workers (number_or default text)

-- a thread of RISC-V instructions may start no others
abbrev pub may_start : SetName → ℕ → Bool
may_start A32 spare = true
may_start Rv32 spare = spare == 0

abbrev pub some_spare : SetName → Option ℕ → Option ℕ
some_spare set None = None
some_spare set (Some spare) = if may_start set spare then Some spare else None

abbrev pub spare_or : ℕ → SetName → Option (List ℕ) → Option ℕ
spare_or default set text = some_spare set (number_or default text)

-- the format of the file
abbrev pub format_of : Given → Format
format_of given = if given.flat then Flat else Elf

-- the instruction set of the program
abbrev pub set_of : Given → SetName
set_of given = if given.rv then Rv32 else A32

-- Each command asks for nothing where one of its numbers is none, or its budget is out of its range; nor does a pool whose workers
-- are out of theirs, or whose slice is out of the range of a budget, nor a run whose threads can't start others and are to.

abbrev pub solo_by : Option (List ℕ) → Format → Option ℕ → Option ℕ → Option Request
solo_by (Some file) format (Some mem) (Some budget) = Some (Solo file format mem budget)
solo_by _ _ _ _ = None

abbrev pub solo_for : Given → Option Request
solo_for given = solo_by given.file (format_of given) (number_or default_mem given.mem) (budget_or default_budget given.budget)

-- the machine of these numbers
abbrev pub machine_by : MachineNumbers → Numbers
machine_by n = record (numbers n.mem n.threads n.classes n.limit) { granule = n.granule }

-- the machine that a run, a pool or a record asks for, with the threads that begin by themselves
abbrev pub machine_of : (mem threads classes limit granule : Option ℕ) → Option MachineNumbers
machine_of (Some mem) (Some threads) (Some classes) (Some limit) (Some granule) =
    Some (record { mem = mem; threads = threads; classes = classes; limit = limit; granule = granule })
machine_of _ _ _ _ _ = None

abbrev pub machine_for : Given → Option MachineNumbers
machine_for given =
    machine_of (number_or default_mem given.mem) (number_or run_threads given.threads) (number_or run_classes given.classes)
    (number_or run_limit given.limit) (number_or run_granule given.granule)

-- the threads of a run's machine are those that begin by themselves and those that each of them may start, whatever number that is
abbrev pub run_by : Option (List ℕ) → Format → SetName → Option MachineNumbers → (spare budget : Option ℕ) → Option Request
run_by (Some file) format set (Some machine) (Some spare) (Some budget) =
    Some (Run file format set machine.threads spare (record (machine_by machine) { threads = machine.threads * (1 + spare) }) budget)
run_by _ _ _ _ _ _ = None

abbrev pub run_for : Given → Option Request
run_for given =
    run_by given.file (format_of given) (set_of given) (machine_for given) (spare_or run_spare (set_of given) given.spare)
    (budget_or default_budget given.budget)

abbrev pub pool_by : Option (List ℕ) → Format → Option MachineNumbers → (workers slice budget : Option ℕ) → Option Request
pool_by (Some file) format (Some machine) (Some workers) (Some slice) (Some budget) =
    Some (Pool file format (machine_by machine) workers slice budget)
pool_by _ _ _ _ _ _ = None

abbrev pub pool_for : Given → Option Request
pool_for given =
    pool_by given.file (format_of given) (machine_for given) (workers_or pool_workers given.workers) (budget_or pool_slice given.slice)
    (budget_or default_budget given.budget)

abbrev pub record_by : Option (List ℕ) → Format → Option MachineNumbers → Option ℕ → Option Request
record_by (Some file) format (Some machine) (Some budget) = Some (Record file format (machine_by machine) budget)
record_by _ _ _ _ = None

abbrev pub record_for : Given → Option Request
record_for given = record_by given.file (format_of given) (machine_for given) (budget_or record_budget given.budget)

abbrev pub assemble_by : Option (List ℕ) → Format → Option Request
assemble_by (Some file) format = Some (Assemble file format)
assemble_by _ _ = None

abbrev pub assemble_for : Given → Option Request
assemble_for given = assemble_by given.file (format_of given)

abbrev pub disassemble_by : Option (List ℕ) → Format → Option ℕ → Option Request
disassemble_by (Some file) format (Some mem) = Some (Disassemble file format mem)
disassemble_by _ _ _ = None

abbrev pub disassemble_for : Given → Option Request
disassemble_for given = disassemble_by given.file (format_of given) (number_or default_mem given.mem)

abbrev pub trace_by : Option (List ℕ) → Format → (threads mem granule seed budget : Option ℕ) → Option Request
trace_by (Some file) format (Some threads) (Some mem) (Some granule) (Some seed) (Some budget) = Some (Trace file format threads mem granule seed budget)
trace_by _ _ _ _ _ _ _ = None

abbrev pub trace_for : Given → Option Request
trace_for given =
    trace_by given.file (format_of given) (number_or trace_threads given.threads) (number_or default_mem given.mem)
    (number_or trace_granule given.granule) (number_or trace_seed given.seed) (budget_or trace_budget given.budget)

abbrev pub check_by : (file recorded : Option (List ℕ)) → Format → Option ℕ → Option Request
check_by (Some file) (Some recorded) format (Some mem) = Some (Check file recorded format mem)
check_by _ _ _ _ = None

abbrev pub check_for : Given → Option Request
check_for given = check_by given.file given.recorded (format_of given) (number_or default_mem given.mem)

abbrev pub explain_by : (file recorded : Option (List ℕ)) → Format → Option ℕ → Option Request
explain_by (Some file) (Some recorded) format (Some mem) = Some (Explain file recorded format mem)
explain_by _ _ _ _ = None

abbrev pub explain_for : Given → Option Request
explain_for given = explain_by given.file given.recorded (format_of given) (number_or default_mem given.mem)

abbrev pub load_by : (seed threads rounds budget : Option ℕ) → Option Request
load_by (Some seed) (Some threads) (Some rounds) (Some budget) = Some (Load seed threads rounds budget)
load_by _ _ _ _ = None

abbrev pub load_for : Given → Option Request
load_for given =
    load_by (number_in given.number) (number_or load_threads given.threads) (number_or load_rounds given.rounds)
    (budget_or default_budget given.budget)

-- what a command asks for by what the words behind it give
abbrev pub request_by : CommandName → Given → Option Request
request_by name.Solo given = solo_for given
request_by name.Run given = run_for given
request_by name.Pool given = pool_for given
request_by name.Record given = record_for given
request_by name.Asm given = assemble_for given
request_by name.Dis given = disassemble_for given
request_by name.Trace given = trace_for given
request_by name.Check given = check_for given
request_by name.Explain given = explain_for given
request_by name.Load given = load_for given

-- what a command asks for with the words behind it
abbrev pub request_in : CommandName → List (List ℕ) → Option Request
request_in command words = option_and_then (request_by command) (given_in (app_by command) words)

-- what the words ask for, None where they are refused
abbrev pub request_of : List (List ℕ) → Option Request
request_of [] = None
request_of (word ∷ words) = option_and_then (λ command. request_in command words) (command_named word)

-- the machine of a run, with all threads that it may have
abbrev pub size_of_run : RunNumbers → Numbers
size_of_run n = record (machine_by n.machine) { threads = n.machine.threads * (1 + n.spare) }

-- what borrows from the words, as what it is
abbrev pub asked : Call → Request
asked (call.Solo file format mem budget) = Solo file.now format mem budget
asked (call.Run file format set n) = Run file.now format set n.machine.threads n.spare (size_of_run n) n.budget
asked (call.Pool file format n) = Pool file.now format (machine_by n.machine) n.workers n.slice n.budget
asked (call.Record file format n) = Record file.now format (machine_by n.machine) n.budget
asked (call.Assemble file format) = Assemble file.now format
asked (call.Disassemble file format mem) = Disassemble file.now format mem
asked (call.Trace file format numbers) = Trace file.now format numbers.threads numbers.mem numbers.granule numbers.seed numbers.budget
asked (call.Check file recorded format mem) = Check file.now recorded.now format mem
asked (call.Explain file recorded format mem) = Explain file.now recorded.now format mem
asked (call.Load n) = Load n.seed n.threads n.rounds n.budget

-- a request's budget, where it has one, is in its range, and so are the workers and the slice of a pool, and of a run how many
-- threads each may start, by its instruction set
abbrev pub HasBudget : Call → Type 0
HasBudget (call.Solo file format mem budget) = (1 ≤ budget) × (budget ≤ most_budget)
HasBudget (call.Run file format set numbers) =
    ((1 ≤ numbers.budget) × (numbers.budget ≤ most_budget)) × (may_start set numbers.spare ≡ true)
HasBudget (call.Pool file format numbers) =
    ((1 ≤ numbers.budget) × (numbers.budget ≤ most_budget)) × (1 ≤ numbers.slice) × ((1 ≤ numbers.workers) × (numbers.workers ≤ 4))
HasBudget (call.Record file format numbers) = (1 ≤ numbers.budget) × (numbers.budget ≤ most_budget)
HasBudget (call.Trace file format numbers) = (1 ≤ numbers.budget) × (numbers.budget ≤ most_budget)
HasBudget (call.Load numbers) = (1 ≤ numbers.budget) × (numbers.budget ≤ most_budget)
HasBudget _ = Unit {0}
