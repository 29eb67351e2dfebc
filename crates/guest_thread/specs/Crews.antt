-- The guest threads of a program on a memory that threads share: at their start, and at their end.
use Rattle.std.specs.Prelude.{◌≡◌, All, ℕ, ◌<◌, Bool, List, [], ◌∷◌, map, vec_len, vec_capacity}
use Rattle.std.specs.List.{range_with_len}
use Rattle.atomic_table.specs.Seated.{TableId}
use Rattle.llsc_base.specs.Images.{Program}
use Rattle.history.specs.Parts.{entries_of}
use Rattle.history.specs.declared.entry.Entry.{Entry}
use Rattle.shared_memory.specs.Origin.{Origin}
use Rattle.shared_memory.specs.Seen.{IsSingle}
use Rattle.guest_core.specs.Machine.{MachineOf, InstructionSet}
use Rattle.guest_thread.specs.Start.{thread_start}
use Rattle.guest_thread.specs.declared.crews.Crew.{Crew}
use Rattle.guest_thread.specs.declared.crews.Job.{Job}

-- the threads of an instruction set on cores that stand for its machines; and what a memory says of a pass: which memory made it, which
-- numbers it holds, and what it has seen
module _ {I S : Type 0} (set : InstructionSet I S) {C : Type 0} (machine : C → MachineOf I S)
    {P : Type 0} (home : P → TableId) (numbers : P → ℕ → Bool) (seen : P → List Entry) where
  -- a thread that begins by itself is at its start, and has a pass of the memory that holds its number alone, with no access
  pub record IsFresh {R : Type 0} (mem : TableId) (origin : Origin) (program : Program) (job : Job P C R) : Type 0 where
    pub memory : home job.pass ≡ mem
    pub single : IsSingle job.thread (numbers job.pass)
    pub first : job.thread < origin.first
    pub none : entries_of job.thread (seen job.pass) ≡ []
    pub code : job.code.program ≡ program
    pub start : machine job.cpu ≡ thread_start set program origin.size origin.first job.thread
    pub empty : job.out ≡ []

  -- each of them is
  abbrev pub AreFresh : {R : Type 0} → TableId → Origin → Program → List (Job P C R) → Type 0
  AreFresh mem origin program [] = Unit {0}
  AreFresh mem origin program (job ∷ jobs) = IsFresh mem origin program job × AreFresh mem origin program jobs

-- each of these threads has a pass that has seen just this
abbrev pub HaveSeen : {P C R : Type 0} → (P → List Entry) → List Entry → List (Job P C R) → Type 0
HaveSeen seen history jobs = All (λ job. seen job.pass ≡ history) jobs

-- whose jobs they are
abbrev pub threads_of : {P C R : Type 0} → List (Job P C R) → List ℕ
threads_of jobs = map (λ job. job.thread) jobs

module _ {I S : Type 0} (set : InstructionSet I S) {C : Type 0} (machine : C → MachineOf I S)
    {P : Type 0} (home : P → TableId) (numbers : P → ℕ → Bool) (seen : P → List Entry) where
  -- the jobs of all threads of the memory, each of which begins by itself and is at its start, in order of number, with room for
  -- their ends
  pub record IsReadyCrew {R : Type 0} (mem : TableId) (origin : Origin) (program : Program) (crew : Crew P C R) : Type 0 where
    pub begin : origin.first ≡ origin.size.threads
    pub first_job : IsFresh set machine home numbers seen mem origin program crew.first_job
    pub others : AreFresh set machine home numbers seen mem origin program crew.jobs.items
    pub threads : threads_of (crew.first_job ∷ crew.jobs.items) ≡ range_with_len 0 origin.size.threads
    pub empty : (crew.ends.items ≡ []) × (vec_len crew.ends ≡ 0)
    pub room : vec_len crew.jobs < vec_capacity crew.ends
