-- The threads of a program that log their accesses: before they run, and behind it.
use Rattle.std.specs.Prelude.{◌≡◌, All, ◌+◌, ◌≤◌, [], vec_len, vec_capacity}
use Rattle.atomic_table.specs.Seated.{TableId}
use Rattle.llsc_base.specs.Images.{Program}
use Rattle.shared_memory.specs.Origin.{Origin}
use Rattle.version_memory.specs.Memory.{pass_home, pass_numbers, pass_seen}
use Rattle.guest_core.specs.Machine.{InstructionSet, MachineOf}
use Rattle.guest_thread.specs.Crews.{HaveSeen, IsReadyCrew}
use Rattle.run_record.specs.Limits.{most_accesses}
use Rattle.run_merge.specs.declared.crews.LogCrew.{LogCrew}
use Rattle.run_merge.specs.declared.logs.Log.{Log}

-- a log of nothing, with room for as many accesses as a record may have
pub record IsUnused (log : Log) : Type 0 where
  pub none : log.entries.items ≡ []
  pub zero : log.count ≡ 0
  pub room : most_accesses ≤ vec_capacity log.entries

module _ {I S : Type 0} (set : InstructionSet I S) {C : Type 0} (machine : C → MachineOf I S) where
  -- the jobs of all threads, of instructions of this set on cores that stand for its machines, each of which is at its start and has
  -- seen nothing, and a log for each
  pub record IsReadyToLog {R : Type 0} (mem : TableId) (origin : Origin) (program : Program) (crew : LogCrew C R) : Type 0 where
    pub ready : IsReadyCrew set machine pass_home pass_numbers pass_seen mem origin program crew.crew
    pub first : pass_seen crew.crew.first_job.pass ≡ []
    pub others : HaveSeen pass_seen [] crew.crew.jobs.items
    pub unused : All IsUnused crew.logs.items
    pub many : vec_len crew.logs ≡ vec_len crew.crew.jobs + 1
