-- Only proofs and inner contracts need these words beside those of `specs/Crews`.
use Rattle.std.specs.Prelude.{ℕ, List, [], ◌∷◌}
use Rattle.atomic_table.specs.Seated.{TableId}
use Rattle.llsc_base.specs.Images.{Program}
use Rattle.llsc_base.specs.Sizes.{Numbers}
use Rattle.history.specs.declared.entry.Entry.{Entry}
use Rattle.shared_memory.specs.Origin.{Origin, IsLegalFrom}
use Rattle.version_memory.specs.Memory.{pass_home, pass_numbers, pass_seen}
use Rattle.guest_core.specs.Machine.{InstructionSet}
use Rattle.guest_thread.specs.inner.Crews.{HaveEnded}
use Rattle.run_merge.specs.Logs.{IsLogOf}
use Rattle.run_merge.specs.declared.joins.Recorded.{Recorded}
use Rattle.run_merge.specs.declared.logs.Log.{Log}

-- the logs of these threads by a history, one of each, in this order
abbrev pub AreLogsOf : Numbers → List Entry → List ℕ → List Log → Type 0
AreLogsOf size history [] [] = Unit {0}
AreLogsOf size history [] (log ∷ logs) = ⊥
AreLogsOf size history (t ∷ ts) [] = ⊥
AreLogsOf size history (t ∷ ts) (log ∷ logs) = IsLogOf size t history log.entries.items log.count × AreLogsOf size history ts logs

-- the threads of these numbers were run, and have these logs, by what the pass of all of them has seen
pub record HaveLogged {I S : Type 0} (set : InstructionSet I S) (mem : TableId) (origin : Origin) (program : Program) (budget : ℕ) (threads : List ℕ) (recorded : Recorded) : Type 0 where
  pub ended : HaveEnded set pass_home pass_numbers pass_seen mem origin program budget threads recorded.ran
  pub logs : AreLogsOf origin.size (pass_seen recorded.ran.pass) threads recorded.logs.items
  pub legal : IsLegalFrom origin (pass_seen recorded.ran.pass)
