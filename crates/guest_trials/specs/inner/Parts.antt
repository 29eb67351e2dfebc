-- Only proofs and inner contracts need these words.
-- A part that may go on up to so many steps.
use Rattle.std.specs.Prelude.{◌≡◌, ◌≤◌, ℕ, Bool, List}
use Rattle.atomic_table.specs.Seated.{TableId}
use Rattle.history.specs.Started.{MayAct}
use Rattle.history.specs.declared.entry.Entry.{Entry}
use Rattle.shared_memory.specs.Origin.{Origin}
use Rattle.shared_memory.specs.Seen.{IsSingle}
use Rattle.guest_core.specs.Machine.{between}
use Rattle.a32_step.specs.Machine.{Machine}
use Rattle.guest_thread.specs.Pieces.{CountFew, counts_by}
use Rattle.guest_thread.specs.declared.pieces.Part.{Part}

-- its pass is of this memory and holds the number alone of a thread that may act, it is between two instructions, it counts few accesses,
-- and it has made no more steps
pub record MayGoOn {P : Type 0} (home : P → TableId) (numbers : P → ℕ → Bool) (seen : P → List Entry) (mem : TableId) (origin : Origin) (upto : ℕ) (part : Part P Machine) : Type 0 where
  pub memory : home part.pass ≡ mem
  pub single : (t : ℕ) × IsSingle t (numbers part.pass) × (MayAct origin.first t (seen part.pass))
  pub between : part.cpu ≡ between part.cpu.state
  pub few : CountFew (counts_by part) part.steps part.out
  pub within : part.steps ≤ upto
