-- Only proofs and inner contracts need these words.
-- An instruction as it is carried out, the instruction itself being held elsewhere.
use Rattle.std.specs.Prelude.{◌≡◌, ◌<◌, ℕ, List, [], length}
use Rattle.a32_instr.specs.declared.instructions.Instr.{Instr}
use Rattle.llsc_base.specs.declared.outside.Ask.{Ask}
use Rattle.llsc_base.specs.declared.outside.CallAsk.{CallAsk}
use Rattle.llsc_base.specs.declared.outside.Stop.{Stop}
use Rattle.a32_instr.specs.State.{State, Effect}
use Rattle.llsc_base.specs.Effects.{asks, calls, completes, stops}
use Rattle.a32_step.specs.declared.phases.Progress.{Progress}
use Rattle.a32_step.specs.declared.phases.Progress.TheVariants.{Complete, Held}
use Rattle.guest_core.specs.declared.phases.Wanted.{Wanted}
use Rattle.guest_core.specs.declared.phases.Wanted.TheVariants as wanted
use Rattle.a32_step.specs.Machine.{Machine}
use Rattle.a32_step.specs.inner.Machine.{Phase}
use Rattle.guest_core.specs.Phase as phase

-- A phase without its instruction.
pub data Stage : Type 0 where
  Between : Stage
  Inside : Stage
  Awaiting : Ask → Stage
  Calling : CallAsk → Stage
  Stopped : Stop → Stage

-- The state from which the instruction began, how far it has come, and the replies that it has had.
pub record ExecutionState : Type 0 where
  pub state : State
  pub stage : Stage
  pub replies : List ℕ

-- between two instructions, in this state
abbrev pub resting : State → ExecutionState
resting state = record { state = state; stage = Between; replies = [] }

-- after an effect; where it is complete the instruction's stage and replies are left to `settled`
abbrev pub moves : ExecutionState → Effect → ExecutionState
moves standing (asks ask) = record standing { stage = Awaiting ask }
moves standing (calls call) = record standing { stage = Calling call }
moves standing (completes state) = record standing { state = state }
moves standing (stops stop) = record standing { stage = Stopped stop }

-- an instruction that is complete is over
abbrev pub settled : Progress → ExecutionState → ExecutionState
settled Complete standing = resting standing.state
settled Held standing = standing

-- an access is awaited
abbrev pub IsAwaited : Stage → Type 0
IsAwaited Between = ⊥
IsAwaited Inside = ⊥
IsAwaited (Awaiting ask) = Unit {0}
IsAwaited (Calling call) = ⊥
IsAwaited (Stopped stop) = ⊥

-- a call is awaited
abbrev pub IsCalled : Stage → Type 0
IsCalled Between = ⊥
IsCalled Inside = ⊥
IsCalled (Awaiting ask) = ⊥
IsCalled (Calling call) = Unit {0}
IsCalled (Stopped stop) = ⊥

-- an instruction has had no reply before it begins, and room is left for one that is awaited
abbrev pub HasRoom : Stage → List ℕ → Type 0
HasRoom Between replies = replies ≡ []
HasRoom Inside replies = Unit {0}
HasRoom (Awaiting ask) replies = length replies < 16
HasRoom (Calling call) replies = Unit {0}
HasRoom (Stopped stop) replies = Unit {0}

-- what is wanted once an instruction is complete, or is held at this stage
abbrev pub wanted_at : Progress → Stage → Wanted
wanted_at Complete stage = wanted.Done
wanted_at Held Between = wanted.Done
wanted_at Held Inside = wanted.Done
wanted_at Held (Awaiting ask) = wanted.Access ask
wanted_at Held (Calling call) = wanted.Call call
wanted_at Held (Stopped stop) = wanted.Stopped stop

-- the phase of a stage of this instruction
abbrev pub phase_of : Instr → Stage → Phase
phase_of instr Between = phase.Between
phase_of instr Inside = phase.Inside instr
phase_of instr (Awaiting ask) = phase.Awaiting instr ask
phase_of instr (Calling call) = phase.Calling call
phase_of instr (Stopped stop) = phase.Stopped stop

-- the machine that stands so in this instruction
abbrev pub machine_in : Instr → ExecutionState → Machine
machine_in instr standing = record { state = standing.state; phase = phase_of instr standing.stage; replies = standing.replies }
