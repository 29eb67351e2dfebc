-- Only proofs and inner contracts need these words.
-- How far an instruction has come.
use Rattle.std.specs.Prelude.{Option, Some, None}
use Rattle.llsc_base.specs.declared.outside.Stop.{Stop}
use Rattle.a32_instr.specs.State.{Effect}
use Rattle.llsc_base.specs.Effects.{asks, calls, completes, stops}
use Rattle.a32_step.specs.declared.phases.Progress.{Progress}
use Rattle.a32_step.specs.declared.phases.Progress.TheVariants.{Complete, Held}

-- an instruction that asks, calls or stops is held
abbrev pub progress_of : Effect → Progress
progress_of (asks ask) = Held
progress_of (calls call) = Held
progress_of (completes state) = Complete
progress_of (stops stop) = Held

-- the stop of an effect that stops the thread
abbrev pub stop_of : Effect → Option Stop
stop_of (asks ask) = None
stop_of (calls call) = None
stop_of (completes state) = None
stop_of (stops stop) = Some stop
