-- Only proofs and inner contracts need these words.
-- What the fields of an `Execution` stand for, and what holds of them.
use Rattle.std.specs.Prelude.{◌≡◌, ◌%◌}
use Rattle.a32_step.specs.declared.phases.Point.{Point}
use Rattle.a32_step.specs.declared.phases.Point.TheVariants as point
use Rattle.a32_step.specs.declared.phases.Hold.{Hold}
use Rattle.a32_step.specs.declared.phases.Hold.TheVariants as hold
use Rattle.llsc_base.specs.inner.Words.{AreWords}
use Rattle.a32_step.specs.inner.ExecutionState.{ExecutionState, Stage, Between, Inside, Awaiting, Calling, Stopped, HasRoom}
use Rattle.a32_step.specs.declared.execution.Execution.TheInside as fields

-- the stage of a thread that is held
abbrev pub stage_held : Hold → Stage
stage_held (hold.Access ask) = Awaiting ask
stage_held (hold.Call call) = Calling call
stage_held (hold.Stopped stop) = Stopped stop

abbrev pub stage_at : Point → Hold → Stage
stage_at point.Between held = Between
stage_at point.Inside held = Inside
stage_at point.Held held = stage_held held

abbrev pub execution_state_of : fields.Inside → ExecutionState
execution_state_of execution = record {
  state = record { regs = execution.regs; flags = execution.flags; pc = execution.pc };
  stage = stage_at execution.point execution.hold;
  replies = execution.replies;
}

abbrev pub IsSound : fields.Inside → Type 0
IsSound execution = (execution.pc % 4 ≡ 0) × AreWords execution.regs × HasRoom (stage_at execution.point execution.hold) execution.replies
