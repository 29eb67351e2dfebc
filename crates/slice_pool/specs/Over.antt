-- In which of a guest's slices it ends.
use Rattle.std.specs.Prelude.{◌≤◌, ◌<◌, ◌-◌, ◌*◌, ℕ}
use Rattle.llsc_base.specs.declared.outside.Stop.{Stop}
use Rattle.llsc_base.specs.declared.outside.Stop.TheVariants.{Exit, Budget}

-- The number, from 0 up, of the step at which a thread of so many steps stopped: the last that it made, where that was the exit call
-- or its steps were used up; else the one that would have been next. A budget of none is used up at the first.
abbrev pub last_step : Stop → (steps : ℕ) → ℕ
last_step (Exit code) steps = steps - 1
last_step Budget steps = steps - 1
last_step _ steps = steps

-- the last of so many slices is that of the step of this number
pub record AreTurnsOf (slice turns step : ℕ) : Type 0 where
  pub least : (turns - 1) * slice ≤ step
  pub most : step < turns * slice
