-- How far a guest thread has come, so that whoever replies to it sees that it comes to an end.
use Rattle.std.specs.Prelude.{ℕ, ◌+◌, ◌*◌, ◌<◌, ◌≤◌, length}
use Rattle.guest_calls.specs.Calls.{most_output}
use Rattle.guest_thread.specs.ThreadState.{ThreadOf}

-- its instruction has had 16 replies at most, and its output is no longer than it may be
pub record IsBounded {I S : Type 0} (standing : ThreadOf I S) : Type 0 where
  pub replies : length standing.cpu.replies ≤ 16
  pub output : length standing.output ≤ most_output

-- its steps, the replies of its instruction, and the bytes that it wrote: a step is more than an instruction's 16 replies
abbrev pub headway_of : {I S : Type 0} → ThreadOf I S → ℕ
headway_of standing = 17 * standing.steps + length standing.cpu.replies + length standing.output

-- after a turn it has come no less far
pub record HasKept {I S : Type 0} (old new : ThreadOf I S) : Type 0 where
  pub bounded : IsBounded new
  pub later : headway_of old ≤ headway_of new

-- after a reply it has come further
pub record HasMoved {I S : Type 0} (old new : ThreadOf I S) : Type 0 where
  pub bounded : IsBounded new
  pub later : headway_of old < headway_of new
