-- A condition has done nothing, and behind it the row of the instruction comes.
use Rattle.std.proofs.Common.{◌≡◌, ℕ, List, Bool, true, false}
use Rattle.a32_step.specs.RowActs.{is_whole, row_acts}
use Rattle.a32_step.proofs.CameOf.{IsOneOf}
use Rattle.a32_step.proofs.execution.Execution.come_kept.Given as goal

abbrev pub invariant-loop-row : goal.invariant-loop-row
invariant-loop-row g l = record {
  self : l.self ≡ l.fn.self;
  source : l.source ≡ l.fn.source;
  one : IsOneOf l.kept.row l.row;
  same : (had : List ℕ) → row_acts l.row l.kept.lowered l.image had l.fn.self.state ≡ row_acts l.kept.row l.kept.lowered l.image had l.fn.self.state;
}

abbrev pub tests : Bool → ℕ
tests true = 0
tests false = 1

abbrev pub decreases-loop-row : goal.decreases-loop-row
decreases-loop-row g l = tests (is_whole l.row)
