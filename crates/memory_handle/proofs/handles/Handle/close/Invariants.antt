-- The bytes of the cells so far.
use Rattle.std.proofs.Common.{◌≡◌, ◌≤◌, ◌*◌, take}
use Rattle.version_rule.specs.Left.{IsOver, cell_left}
use Rattle.version_memory.specs.Memory.{pass_home, pass_numbers, pass_seen}
use Rattle.memory_handle.specs.Handles.{handle_origin, handle_seen}
use Rattle.memory_handle.proofs.Written.{bytes_upto}
use Rattle.memory_handle.proofs.handles.Handle.close.Given as goal

abbrev pub invariant-loop-cell : goal.invariant-loop-cell
invariant-loop-cell l = record {
  home : pass_home l.pass ≡ pass_home l.fn.self.pass;
  numbers : pass_numbers l.pass ≡ pass_numbers l.fn.self.pass;
  seen : pass_seen l.pass ≡ handle_seen l.fn.self;
  over : 1 ≤ l.cell → IsOver (handle_origin l.fn.self) (handle_seen l.fn.self);
  bytes : take (8 * l.cell) l.bytes ≡ bytes_upto (cell_left (handle_origin l.fn.self) (handle_seen l.fn.self)) l.cell;
}
