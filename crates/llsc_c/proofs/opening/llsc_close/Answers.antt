-- The handle of the memory that was closed.
use Rattle.std.proofs.Common.{rules}
use Rattle.llsc_c.proofs.opening.llsc_close.Goals as goal

pub returns-clause-closed : goal.returns-clause-closed
returns-clause-closed c z = record {
  handle = c.into_inner.result;
  was = search rules;
  left = c.close.ensures.left;
}
