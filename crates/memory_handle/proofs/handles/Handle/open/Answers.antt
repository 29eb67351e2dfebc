use Rattle.std.proofs.lemmas.Result.{IfOk-from_err}
use Rattle.memory_handle.proofs.handles.Handle.open.Goals as goal

pub returns-in_err-memory-clause-origin : goal.returns-in_err-memory-clause-origin
returns-in_err-memory-clause-origin c = IfOk-from_err _ _ c.from_residual-in_err-memory.ensures.0

pub returns-in_err-memory-clause-seen : goal.returns-in_err-memory-clause-seen
returns-in_err-memory-clause-seen c = IfOk-from_err _ _ c.from_residual-in_err-memory.ensures.0

pub returns-in_err-memory-2-clause-origin : goal.returns-in_err-memory-2-clause-origin
returns-in_err-memory-2-clause-origin c = IfOk-from_err _ _ c.from_residual-in_err-memory-2.ensures.0

pub returns-in_err-memory-2-clause-seen : goal.returns-in_err-memory-2-clause-seen
returns-in_err-memory-2-clause-seen c = IfOk-from_err _ _ c.from_residual-in_err-memory-2.ensures.0

pub returns-in_err-memory-2-clause-all : goal.returns-in_err-memory-2-clause-all
returns-in_err-memory-2-clause-all c = IfOk-from_err _ _ c.from_residual-in_err-memory-2.ensures.0

pub returns-in_err-memory-2-clause-fresh : goal.returns-in_err-memory-2-clause-fresh
returns-in_err-memory-2-clause-fresh c = IfOk-from_err _ _ c.from_residual-in_err-memory-2.ensures.0
