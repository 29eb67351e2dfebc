use Rattle.guest_thread.proofs.StockRun.{run_stockless, stockless_run}
use Rattle.guest_thread.proofs.laws.runs_without_a_stock.Goals as goal

pub returns-clause-plain : goal.returns-clause-plain
returns-clause-plain g c = stockless_run g.C.Core.set

pub returns-clause-all : goal.returns-clause-all
returns-clause-all g c = run_stockless g.C.Core.set
