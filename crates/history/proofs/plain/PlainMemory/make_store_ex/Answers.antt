use Rattle.std.proofs.Common.{sym, ap, ◌∙◌}
use Rattle.history.specs.Accesses.{entry_of}
use Rattle.history.specs.Monitor.{accessed}
use Rattle.history.specs.declared.entry.Cause.TheVariants.{Absent}
use Rattle.history.proofs.plain.PlainMemory.make_store_ex.Goals as goal

pub returns-clause-moved : goal.returns-clause-moved
returns-clause-moved c = c.if-store_ex.ensures.failed Absent ∙ ap (λ a. accessed c.args.self.now (entry_of a)) (sym c.with_deed.ensures)
