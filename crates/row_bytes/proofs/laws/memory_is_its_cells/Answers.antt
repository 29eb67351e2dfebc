use Rattle.std.proofs.Common.{arith}
use Rattle.row_bytes.proofs.Memories.{length-bytes_of_cells, stored-bytes_of_cells, value_at-bytes_of_cells}
use Rattle.row_bytes.proofs.laws.memory_is_its_cells.Goals as goal

pub returns-clause-value : goal.returns-clause-value
returns-clause-value c = value_at-bytes_of_cells c.args.cells.now c.args.place c.requires.aligned (omega (arith, length-bytes_of_cells c.args.cells.now))

pub returns-clause-store : goal.returns-clause-store
returns-clause-store c = stored-bytes_of_cells c.args.cells.now c.args.place c.args.value c.requires.aligned (omega (arith, length-bytes_of_cells c.args.cells.now))
