use Rattle.llsc_base.proofs.Cells.{row_of-same_cell}
use Rattle.llsc_base.proofs.laws.rows_are_whole_cells.Goals as goal

pub returns : goal.returns
returns c = row_of-same_cell
