use Rattle.llsc_base.proofs.Cells.{is_aligned-in_cell}
use Rattle.row_bytes.proofs.Cells.{value_in_cell-cell_with_apart}
use Rattle.row_bytes.proofs.laws.put_keeps_other_places.Goals as goal

pub returns : goal.returns
returns c = value_in_cell-cell_with_apart c.args.cell c.args.place c.args.other c.args.value (is_aligned-in_cell c.args.place c.requires.aligned) (is_aligned-in_cell c.args.other c.requires.other_aligned) c.requires.apart
