use Rattle.llsc_base.proofs.Cells.{is_aligned-in_cell}
use Rattle.row_bytes.proofs.Cells.{value_in_cell-cell_with}
use Rattle.row_bytes.proofs.laws.put_sets_its_place.Goals as goal

pub returns : goal.returns
returns c = value_in_cell-cell_with c.args.cell c.args.place c.args.value (is_aligned-in_cell c.args.place c.requires.aligned) c.requires.fits
