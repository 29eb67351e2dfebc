-- The place's bits out and others in is the cell with the place set.
use Rattle.std.proofs.Common.{arith}
use Rattle.llsc_base.proofs.Cells.{is_aligned-in_cell}
use Rattle.row_bytes.proofs.Cells.{put-is, cell_with-lt}
use Rattle.row_bytes.proofs.put.Goals as goal

pub overflow_sub-result : goal.overflow_sub-result
overflow_sub-result c = (put-is c.args.cell c.args.place c.args.value c.take.result c.shift-shift.result c.requires.aligned c.requires.fits (omega arith) c.take.ensures.value c.shift-shift.ensures).0

pub overflow_add-result : goal.overflow_add-result
overflow_add-result c =
    let is = (put-is c.args.cell c.args.place c.args.value c.take.result c.shift-shift.result c.requires.aligned c.requires.fits (omega arith) c.take.ensures.value c.shift-shift.ensures).1 in
    let small = cell_with-lt c.args.cell c.args.place c.args.value (is_aligned-in_cell c.args.place c.requires.aligned) in
    rw is (omega arith)

pub returns : goal.returns
returns c = (put-is c.args.cell c.args.place c.args.value c.take.result c.shift-shift.result c.requires.aligned c.requires.fits (omega arith) c.take.ensures.value c.shift-shift.ensures).1
