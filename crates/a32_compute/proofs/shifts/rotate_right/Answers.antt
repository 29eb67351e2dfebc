use Rattle.std.proofs.Common.{◌∙◌}
use Rattle.a32_instr.proofs.Rotation.{rotate_right_is}
use Rattle.a32_compute.proofs.shifts.rotate_right.Goals as goal

pub returns : goal.returns
returns c = c.rotate_right.ensures ∙ rotate_right_is c.args.x c.args.amount c.ranges.x.fits
