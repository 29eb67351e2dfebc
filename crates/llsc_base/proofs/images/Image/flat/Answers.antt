-- The file's span is the only one, and lies in memory.
use Rattle.std.proofs.Common.{◌≡◌, length, refl, arith, ap, ◌∙◌}
use Rattle.llsc_base.proofs.Spans.{IsProgram-one}
use Rattle.llsc_base.proofs.Values.{flat_fault-none, length-values_below}
use Rattle.llsc_base.proofs.images.Image.flat.Goals as goal

pub of-requires : goal.of-requires
of-requires c =
    let free = flat_fault-none c.args.bytes.now c.args.size.now c.in_default.ensures in
    let whole : length c.in-Ok.memory.items ≡ c.mem.result = ap length c.in-Ok.ensures ∙ length-values_below _ _ in
    rw c.in-Ok-vec.ensures.items
    (IsProgram-one _ _ _ refl (omega arith) (omega arith) refl)
