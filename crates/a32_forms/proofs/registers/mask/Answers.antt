use Rattle.std.proofs.Common.{◌≤◌, ◌^◌, ◌+◌, arith}
use Rattle.std.proofs.Math.Pow.{pow_mono}
use Rattle.a32_forms.proofs.registers.mask.Goals as goal

pub overflow_sub-result : goal.overflow_sub-result
overflow_sub-result c =
    let rises : 2 ^ c.args.item.first ≤ 2 ^ (c.args.item.last + 1) = pow_mono {j = c.args.item.last + 1} (omega arith) in
    let most : 2 ^ (c.args.item.last + 1) ≤ 2 ^ 16 = pow_mono {j = 16} (omega arith) in
    omega arith
