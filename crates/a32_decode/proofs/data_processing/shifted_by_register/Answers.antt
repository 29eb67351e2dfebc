use Rattle.std.proofs.Common.{rules, ◌≡◌}
use Rattle.llsc_base.specs.Bits.{bits_of}
use Rattle.a32_instr.specs.Table.{alu_by_reg}
use Rattle.a32_instr.proofs.Apart.{further_of}
use Rattle.a32_instr.proofs.SilentCompare.{silent_compare}
use Rattle.a32_decode.proofs.data_processing.shifted_by_register.Goals as goal

-- a compare that sets no flags is no data processing
pub returns-then-is_silent_compare : goal.returns-then-is_silent_compare
returns-then-is_silent_compare c =
    let e = c.miscellaneous.ensures in
    let compare : bits_of c.args.word 23 2 ≡ 2 = search rules in
    let none : bits_of c.args.word 20 1 ≡ 0 = search rules in
    ((λ fit. absurd (silent_compare c.args.word (bits_of c.args.word 12 4) (bits_of c.args.word 16 4) (further_of alu_by_reg c.args.word fit) compare none), e.0), λ unfit. e.1 unfit.1)
