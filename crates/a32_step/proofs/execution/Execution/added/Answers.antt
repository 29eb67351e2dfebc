use Rattle.std.proofs.Common.{◌≡◌, ◌+◌, ◌*◌, ◌^◌, ◌%◌, ◌<◌, ℕ, ap, ◌∙◌, rules, slice_index}
use Rattle.llsc_base.specs.Words.{low32}
use Rattle.a32_instr.specs.Shift.{shifted_by_number}
use Rattle.a32_instr.specs.declared.instructions.ShiftKind.TheVariants.{Lsl}
use Rattle.a32_step.specs.RowActs.{x_in}
use Rattle.a32_step.proofs.RowDone.{left_by}
use Rattle.a32_step.proofs.execution.Execution.added.Goals as goal

pub returns : goal.returns
returns c =
    let kept = c.args.kept.now in
    let state = c.args.self.now.state in
    let small : c.part.result < 2 ^ 32 = search rules in
    let by : c.part.result * 2 ^ c.num.result % 2 ^ 32 ≡ (shifted_by_number Lsl (slice_index state.regs kept.m) kept.amount state.flags.c).value =
    ap (λ (n : ℕ). c.part.result * 2 ^ n % 2 ^ 32) c.num.ensures.value ∙ left_by c.part.result kept.amount state.flags.c small
    ∙ ap (λ (r : ℕ). (shifted_by_number Lsl r kept.amount state.flags.c).value) c.part.ensures in
    ap (λ (x : ℕ). low32 (x + c.part.result * 2 ^ c.num.result % 2 ^ 32)) c.x.ensures ∙ ap (λ (v : ℕ). low32 (x_in kept state + v)) by
