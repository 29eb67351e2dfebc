use Rattle.std.proofs.Common.{◌≡◌, ℕ, ◌<◌, ◌^◌, Result, refl, sym, ◌∙◌, arith}
use Rattle.llsc_base.specs.Bits.{bits_of}
use Rattle.a32_instr.specs.Table.{meaning, table}
use Rattle.a32_instr.specs.declared.instructions.Instr.{Instr}
use Rattle.llsc_base.specs.declared.decoding.DecodeFault.{DecodeFault}
use Rattle.a32_decode.specs.inner.Rows.{Decides}
use Rattle.a32_decode.proofs.Classes.{conditional, having, kept, means_by_unconditional, means_in_group}
use Rattle.a32_decode.proofs.Rows.{decided}
use Rattle.a32_decode.proofs.decoder.decode.Goals as goal

-- what decides the rows of a group of encodings, by bits 27:25, is the table's
by_group : (word group : ℕ) (answer : Result Instr DecodeFault) → word < 2 ^ 32 → bits_of word 28 4 < 15 → bits_of word 25 3 ≡ group
    → Decides (kept (having 25 3 group) conditional) word answer → answer ≡ meaning table word
by_group word group answer small less same decides =
    means_in_group word group answer small less same (decided (kept (having 25 3 group) conditional) word answer decides)

pub returns-then-bits-eq15 : goal.returns-then-bits-eq15
returns-then-bits-eq15 c =
    decided _ c.args.word c.unconditional.result c.unconditional.ensures
    ∙ sym (means_by_unconditional c.args.word c.ranges.word.fits (sym c.bits.ensures.value ∙ c.if-bits-eq15.true))

pub returns-in-0 : goal.returns-in-0
returns-in-0 c = by_group c.args.word 0 c.with_registers.result c.ranges.word.fits (omega arith) (sym c.bits-2.ensures.value ∙ c.in-0.is) c.with_registers.ensures

pub returns-in-1 : goal.returns-in-1
returns-in-1 c = by_group c.args.word 1 c.with_immediate.result c.ranges.word.fits (omega arith) (sym c.bits-2.ensures.value ∙ c.in-1.is) c.with_immediate.ensures

pub returns-in-2 : goal.returns-in-2
returns-in-2 c = by_group c.args.word 2 c.immediate.result c.ranges.word.fits (omega arith) (sym c.bits-2.ensures.value ∙ c.in-2.is) c.immediate.ensures

pub returns-in-3 : goal.returns-in-3
returns-in-3 c = by_group c.args.word 3 c.by_register_or_media.result c.ranges.word.fits (omega arith) (sym c.bits-2.ensures.value ∙ c.in-3.is) c.by_register_or_media.ensures

pub returns-in-4 : goal.returns-in-4
returns-in-4 c = by_group c.args.word 4 c.block.result c.ranges.word.fits (omega arith) (sym c.bits-2.ensures.value ∙ c.in-4.is) c.block.ensures

pub returns-in-5 : goal.returns-in-5
returns-in-5 c = by_group c.args.word 5 c.immediate-in-5.result c.ranges.word.fits (omega arith) (sym c.bits-2.ensures.value ∙ c.in-5.is) c.immediate-in-5.ensures

pub returns-in-7 : goal.returns-in-7
returns-in-7 c = by_group c.args.word 7 c.supervisor_call.result c.ranges.word.fits (omega arith) (sym c.bits-2.ensures.value ∙ c.in-7.is) c.supervisor_call.ensures

pub returns-in_default : goal.returns-in_default
returns-in_default c =
    let group : bits_of c.args.word 25 3 ≡ 6 = omega arith in
    by_group c.args.word 6 _ c.ranges.word.fits (omega arith) group (tt, λ none. refl)
