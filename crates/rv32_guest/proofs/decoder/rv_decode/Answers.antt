use Rattle.std.proofs.Common.{refl, sym, ◌∙◌, arith}
use Rattle.rv32_guest.proofs.Opcodes.{by_opcode, by_no_opcode}
use Rattle.rv32_guest.proofs.decoder.rv_decode.Goals as goal

pub returns-in-3 : goal.returns-in-3
returns-in-3 c = by_opcode c.args.word 3 c.load.result (sym c.bits.ensures.value ∙ c.in-3.is) c.load.ensures

pub returns-in-15 : goal.returns-in-15
returns-in-15 c = by_opcode c.args.word 15 c.fence.result (sym c.bits.ensures.value ∙ c.in-15.is) c.fence.ensures

pub returns-in-19 : goal.returns-in-19
returns-in-19 c = by_opcode c.args.word 19 c.with_immediate.result (sym c.bits.ensures.value ∙ c.in-19.is) c.with_immediate.ensures

pub returns-in-23 : goal.returns-in-23
returns-in-23 c = by_opcode c.args.word 23 c.add_upper.result (sym c.bits.ensures.value ∙ c.in-23.is) c.add_upper.ensures

pub returns-in-35 : goal.returns-in-35
returns-in-35 c = by_opcode c.args.word 35 c.store.result (sym c.bits.ensures.value ∙ c.in-35.is) c.store.ensures

pub returns-in-47 : goal.returns-in-47
returns-in-47 c = by_opcode c.args.word 47 c.atomic.result (sym c.bits.ensures.value ∙ c.in-47.is) c.atomic.ensures

pub returns-in-51 : goal.returns-in-51
returns-in-51 c = by_opcode c.args.word 51 c.with_registers.result (sym c.bits.ensures.value ∙ c.in-51.is) c.with_registers.ensures

pub returns-in-55 : goal.returns-in-55
returns-in-55 c = by_opcode c.args.word 55 c.load_upper.result (sym c.bits.ensures.value ∙ c.in-55.is) c.load_upper.ensures

pub returns-in-99 : goal.returns-in-99
returns-in-99 c = by_opcode c.args.word 99 c.branch-word.result (sym c.bits.ensures.value ∙ c.in-99.is) c.branch-word.ensures

pub returns-in-103 : goal.returns-in-103
returns-in-103 c = by_opcode c.args.word 103 c.jump_by_register.result (sym c.bits.ensures.value ∙ c.in-103.is) c.jump_by_register.ensures

pub returns-in-111 : goal.returns-in-111
returns-in-111 c = by_opcode c.args.word 111 c.jump.result (sym c.bits.ensures.value ∙ c.in-111.is) c.jump.ensures

pub returns-in-115 : goal.returns-in-115
returns-in-115 c = by_opcode c.args.word 115 c.call.result (sym c.bits.ensures.value ∙ c.in-115.is) c.call.ensures

pub returns-in_default : goal.returns-in_default
returns-in_default c = by_no_opcode c.args.word _ (λ e. omega (arith, e), (λ e. omega (arith, e), (λ e. omega (arith, e), (λ e. omega (arith, e), (λ e. omega (arith, e), (λ e. omega (arith, e), (λ e. omega (arith, e), (λ e. omega (arith, e), (λ e. omega (arith, e), (λ e. omega (arith, e), (λ e. omega (arith, e), (λ e. omega (arith, e), tt)))))))))))) refl
