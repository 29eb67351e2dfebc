use Rattle.std.proofs.Common.{◌≡◌, ◌<◌, ◌≤◌, ◌%◌, ◌^◌, ℕ, List, ◌∷◌, Result, ◌⊎◌, ⊎_elim, refl, sym, subst, ◌∙◌, arith, rules}
use Rattle.llsc_base.specs.Bits.{bits_of}
use Rattle.a32_instr.specs.Table.{Row, half_imm, half_reg}
use Rattle.a32_instr.specs.declared.instructions.Instr.{Instr}
use Rattle.llsc_base.specs.declared.decoding.DecodeFault.{DecodeFault}
use Rattle.a32_decode.specs.inner.Rows.{Decides, rows_of_registers}
use Rattle.a32_decode.proofs.Classes.{having, kept, decides_by_kept}
use Rattle.a32_decode.proofs.Halves.{half_imm_is_no_product, half_reg_is_no_product}
use Rattle.a32_decode.proofs.data_processing.with_registers.Goals as goal

pub returns-then-not-bit : goal.returns-then-not-bit
returns-then-not-bit c = decides_by_kept rows_of_registers c.args.word 4 1 0 c.shifted_by_number.result c.ranges.word.fits (search rules) c.shifted_by_number.ensures

pub returns-then-not-bit-2 : goal.returns-then-not-bit-2
returns-then-not-bit-2 c =
    let low : bits_of c.args.word 4 1 ≡ 1 = search rules in
    decides_by_kept rows_of_registers c.args.word 7 1 0 c.shifted_by_register.result c.ranges.word.fits (search rules)
    (decides_by_kept (kept (having 7 1 0) rows_of_registers) c.args.word 4 1 1 c.shifted_by_register.result c.ranges.word.fits low c.shifted_by_register.ensures)

-- bits 7 and 4 are set, and one of the two between them is
others_of_product : (number : ℕ) → number < 16 → number % 2 ≡ 1 → 8 ≤ number → (number ≡ 9 → ⊥) → (number ≡ 11) ⊎ ((number ≡ 13) ⊎ (number ≡ 15))
others_of_product number small low high other = grind arith

pub returns-then-bits-ne9 : goal.returns-then-bits-ne9
returns-then-bits-ne9 c =
    let e = c.half.ensures in
    let small = c.ranges.word.fits in
    let low : bits_of c.args.word 4 1 ≡ 1 = search rules in
    let high : bits_of c.args.word 7 1 ≡ 1 = search rules in
    ⊎_elim
    (λ is. decides_by_kept rows_of_registers c.args.word 4 4 11 c.half.result small is e)
    (⊎_elim
    (λ is. decides_by_kept rows_of_registers c.args.word 4 4 13 c.half.result small is e)
    (λ is. decides_by_kept rows_of_registers c.args.word 4 4 15 c.half.result small is e))
    (others_of_product (bits_of c.args.word 4 4) (omega arith) (omega arith) (omega arith)
    (λ product. c.if-bits-ne9.true (c.bits.ensures.value ∙ product)))

-- of a word whose bits 7:4 are 1001, from the rows that it can fit by the value of bit 24, which may be halfwords as well
product_decides : (word value : ℕ) (answer : Result Instr DecodeFault) (rows : List Row) → word < 2 ^ 32 → bits_of word 4 4 ≡ 9 → bits_of word 24 1 ≡ value
    → kept (having 24 1 value) (kept (having 4 4 9) rows_of_registers) ≡ half_imm ∷ half_reg ∷ rows
    → Decides rows word answer → Decides rows_of_registers word answer
product_decides word value answer rows small product bit same decides =
    decides_by_kept rows_of_registers word 4 4 9 answer small product
    (decides_by_kept (kept (having 4 4 9) rows_of_registers) word 24 1 value answer small bit
    (subst (λ (kinds : List Row). Decides kinds word answer) (sym same)
    (((λ fit. absurd (half_imm_is_no_product word product fit)), ((λ fit. absurd (half_reg_is_no_product word product fit)), decides.0)), λ unfit. decides.1 unfit.1.1)))

pub returns-then-bit : goal.returns-then-bit
returns-then-bit c =
    product_decides c.args.word 1 c.exclusive.result _ c.ranges.word.fits (sym c.bits.ensures.value ∙ c.if-bits-ne9.false) (search rules) refl c.exclusive.ensures

pub returns : goal.returns
returns c =
    product_decides c.args.word 0 c.multiplication.result _ c.ranges.word.fits (sym c.bits.ensures.value ∙ c.if-bits-ne9.false) (search rules) refl c.multiplication.ensures
