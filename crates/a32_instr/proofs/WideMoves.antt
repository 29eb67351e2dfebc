-- What the words of MOVW and MOVT mean, for any register and any 16 bits (DDI 0406C A8.8.102, A8.8.106).
use Rattle.std.proofs.Common.{◌≡◌, ℕ, ◌+◌, ◌*◌, ◌/◌, ◌%◌, ◌^◌, ◌<◌, ◌==◌, false, IsTrue, Ok, refl, ◌∙◌, arith, lit<}
use Rattle.a32_instr.specs.Table.{fits, meaning, movt, movw, table}
use Rattle.a32_instr.specs.declared.instructions.Instr.TheVariants.{Movt, Movw}
use Rattle.a32_instr.proofs.Meanings.{means_its_row}
use Rattle.a32_instr.proofs.Pairs.{table_apart}

-- the fields imm4 and imm12 of these 16 bits
abbrev halves : ℕ → ℕ
halves half = 65536 * (half / 4096) + half % 4096

movw_word-fits : (rd half : ℕ) → rd < 15 → half < 65536 → IsTrue (fits movw (0xE3000000 + 4096 * rd + halves half))
movw_word-fits rd half known small =
    let word = 0xE3000000 + 4096 * rd + halves half in
    let fixed : word / 2 ^ 20 % 2 ^ 8 ≡ 48 = omega (arith, known, small) in
    let cond : word / 2 ^ 28 % 2 ^ 4 ≡ 14 = omega (arith, known, small) in
    rw (fixed, cond) refl

pub movw_word : (rd half : ℕ) → rd < 15 → half < 65536 → meaning table (0xE3000000 + 4096 * rd + halves half) ≡ Ok (Movw 14 rd half)
movw_word rd half known small =
    let word = 0xE3000000 + 4096 * rd + halves half in
    let cond : word / 2 ^ 28 % 2 ^ 4 ≡ 14 = omega (arith, known, small) in
    let dest : word / 2 ^ 12 % 2 ^ 4 ≡ rd = omega (arith, known, small) in
    let imm : word / 2 ^ 16 % 2 ^ 4 * 2 ^ 12 + word / 2 ^ 0 % 2 ^ 12 ≡ half = omega (arith, known, small) in
    let not_pc : (rd == 15) ≡ false = grind (arith, known) in
    means_its_row table word (omega (arith, known, small)) table_apart 7 movw (lit< tt) (movw_word-fits rd half known small)
    ∙ rw (cond, dest, imm, not_pc) refl

movt_word-fits : (rd half : ℕ) → rd < 15 → half < 65536 → IsTrue (fits movt (0xE3400000 + 4096 * rd + halves half))
movt_word-fits rd half known small =
    let word = 0xE3400000 + 4096 * rd + halves half in
    let fixed : word / 2 ^ 20 % 2 ^ 8 ≡ 52 = omega (arith, known, small) in
    let cond : word / 2 ^ 28 % 2 ^ 4 ≡ 14 = omega (arith, known, small) in
    rw (fixed, cond) refl

pub movt_word : (rd half : ℕ) → rd < 15 → half < 65536 → meaning table (0xE3400000 + 4096 * rd + halves half) ≡ Ok (Movt 14 rd half)
movt_word rd half known small =
    let word = 0xE3400000 + 4096 * rd + halves half in
    let cond : word / 2 ^ 28 % 2 ^ 4 ≡ 14 = omega (arith, known, small) in
    let dest : word / 2 ^ 12 % 2 ^ 4 ≡ rd = omega (arith, known, small) in
    let imm : word / 2 ^ 16 % 2 ^ 4 * 2 ^ 12 + word / 2 ^ 0 % 2 ^ 12 ≡ half = omega (arith, known, small) in
    let not_pc : (rd == 15) ≡ false = grind (arith, known) in
    means_its_row table word (omega (arith, known, small)) table_apart 8 movt (lit< tt) (movt_word-fits rd half known small)
    ∙ rw (cond, dest, imm, not_pc) refl
