-- No word fits two rows of the table.
use Rattle.std.proofs.Common.{List, ◌∷◌, AllPairs, drop, refl}
use Rattle.std.proofs.lemmas.Bool.{and_parts}
use Rattle.std.proofs.lemmas.List.Elements.{All-cons}
use Rattle.a32_instr.specs.Fields.{index_fits, half_fits}
use Rattle.a32_instr.specs.Table.{Row, AreApart, table, alu_imm, alu_by_num, alu_by_reg, half_imm, half_reg, clrex, barrier}
use Rattle.llsc_base.specs.Bits.{bits_of}
use Rattle.a32_instr.proofs.Apart.{clash_is_apart, pairs_apart, pairs_more, data_apart, halves_apart, IsData, IsHalf, unconditional_apart, fixed_unconditional}

-- the rows after those of data processing and of halfwords, each of which has a fixed bit that differs from each later one's
abbrev others : List Row
others = drop 7 table

-- the rows after those of data processing
abbrev after_data : List Row
after_data = half_imm ∷ half_reg ∷ others

-- the rows with a condition
abbrev conditional : List Row
conditional = alu_imm ∷ alu_by_num ∷ alu_by_reg ∷ after_data

imm_data : IsData alu_imm
imm_data word h = (bits_of word 12 4, bits_of word 16 4, h)

by_num_data : IsData alu_by_num
by_num_data word h = (bits_of word 12 4, bits_of word 16 4, h)

by_reg_data : IsData alu_by_reg
by_reg_data word h = (bits_of word 12 4, bits_of word 16 4, h)

half_imm_is : IsHalf half_imm
half_imm_is word h = (and_parts (index_fits (bits_of word 24 1) (bits_of word 21 1)) (half_fits (bits_of word 20 1) (bits_of word 6 1) (bits_of word 5 1)) h).1

half_reg_is : IsHalf half_reg
half_reg_is word h = (and_parts (index_fits (bits_of word 24 1) (bits_of word 21 1)) (half_fits (bits_of word 20 1) (bits_of word 6 1) (bits_of word 5 1)) h).1

pub table_apart : AllPairs AreApart table
table_apart =
    pairs_more clrex (barrier ∷ conditional)
    (All-cons (AreApart clrex) barrier conditional (clash_is_apart clrex barrier refl) (unconditional_apart clrex (fixed_unconditional clrex refl) conditional refl))
    (pairs_more barrier conditional (unconditional_apart barrier (fixed_unconditional barrier refl) conditional refl)
    (pairs_more alu_imm (alu_by_num ∷ alu_by_reg ∷ after_data) (data_apart alu_imm imm_data (alu_by_num ∷ alu_by_reg ∷ after_data) refl)
    (pairs_more alu_by_num (alu_by_reg ∷ after_data) (data_apart alu_by_num by_num_data (alu_by_reg ∷ after_data) refl)
    (pairs_more alu_by_reg after_data (data_apart alu_by_reg by_reg_data after_data refl)
    (pairs_more half_imm (half_reg ∷ others) (halves_apart half_imm half_imm_is (half_reg ∷ others) refl)
    (pairs_more half_reg others (halves_apart half_reg half_reg_is others refl) (pairs_apart others refl)))))))
