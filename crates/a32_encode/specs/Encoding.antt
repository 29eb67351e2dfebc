-- The encoding of an instruction: the word that means it, and none where no word does. That is proved of it in
-- `src/laws.rt`; here it is computed, by the word that the instruction's bits add up to and what the table says of it.
use Rattle.std.specs.Prelude.{ℕ, ◌^◌, ◌&&◌, nat_lt, if◌then◌else◌, Bool, false, Option, Some, None, Result, Ok, Err}
use Rattle.llsc_base.specs.declared.decoding.DecodeFault.{DecodeFault}
use Rattle.a32_instr.specs.declared.instructions.Instr.{Instr}
use Rattle.a32_instr.specs.contracts.instructions.InstrPartialEq.TheImpl as derived
use Rattle.a32_instr.specs.Table.{table, meaning}
use Rattle.a32_encode.specs.Word.{word_of}

-- what a word means is this instruction, as the derived `==` compares them, field by field
abbrev pub is_that : Instr → Result Instr DecodeFault → Bool
is_that instruction (Ok meant) = derived.eq-value.it meant instruction
is_that instruction (Err fault) = false

unfoldable pub encoding_of : Instr → Option ℕ
encoding_of instruction =
    if nat_lt (word_of instruction) (2 ^ 32) && is_that instruction (meaning table (word_of instruction))
    then Some (word_of instruction)
    else None
