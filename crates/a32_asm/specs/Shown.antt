-- How a word at an address is shown.
use Rattle.std.specs.Prelude.{ℕ, List, ◌++◌, Result, Ok, Err, codes}
use Rattle.number_text.specs.Hexadecimal.{word_text}
use Rattle.a32_instr.specs.declared.instructions.Instr.{Instr}
use Rattle.llsc_base.specs.declared.decoding.DecodeFault.{DecodeFault}
use Rattle.a32_instr.specs.Table.{meaning, table}
use Rattle.a32_syntax.specs.Shown.{instruction_text}

-- a word that means no instruction
abbrev pub directive_text : ℕ → List ℕ
directive_text word = codes ".word 0x" ++ word_text word

abbrev pub shown : ℕ → ℕ → Result Instr DecodeFault → List ℕ
shown word here (Ok instruction) = instruction_text instruction here
shown word here (Err fault) = directive_text word

-- the text of a word at an address, which is a multiple of 4
abbrev pub shown_word : ℕ → ℕ → List ℕ
shown_word word here = shown word here (meaning table word)
