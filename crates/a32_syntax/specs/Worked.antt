-- Texts and words beside one another.
use Rattle.std.specs.Prelude.{◌≡◌, ℕ, IsTrue, List, Option, Some, None, Result, Ok, Err}
use Rattle.std.specs.Option.{is_some}
use Rattle.a32_instr.specs.declared.instructions.Instr.{Instr}
use Rattle.a32_instr.specs.Table.{meaning, table}
use Rattle.a32_forms.specs.Text.{parts}
use Rattle.a32_syntax.specs.declared.operations.Mnemonic.{Mnemonic}
use Rattle.a32_syntax.specs.Mnemonics.{mnemonic_of}
use Rattle.a32_syntax.specs.Meaning.{instruction_of}

abbrev pub ok_of : {E : Type 0} → Result Instr E → Option Instr
ok_of (Ok instruction) = Some instruction
ok_of (Err fault) = None

-- the instruction of a word
abbrev pub meant : ℕ → Option Instr
meant word = ok_of (meaning table word)

abbrev pub with_operands : ℕ → List ℕ → Option Mnemonic → Option Instr
with_operands here operands None = None
with_operands here operands (Some mnemonic) =
    ok_of (instruction_of mnemonic (record { here = here; labels = λ name. None }) (parts operands))

-- the instruction of a mnemonic and operands at an address, where there are no labels
abbrev pub read : ℕ → List ℕ → List ℕ → Option Instr
read here mnemonic operands = with_operands here operands (mnemonic_of mnemonic)

-- it is read as the instruction that a word has
abbrev pub IsReadAs : ℕ → List ℕ → List ℕ → ℕ → Type 0
IsReadAs here mnemonic operands word = IsTrue (is_some (meant word)) × (read here mnemonic operands ≡ meant word)
