-- Words and their shown texts beside one another.
use Rattle.std.specs.Prelude.{◌≡◌, ℕ, List, [], Option, Some, None}
use Rattle.a32_instr.specs.declared.instructions.Instr.{Instr}
use Rattle.a32_syntax.specs.Shown.{instruction_text}
use Rattle.a32_syntax.specs.Worked.{meant}

abbrev pub shown_as : ℕ → Option Instr → List ℕ
shown_as here (Some instruction) = instruction_text instruction here
shown_as here None = []

-- the instruction of a word is shown as a text at an address
abbrev pub IsShownAs : ℕ → ℕ → List ℕ → Type 0
IsShownAs word here text = shown_as here (meant word) ≡ text
