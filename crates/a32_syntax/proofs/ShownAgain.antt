-- What is shown of an instruction is read again: its mnemonic, and its operands as that instruction.
use Rattle.std.proofs.Common.{◌≡◌, ℕ, ◌<◌, ◌%◌, ◌^◌, IsTrue, List, [], ◌∷◌, Some, Ok, refl, ◌∙◌, ap}
use Rattle.a32_instr.specs.declared.instructions.Instr.{Instr}
use Rattle.a32_forms.specs.Text.{parts, front_word, after_word, is_name}
use Rattle.a32_forms.specs.Forms.{chosen, form_in}
use Rattle.a32_forms.specs.Written.{written}
use Rattle.a32_forms.proofs.ChosenAgain.{chosen_again}
use Rattle.a32_syntax.specs.Mnemonics.{mnemonic_of, mnemonic_text}
use Rattle.a32_syntax.specs.Operands.{operands_of}
use Rattle.a32_syntax.specs.Meaning.{Site, instruction_of, of_chosen}
use Rattle.a32_syntax.specs.Shown.{showing_of, operands_text, operands_shown, instruction_text}
use Rattle.a32_syntax.specs.Formed.{IsFormed}
use Rattle.a32_syntax.proofs.Meant.{found}
use Rattle.a32_syntax.proofs.EachInstruction.{IsShown, is_shown, shown_mnemonic}
use Rattle.a32_syntax.proofs.Texts.{mnemonic_front, operands_behind, mnemonic_is_name}
use Rattle.a32_syntax.proofs.MnemonicTexts.{mnemonic_read_again}

-- a space in front changes no part
pub operands_parts : (form numbers : List ℕ) → parts (operands_text form numbers) ≡ parts (written form numbers)
unfolding parts written
operands_parts [] numbers = refl
operands_parts (sign ∷ form) numbers = refl

-- what is shown of a formed instruction is read again as that instruction
pub formed_again : (i : Instr) (site : Site) → site.here % 4 ≡ 0 → site.here < 2 ^ 32 → IsFormed i
    → instruction_of (showing_of i site.here).mnemonic site
    (parts (operands_text (form_in (operands_of (showing_of i site.here).mnemonic.operation) (showing_of i site.here).form) (showing_of i site.here).numbers))
    ≡ Ok i
formed_again i site whole small formed =
    let shown : IsShown i site = is_shown i site formed in
    let found_again : chosen (operands_of (showing_of i site.here).mnemonic.operation)
    (parts (operands_text (form_in (operands_of (showing_of i site.here).mnemonic.operation) (showing_of i site.here).form) (showing_of i site.here).numbers))
    ≡ Some (found (showing_of i site.here).form (showing_of i site.here).numbers) =
    ap (chosen (operands_of (showing_of i site.here).mnemonic.operation)) (operands_parts (form_in (operands_of (showing_of i site.here).mnemonic.operation) (showing_of i site.here).form) (showing_of i site.here).numbers)
    ∙ chosen_again (operands_of (showing_of i site.here).mnemonic.operation) (showing_of i site.here).form (showing_of i site.here).numbers
    shown.1 shown.2 in
    ap (of_chosen (showing_of i site.here).mnemonic site) found_again ∙ shown.3 whole small

-- and its mnemonic too
pub mnemonic_again : (i : Instr) (here : ℕ) → IsFormed i → mnemonic_of (mnemonic_text (showing_of i here).mnemonic) ≡ Some (showing_of i here).mnemonic
mnemonic_again i here formed = mnemonic_read_again (showing_of i here).mnemonic (shown_mnemonic i here formed)

-- the text is the mnemonic, and behind that word the operands
pub shown_front : (i : Instr) (here : ℕ) → front_word (instruction_text i here) ≡ mnemonic_text (showing_of i here).mnemonic
shown_front i here =
    mnemonic_front (showing_of i here).mnemonic (form_in (operands_of (showing_of i here).mnemonic.operation) (showing_of i here).form) (showing_of i here).numbers

pub shown_rest : (i : Instr) (here : ℕ) → after_word (instruction_text i here) ≡ operands_shown i here
shown_rest i here =
    operands_behind (showing_of i here).mnemonic (form_in (operands_of (showing_of i here).mnemonic.operation) (showing_of i here).form) (showing_of i here).numbers

-- which is a name
pub shown_name : (i : Instr) (here : ℕ) → IsTrue (is_name (front_word (instruction_text i here)))
shown_name i here = ap is_name (shown_front i here) ∙ mnemonic_is_name (showing_of i here).mnemonic
