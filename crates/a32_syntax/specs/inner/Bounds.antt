-- Only proofs and inner contracts need these words.
-- What is known of the numbers at the signs of operands.
use Rattle.std.specs.Prelude.{ℕ, ◌<◌, IsTrue, List, length}
use Rattle.a32_forms.specs.Forms.{Chosen, form_in, forms_in, number_at}
use Rattle.a32_forms.specs.Within.{are_within}

-- one of the forms, with numbers that its signs may have
unfoldable pub IsWithin : List ℕ → Chosen → Type 0
IsWithin forms found = (found.form < length (forms_in forms)) × IsTrue (are_within (form_in forms found.form) found.fields.numbers)

-- a register stands at a place
abbrev pub IsRegister : Chosen → ℕ → Type 0
IsRegister found at = number_at found at < 16
