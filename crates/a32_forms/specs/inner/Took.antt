-- Only proofs and inner contracts need these words.
-- What a sign of a form took, and the text that it left.
use Rattle.a32_forms.specs.Text.{parts}
use Rattle.a32_forms.specs.Forms.{Took}
use Rattle.a32_forms.specs.declared.forms.Taken.{Taken}

-- what was taken, with the parts of the text that is left
abbrev pub took_of : Taken → Took
took_of taken = record { fields = taken.fields; rest = parts taken.rest.now }
