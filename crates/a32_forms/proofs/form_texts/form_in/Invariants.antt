-- The forms that are left are those from a place on.
use Rattle.std.proofs.Common.{◌≡◌, drop}
use Rattle.a32_forms.specs.Forms.{forms_in}
use Rattle.a32_forms.proofs.form_texts.form_in.Given as goal

abbrev pub invariant-loop-place : goal.invariant-loop-place
invariant-loop-place l = drop l.place (forms_in l.forms) ≡ forms_in l.left
