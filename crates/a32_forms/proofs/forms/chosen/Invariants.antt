-- The forms that are left have the first that operands have, and as many numbers at most as all forms have.
use Rattle.std.proofs.Common.{◌≡◌, ◌≤◌, ◌+◌, drop, length, true}
use Rattle.a32_forms.specs.Text.{parts}
use Rattle.a32_forms.specs.Forms.{chosen, chosen_from, forms_in}
use Rattle.a32_forms.specs.Within.{have_room}
use Rattle.a32_forms.proofs.forms.chosen.Given as goal

abbrev pub invariant-loop-fields : goal.invariant-loop-fields
invariant-loop-fields l =
    (chosen_from l.form (forms_in l.left) (parts l.text) ≡ chosen l.forms (parts l.text))
    × (have_room l.left ≡ true)
    × (drop l.form (forms_in l.forms) ≡ forms_in l.left)
    × (l.form + length l.left ≤ length l.forms)

abbrev pub decreases-loop-fields : goal.decreases-loop-fields
decreases-loop-fields l = length l.left
