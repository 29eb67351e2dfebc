-- The signs that are left take from the text that is left what all of them take from all of it, and the numbers so far are
-- within what the signs before may take.
use Rattle.std.proofs.Common.{◌≡◌, drop, take, true}
use Rattle.a32_forms.specs.Text.{parts}
use Rattle.a32_forms.specs.Forms.{takes, takes_from}
use Rattle.a32_forms.proofs.Matches.{each_within}
use Rattle.a32_forms.proofs.forms.fields_of.Given as goal

abbrev pub invariant-loop-sign : goal.invariant-loop-sign
invariant-loop-sign l =
    (takes_from (drop l.sign-index l.form) l.fields (parts l.rest) ≡ takes l.form (parts l.text))
    × (each_within (take l.sign-index l.form) l.fields.numbers ≡ true)
