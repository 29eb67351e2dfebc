-- what was written and what is left are the whole form
use Rattle.std.proofs.Common.{◌++◌, drop}
use Rattle.a32_forms.specs.Written.{written}
use Rattle.a32_forms.proofs.FormWrites.{Left}
use Rattle.a32_forms.proofs.written.write_form.Given as goal

abbrev pub invariant-loop-sign : goal.invariant-loop-sign
invariant-loop-sign l =
    Left l.line (drop l.sign-index l.form) (drop l.at l.numbers) (l.fn.line ++ written l.fn.form l.fn.numbers)
