use Rattle.std.proofs.Common.{refl}
use Rattle.a32_forms.specs.Text.{parts}
use Rattle.a32_forms.proofs.worked.worked_parts.Goals as goal

pub returns : goal.returns
unfolding parts
returns c = record { a_call = refl; a_shift = refl }
