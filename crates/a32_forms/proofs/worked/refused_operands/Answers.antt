use Rattle.std.proofs.Common.{refl}
use Rattle.number_text.specs.Digits.{value_in}
use Rattle.a32_forms.specs.Text.{parts}
use Rattle.a32_forms.specs.Names.{place_from}
use Rattle.a32_forms.specs.Registers.{mask_from}
use Rattle.a32_forms.specs.Forms.{before_mark, chosen_from, from_mark, takes_at_word, takes_from, takes_sign}
use Rattle.a32_forms.proofs.worked.refused_operands.Goals as goal

pub returns : goal.returns
unfolding parts chosen_from takes_from takes_sign takes_at_word place_from mask_from before_mark from_mark value_in
returns c = record {
  something_left = refl;
  other_prefix = refl;
  no_name = refl;
  falling = refl;
  twice = refl;
  empty = refl;
}
