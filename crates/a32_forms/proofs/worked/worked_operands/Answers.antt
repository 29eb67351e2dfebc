use Rattle.std.proofs.Common.{refl}
use Rattle.number_text.specs.Digits.{value_in}
use Rattle.a32_forms.specs.Text.{parts}
use Rattle.a32_forms.specs.Names.{place_from}
use Rattle.a32_forms.specs.Registers.{mask_from}
use Rattle.a32_forms.specs.Forms.{before_mark, chosen_from, from_mark, takes_at_word, takes_from, takes_sign}
use Rattle.a32_forms.proofs.worked.worked_operands.Goals as goal

pub returns : goal.returns
unfolding parts chosen_from takes_from takes_sign takes_at_word place_from mask_from before_mark from_mark value_in
returns c = record {
  before_the_base = refl;
  behind_the_base = refl;
  too_great = refl;
  a_list = refl;
  a_label = refl;
  a_shift = refl;
}
