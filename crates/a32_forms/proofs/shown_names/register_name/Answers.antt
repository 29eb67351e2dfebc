use Rattle.std.proofs.Common.{arith}
use Rattle.a32_forms.proofs.NamesAgain.{last_register}
use Rattle.a32_forms.proofs.shown_names.register_name.Goals as goal

pub returns-in_default : goal.returns-in_default
returns-in_default c = last_register c.args.number (omega arith) c.requires
