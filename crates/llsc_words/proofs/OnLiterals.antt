-- What a proof unfolds to compute `request_of` at words that are written out, and whether a machine's numbers are in range.
use lib.Count.{ones}
use Rattle.std.specs.Prelude.{⊤}
use Rattle.number_text.specs.Digits.{value_in}
use Rattle.clap.proofs.OnLiterals.{clap_on_literals}
use Rattle.llsc_words.specs.Commands.{asm_app, check_app, dis_app, explain_app, load_app, pool_app, record_app, run_app, solo_app, trace_app}
use Rattle.llsc_words.specs.Given.{given_in}

unfoldable pub words_on_literals : ⊤
unfolding clap_on_literals solo_app asm_app dis_app run_app pool_app record_app trace_app check_app explain_app load_app given_in value_in ones
words_on_literals = tt
