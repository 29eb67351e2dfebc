-- What a proof unfolds to compute the commands.
use Rattle.std.specs.Prelude.{⊤}
use Rattle.llsc_words.specs.Commands.{asm_app, check_app, dis_app, explain_app, load_app, pool_app, record_app, run_app, solo_app, trace_app}

unfoldable pub commands_are_laid : ⊤
unfolding solo_app asm_app dis_app run_app pool_app record_app trace_app check_app explain_app load_app
commands_are_laid = tt
