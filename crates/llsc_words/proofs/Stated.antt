-- `clap` states what it makes of each command's words.
use Rattle.std.specs.Prelude.{◌≡◌, true}
use Rattle.std.proofs.Common.{refl, subst, sym}
use Rattle.clap.specs.Words.{App, is_simple_and_free}
use Rattle.clap.proofs.OnLiterals.{clap_on_literals}
use Rattle.llsc_words.specs.declared.names.CommandName.{CommandName}
use Rattle.llsc_words.specs.declared.names.CommandName.TheVariants.{Solo, Run, Pool, Record, Asm, Dis, Trace, Check, Explain, Load}
use Rattle.llsc_words.specs.Commands.{app_by, asm_app, check_app, dis_app, explain_app, load_app, pool_app, record_app, run_app, solo_app, trace_app}
use Rattle.llsc_words.specs.inner.Commands.{IsStated}

pub simple_and_free : (app : App) → IsStated app → is_simple_and_free app ≡ true
unfolding IsStated
simple_and_free app stated = stated

simple : (name : CommandName) → is_simple_and_free (app_by name) ≡ true
unfolding solo_app run_app pool_app record_app asm_app dis_app trace_app check_app explain_app load_app clap_on_literals
simple Solo = refl
simple Run = refl
simple Pool = refl
simple Record = refl
simple Asm = refl
simple Dis = refl
simple Trace = refl
simple Check = refl
simple Explain = refl
simple Load = refl

pub commands_are_stated : (app : App) (name : CommandName) → app ≡ app_by name → IsStated app
unfolding IsStated
commands_are_stated app name is = subst (λ a. is_simple_and_free a ≡ true) (sym is) (simple name)
