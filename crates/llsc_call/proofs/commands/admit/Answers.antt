use Rattle.std.proofs.Common.{◌≡◌, ◌∙◌, Option, List, ℕ, ap, sym, subst}
use Rattle.std.specs.Option.{option_and_then, option_map}
use Rattle.llsc_words.specs.Request.{asked, machine_by}
use Rattle.llsc_words.specs.declared.requests.MachineNumbers.{MachineNumbers}
use Rattle.llsc_files.specs.Refusals.{IsRefusal, size_refusal}
use Rattle.llsc_call.specs.inner.Files.{barred}
use Rattle.llsc_call.proofs.commands.admit.Goals as goal

-- what stands against the machine of these numbers, if there are any
abbrev stands : Option MachineNumbers → Option (List ℕ)
stands numbers = option_and_then size_refusal (option_map machine_by numbers)

pub returns-in_default-clause-admitted : goal.returns-in_default-clause-admitted
returns-in_default-clause-admitted c = sym c.machine_named.ensures ∙ ap stands c.in_default.is

pub returns-in-Ok-clause-admitted : goal.returns-in-Ok-clause-admitted
returns-in-Ok-clause-admitted c = sym c.machine_named.ensures ∙ ap stands c.in-Some.is ∙ c.in-Ok.ensures.size.1

pub returns-in-Err-clause-refused : goal.returns-in-Err-clause-refused
returns-in-Err-clause-refused c =
    let against : barred (asked c.args.request) ≡ size_refusal (machine_by c.in-Some.numbers) = sym c.machine_named.ensures ∙ ap stands c.in-Some.is in
    subst (λ b. IsRefusal b c.in-Err.refusal) (sym against) c.in-Err.ensures.refused
