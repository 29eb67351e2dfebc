use Rattle.std.proofs.Common.{ap, ◌∙◌}
use Rattle.a32_forms.specs.Names.{names_in, named_registers, or_else, place_from}
use Rattle.a32_forms.proofs.names.register_of.Goals as goal

pub returns-in-Some-clause-number : goal.returns-in-Some-clause-number
returns-in-Some-clause-number c = ap (λ found. or_else found (place_from 13 (names_in named_registers) c.args.word.now)) c.in-Some.ensures.place

pub returns-clause-number : goal.returns-clause-number
returns-clause-number c = c.place-2.ensures.place ∙ ap (λ found. or_else found (place_from 13 (names_in named_registers) c.args.word.now)) c.in_default.ensures.place
