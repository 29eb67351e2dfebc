use Rattle.std.proofs.Common.{rules, refl, ◌≡◌, true, false, subst}
use Rattle.llsc_base.specs.Memory.{class_of, row_of}
use Rattle.history.specs.Entry.{is_in_class}
use Rattle.history.specs.Worked.{small_machine, next_row, word}
use Rattle.history.proofs.worked.missing_in_flight.Goals as goal

pub returns-clause-in_flight : goal.returns-clause-in_flight
unfolding class_of row_of
returns-clause-in_flight c = record { other = 1; another = search rules; target = next_row; flies = refl; near = refl }

pub returns-clause-in_another_class : goal.returns-clause-in_another_class
unfolding class_of row_of
returns-clause-in_another_class c = λ misses.
    let only : misses.target ≡ next_row = search rules in
    let wrong : false ≡ true = subst (λ t. is_in_class (small_machine 4096) (row_of 0 word) t ≡ true) only misses.near in cc
