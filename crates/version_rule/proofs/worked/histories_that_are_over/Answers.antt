-- Each that isn't over breaks one of its parts.
use Rattle.std.proofs.Common.{◌≡◌, false, true, [], ◌∷◌, refl, arith}
use Rattle.llsc_base.specs.Memory.{class_of, row_of}
use Rattle.history.specs.Cause.{writes_in_class}
use Rattle.history.specs.Standing.{rests, written}
use Rattle.history.specs.Steady.{IsSteady}
use Rattle.history.specs.Worked.{small_machine, word}
use Rattle.history.specs.declared.entry.Cause.TheVariants.{Lost}
use Rattle.history.specs.declared.entry.Entry.TheVariants.{Begin, End, Fail, Read, Watch, Write}
use Rattle.history.proofs.Cuts.{each-none}
use Rattle.history.proofs.Operations.{last_stage-AreFinished}
use Rattle.shared_memory.proofs.SmallHistories.{legal_from, nothing}
use Rattle.version_rule.proofs.worked.histories_that_are_over.Goals as goal

two_writes : writes_in_class (small_machine 1) 0 (Begin 0 word ∷ Write 0 word 5 false ∷ End 0 word ∷ Begin 0 word ∷ Write 0 word 5 false ∷ End 0 word ∷ []) ≡ 2
unfolding row_of class_of
two_writes = refl

pub returns-clause-nothing : goal.returns-clause-nothing
returns-clause-nothing c = record {
  legal = legal_from [] refl refl tt (nothing 0) (nothing 1);
  complete = λ thread. record { operations = []; are = refl };
  few = λ row. omega arith;
  steady = each-none (IsSteady (small_machine 1));
}

pub returns-clause-half_a_store : goal.returns-clause-half_a_store
returns-clause-half_a_store c = λ over. let wrong : written word ≡ rests = last_stage-AreFinished 0 _ (over.complete 0) in cc

pub returns-clause-past_the_limit : goal.returns-clause-past_the_limit
returns-clause-past_the_limit c = λ over. let most = over.few 0 in let two = two_writes in absurd (omega arith)

pub returns-clause-lost_to_nobody : goal.returns-clause-lost_to_nobody
unfolding class_of row_of
returns-clause-lost_to_nobody c = λ over.
    let wrong : false ≡ true = over.steady (Watch 0 word ∷ Read 0 word 0 true ∷ []) (Fail 0 word 9 Lost) [] refl in cc
