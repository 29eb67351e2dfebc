use Rattle.std.proofs.Common.{◌≡◌, [], ◌∷◌, List, refl, subst, arith}
use Rattle.llsc_base.specs.declared.outside.Stop.TheVariants.{Exit, TagLimit}
use Rattle.history.specs.Starts.{Started}
use Rattle.guest_calls.specs.Run.{by_itself}
use Rattle.guest_thread.specs.Outcome.{IsSpent}
use Rattle.guest_thread.specs.Start.{thread_start}
use Rattle.guest_thread.specs.Worked.{machine_of, store_of, word}
use Rattle.guest_thread.proofs.StockRun.{run_stockless, stockless_run}
use Rattle.a32_step.specs.Machine.{a32}
use Rattle.a32_runs.specs.Leaving.{leaving, storing}
use Rattle.a32_runs.proofs.LeavingRuns.{left, store_refused}
use Rattle.a32_runs.proofs.SpentClass.{not_by_one, same_limit, spent_once}
use Rattle.a32_runs.proofs.worked_families.ends_of_a_thread_without_a_stock.Goals as goal

pub returns-clause-by_itself : goal.returns-clause-by_itself
returns-clause-by_itself c = record {
  ends = run_stockless a32 leaving 2 (thread_start a32 leaving (machine_of 2 1 1) 2 1) [] (Exit 1) 2 []
      (by_itself [] (Exit 1) 2 [] (left (machine_of 2 1 1) 2 1));
  spent = λ addr same. absurd cc;
  counts = record { reads = refl; writes = refl; fails = refl };
}

pub returns-clause-spent : goal.returns-clause-spent
returns-clause-spent c = record {
  ends = run_stockless a32 storing 1 (thread_start a32 storing (machine_of 2 1 1) 2 0) [] (TagLimit 8) 0 [] (store_refused (machine_of 2 1 1) 2 0);
  spent = λ addr same. subst (IsSpent (machine_of 2 1 1) (store_of 1 word)) (same_limit 8 addr same) spent_once;
  counts = record { reads = refl; writes = refl; fails = refl };
}

pub returns-clause-not_spent : goal.returns-clause-not_spent
returns-clause-not_spent c = λ end. not_by_one (end.spent 8 refl)

pub returns-clause-another_count : goal.returns-clause-another_count
returns-clause-another_count c = λ end. let wrong : 1 ≡ 0 = end.counts.writes in absurd (omega (arith, wrong))

-- what the entry starts
abbrev one : List Started
one = record { child = 2; entry = 4; arg = 7; place = 0 } ∷ []

pub returns-clause-starts_none : goal.returns-clause-starts_none
returns-clause-starts_none c = λ end.
    let wrong : one ≡ [] = (stockless_run a32 leaving 2 (thread_start a32 leaving (machine_of 2 1 1) 2 1) [] one (Exit 1) 2 [] end.ends).0 in let f : ⊥ = cc in f
