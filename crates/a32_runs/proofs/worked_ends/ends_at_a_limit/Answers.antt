use Rattle.std.proofs.Common.{◌≡◌, [], refl, subst, arith}
use Rattle.llsc_base.specs.declared.outside.Stop.TheVariants.{Exit}
use Rattle.guest_calls.specs.Run.{by_itself}
use Rattle.guest_thread.specs.Outcome.{IsSpent}
use Rattle.guest_thread.specs.Worked.{machine_of, store_of, word}
use Rattle.a32_runs.proofs.LeavingRuns.{left, store_refused}
use Rattle.a32_runs.proofs.SpentClass.{not_by_one, same_limit, spent_once}
use Rattle.a32_runs.proofs.worked_ends.ends_at_a_limit.Goals as goal

pub returns-clause-by_itself : goal.returns-clause-by_itself
returns-clause-by_itself c = record {
  ends = by_itself [] (Exit 1) 2 [] (left (machine_of 2 1 1) 2 1);
  spent = λ addr same. absurd cc;
  counts = record { reads = refl; writes = refl; fails = refl };
}

pub returns-clause-spent : goal.returns-clause-spent
returns-clause-spent c = record {
  ends = store_refused (machine_of 2 1 1) 2 0;
  spent = λ addr same. subst (IsSpent (machine_of 2 1 1) (store_of 1 word)) (same_limit 8 addr same) spent_once;
  counts = record { reads = refl; writes = refl; fails = refl };
}

pub returns-clause-not_spent : goal.returns-clause-not_spent
returns-clause-not_spent c = λ end. not_by_one (end.spent 8 refl)

pub returns-clause-another_count : goal.returns-clause-another_count
returns-clause-another_count c = λ end. let wrong : 1 ≡ 0 = end.counts.writes in absurd (omega (arith, wrong))
