use Rattle.std.proofs.Common.{List, length, ap, refl, lit≤}
use Rattle.history.specs.declared.entry.Access.{Access}
use Rattle.std.proofs.lemmas.List.Elements.{All-nil}
use Rattle.run_record.specs.Limits.{IsAccess}
use Rattle.history.proofs.SmallMemory.{apart}
use Rattle.a32_runs.specs.Turns.{leaving, small_machine}
use Rattle.guest_machine.proofs.OneTrace.{one_trace}
use Rattle.a32_runs.proofs.SmallTraces.{both_loaded, both_well, none_loaded}
use Rattle.a32_runs.proofs.worked_turns.records_of_traces.Goals as goal
use Rattle.a32_step.specs.Machine.{a32}

pub returns-clause-empty : goal.returns-clause-empty
returns-clause-empty c = record {
  threads = refl;
  budget_is = refl;
  granule_is = refl;
  trace = none_loaded;
  sound = record {
    numbers = record { thread = lit≤ tt; few = lit≤ tt; rows = lit≤ tt; step = lit≤ tt; bounded = lit≤ tt };
    count = lit≤ tt;
    accesses = All-nil (IsAccess 1);
  };
}

pub returns-clause-loads : goal.returns-clause-loads
returns-clause-loads c = record {
  threads = refl;
  budget_is = refl;
  granule_is = refl;
  trace = both_loaded;
  sound = record {
    numbers = record { thread = lit≤ tt; few = lit≤ tt; rows = lit≤ tt; step = lit≤ tt; bounded = lit≤ tt };
    count = lit≤ tt;
    accesses = both_well;
  };
}

pub returns-clause-invented : goal.returns-clause-invented
returns-clause-invented c = λ is.
    apart 0 1 refl (ap (λ (l : List Access). length l) (one_trace a32 leaving (small_machine 1) 0 10 _ _ none_loaded is.trace))
