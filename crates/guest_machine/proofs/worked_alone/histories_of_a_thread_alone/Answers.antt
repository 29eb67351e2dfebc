use Rattle.std.proofs.Common.{refl, lit<, lit≤}
use Rattle.llsc_base.specs.Memory.{number_of, row_of}
use Rattle.history.proofs.SmallMemory.{apart}
use Rattle.guest_machine.proofs.worked_alone.histories_of_a_thread_alone.Goals as goal

pub returns-clause-stored : goal.returns-clause-stored
unfolding row_of number_of
returns-clause-stored c = record {
  legal = (
    (record { known = lit< tt; aligned = refl; inside = lit≤ tt; fits = lit< tt }, refl),
    ((record { known = lit< tt; aligned = refl; inside = lit≤ tt; fits = lit< tt }, λ exclusive. refl), tt),
  );
  decided = (tt, (tt, tt));
}

pub returns-clause-another_value : goal.returns-clause-another_value
unfolding number_of
returns-clause-another_value c = λ alone. apart 5 0 refl alone.legal.0.1
