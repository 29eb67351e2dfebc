use Rattle.std.proofs.Common.{refl}
use Rattle.llsc_report.proofs.Numerals.{budget_shown, fails_shown, reads_shown, rounds_shown, seed_shown, thread_shown, threads_shown, writes_shown, zero_shown}
use Rattle.llsc_report.proofs.worked.texts_of_great_numbers.Goals as goal

pub returns-clause-stop : goal.returns-clause-stop
returns-clause-stop c = rw budget_shown refl

pub returns-clause-thread : goal.returns-clause-thread
returns-clause-thread c = rw (thread_shown, budget_shown, zero_shown) refl

pub returns-clause-counts : goal.returns-clause-counts
returns-clause-counts c = rw (reads_shown, writes_shown, fails_shown) refl

pub returns-clause-load : goal.returns-clause-load
returns-clause-load c = rw (seed_shown, threads_shown, rounds_shown) refl
