use Rattle.std.proofs.Common.{◌<◌, ℕ, Bool, sym, subst}
use Rattle.shared_memory.specs.Seen.{IsSingle}
use Rattle.memory_trials.proofs.FewNumbers.{all-of-two}
use Rattle.memory_trials.proofs.tests.trials.handed_over.Goals as goal

pub close-rows-requires-clause-all : goal.close-rows-requires-clause-all
close-rows-requires-clause-all g c t below =
    let made = c.in_ok-memory.ensures in
    let numbers = g.M.SharedMemory.numbers in
    all-of-two (numbers c.store.new.pass) (numbers c.load-loaded.new.pass) (numbers c.join.new.pass) c.join.ensures.numbers
    (subst (λ (f : ℕ → Bool). IsSingle 0 f) (sym c.store.ensures.numbers) made.one.single)
    (subst (λ (f : ℕ → Bool). IsSingle 1 f) (sym c.load-loaded.ensures.numbers) made.other.single)
    t (subst (λ (n : ℕ). t < n) made.machine.threads_are below)
