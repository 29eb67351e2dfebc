use Rattle.std.proofs.Common.{◌≡◌, ◌<◌, ℕ}
use Rattle.shared_memory.specs.Passes.{marked}
use Rattle.shared_memory.specs.Seen.{IsOneOf}
use Rattle.shared_memory.proofs.numbers.other_number.Given as goal

abbrev pub invariant-loop-u : goal.invariant-loop-u
invariant-loop-u l = (k : ℕ) → k < l.u → IsOneOf k (marked l.has) → k ≡ l.t
