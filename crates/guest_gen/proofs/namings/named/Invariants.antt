use Rattle.std.proofs.Common.{◌≡◌, ℕ, ◌*◌, ◌≤◌}
use Rattle.guest_gen.specs.Namings.{namings_of}
use Rattle.guest_gen.proofs.namings.named.Given as goal

-- the threads so far
pub record IsFar (seed rounds index count thread : ℕ) : Type 0 where
  pub all : count ≡ namings_of seed thread rounds index
  pub few : count ≤ thread * rounds

abbrev pub invariant-loop-thread : goal.invariant-loop-thread
invariant-loop-thread l = IsFar l.seed l.rounds l.index l.count l.thread
