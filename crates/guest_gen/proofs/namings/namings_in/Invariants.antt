use Rattle.std.proofs.Common.{◌≡◌, ℕ, ◌+◌, ◌-◌, ◌≤◌}
use Rattle.guest_gen.specs.Namings.{namings_in}
use Rattle.guest_gen.proofs.namings.namings_in.Given as goal

-- what was counted and what is left are all
pub record IsFar (first rounds index x count round : ℕ) : Type 0 where
  pub all : count + namings_in x (rounds - round) index ≡ namings_in first rounds index
  pub few : count ≤ round

abbrev pub invariant-loop-round : goal.invariant-loop-round
invariant-loop-round l = IsFar l.first l.rounds l.index l.x l.count l.round
