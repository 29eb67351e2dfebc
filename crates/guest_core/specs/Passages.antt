-- A machine whose instruction is carried on over a port.
use Rattle.std.specs.Prelude.{◌≡◌, ℕ, Option, List, [], ◌∷◌, ◌++◌}
use Rattle.llsc_base.specs.Images.{Program}
use Rattle.llsc_base.specs.declared.outside.Ask.{Ask}
use Rattle.llsc_base.specs.Effects.{asks, completes}
use Rattle.guest_core.specs.declared.phases.Passage.{Passage}
use Rattle.guest_core.specs.declared.phases.Passage.TheVariants.{Next, Jumped, AtStart, UnderWay, Unmet}
use Rattle.guest_core.specs.Machine.{MachineOf, InstructionSet, next_of, after_of, given, between, AwaitsNothing}
use Rattle.guest_core.specs.Ports.{Leads}

module _ {I S : Type 0} (set : InstructionSet I S) where
  -- a machine comes to another by accesses, each of which it asks for next, and the replies to them
  pub data ComesOf (program : Program) (from : MachineOf I S) : List (Ask × ℕ) → MachineOf I S → Type 0 where
    starts : ComesOf program from [] from
    replied : (pairs : List (Ask × ℕ)) (machine : MachineOf I S) (ask : Ask) (reply : ℕ)
        → ComesOf program from pairs machine → next_of set program machine ≡ asks ask
        → ComesOf program from (pairs ++ (ask, reply) ∷ []) (given (after_of set program machine) reply)

  -- what it does next completes its instruction
  abbrev pub CompletesAtOf : Program → MachineOf I S → MachineOf I S → Type 0
  CompletesAtOf program machine new =
      (state : S) × (next_of set program machine ≡ completes state) × (new ≡ after_of set program machine) × (new ≡ between state)

  -- it is complete there, or it goes on from there
  abbrev pub EndsAtOf : Program → MachineOf I S → Passage → MachineOf I S → Type 0
  EndsAtOf program machine Next new = CompletesAtOf program machine new
  EndsAtOf program machine Jumped new = CompletesAtOf program machine new
  EndsAtOf program machine AtStart new = (new ≡ machine) × AwaitsNothing machine.phase
  EndsAtOf program machine UnderWay new = (new ≡ machine) × AwaitsNothing machine.phase
  EndsAtOf program machine Unmet new = (new ≡ machine) × AwaitsNothing machine.phase

  -- a machine between two instructions was carried on over a port, through an instruction or as far as it came
  pub record IsCarriedOnOf {P : Type 0} (replies : P → Ask → Option ℕ → P → Type 0) (program : Program) (old : MachineOf I S) (from : P) (passage : Passage)
      (new : MachineOf I S) (to : P) : Type 0 where
    pub pairs : List (Ask × ℕ)
    pub machine : MachineOf I S
    pub leads : Leads replies from pairs to
    pub comes : ComesOf program old pairs machine
    pub ends : EndsAtOf program machine passage new

-- it was met, and isn't complete
abbrev pub IsHeldBack : Passage → Type 0
IsHeldBack Next = ⊥
IsHeldBack Jumped = ⊥
IsHeldBack AtStart = Unit {0}
IsHeldBack UnderWay = Unit {0}
IsHeldBack Unmet = ⊥
