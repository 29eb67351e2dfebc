-- An instruction that is replied to access by access: each reply is given to what the machine asked for next.
use Rattle.std.specs.Prelude.{◌≡◌, ℕ, List, [], ◌∷◌, ◌++◌}
use Rattle.llsc_base.specs.Images.{Program}
use Rattle.a32_instr.specs.declared.instructions.Instr.{Instr}
use Rattle.a32_instr.specs.State.{State, Effect}
use Rattle.llsc_base.specs.Effects.{asks, calls, completes, stops}
use Rattle.a32_instr.specs.Effect.{effect_of}
use Rattle.a32_step.specs.Machine.{Machine, next_effect, after_next}
use Rattle.guest_core.specs.Machine.{given}

-- an effect that asks for an access
abbrev pub IsAsk : Effect → Type 0
IsAsk (asks ask) = Unit {0}
IsAsk (calls call) = ⊥
IsAsk (completes state) = ⊥
IsAsk (stops stop) = ⊥

-- the machine after it has gone on and has been given the reply
abbrev pub replied : Program → Machine → ℕ → Machine
replied program machine reply = given (after_next program machine) reply

-- the same with each of the replies in turn
abbrev pub replied_in_turn : Program → Machine → List ℕ → Machine
replied_in_turn program machine [] = machine
replied_in_turn program machine (reply ∷ replies) = replied_in_turn program (replied program machine reply) replies

-- the machine asks for an access each time before it is given a reply
abbrev pub AsksForEach : Program → Machine → List ℕ → Type 0
AsksForEach program machine [] = Unit {0}
AsksForEach program machine (reply ∷ replies) =
    IsAsk (next_effect program machine) × AsksForEach program (replied program machine reply) replies

-- the instruction asks for an access after each beginning of the replies
abbrev pub IsAskedForEach : Instr → Program → List ℕ → State → Type 0
IsAskedForEach instr program replies state = (front back : List ℕ) (reply : ℕ)
    → front ++ reply ∷ back ≡ replies → IsAsk (effect_of instr program front state)
