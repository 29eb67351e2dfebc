-- Only proofs and inner contracts need these words.
-- How far an instruction comes that is carried through over a port.
use Rattle.std.specs.Prelude.{◌≡◌, ℕ, Option, Some, List, [], ◌∷◌}
use Rattle.llsc_base.specs.Images.{Program}
use Rattle.llsc_base.specs.declared.outside.Ask.{Ask}
use Rattle.llsc_base.specs.Effects.{asks, completes}
use Rattle.guest_core.specs.declared.phases.Passage.{Passage}
use Rattle.guest_core.specs.declared.phases.Passage.TheVariants.{Next, Jumped, AtStart, UnderWay, Unmet}
use Rattle.guest_core.specs.Machine.{IsHeld}
use Rattle.guest_core.specs.Ports.{Leads}
use Rattle.rv32_guest.specs.State.{RvState, Effect}

-- it is complete at once, or with the reply to its access; an instruction is what it does with the replies that it has had
pub data IsDone {P : Type 0} (replies : P → Ask → Option ℕ → P → Type 0) (does : List ℕ → Effect) (from : P) (new : RvState) : P → Type 0 where
  at_once : does [] ≡ completes new → IsDone replies does from new from
  by_reply : (to : P) (ask : Ask) (reply : ℕ) → does [] ≡ asks ask → replies from ask (Some reply) to → does (reply ∷ []) ≡ completes new
      → IsDone replies does from new to

-- it is at its start, and isn't complete by what it does first
pub record IsHeldAt {P : Type 0} (replies : P → Ask → Option ℕ → P → Type 0) (does : List ℕ → Effect) (old : RvState) (from : P) (new : RvState) (to : P) : Type 0 where
  pub state : new ≡ old
  pub held : IsHeld (does [])
  pub leads : Leads replies from [] to

abbrev pub IsCarriedBy : {P : Type 0} (replies : P → Ask → Option ℕ → P → Type 0) (does : List ℕ → Effect) (old : RvState) (from : P)
    → Passage → RvState → P → Type 0
IsCarriedBy replies does old from Next new to = IsDone replies does from new to
IsCarriedBy replies does old from Jumped new to = IsDone replies does from new to
IsCarriedBy replies does old from AtStart new to = IsHeldAt replies does old from new to
IsCarriedBy replies does old from UnderWay new to = ⊥
IsCarriedBy replies does old from Unmet new to = ⊥

-- so far an instruction comes that makes no access
abbrev pub IsCarriedAlone : (does : Program → Effect) (old : RvState) → Passage → RvState → Type 0
IsCarriedAlone does old Next new = (program : Program) → does program ≡ completes new
IsCarriedAlone does old Jumped new = (program : Program) → does program ≡ completes new
IsCarriedAlone does old AtStart new = (new ≡ old) × ((program : Program) → IsHeld (does program))
IsCarriedAlone does old UnderWay new = ⊥
IsCarriedAlone does old Unmet new = ⊥
