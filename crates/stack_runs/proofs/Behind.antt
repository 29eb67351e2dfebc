-- What is complete at once behind an access.
use Rattle.std.proofs.Common.{◌⊎◌, ℕ, List, inl, inr}
use Rattle.llsc_base.specs.Images.{Program}
use Rattle.llsc_base.specs.declared.outside.Ask.{Ask}
use Rattle.llsc_base.specs.declared.outside.Stop.{Stop}
use Rattle.a32_instr.specs.State.{State}
use Rattle.guest_core.specs.Machine.{between}
use Rattle.guest_calls.specs.Run.{Pair}
use Rattle.a32_guests.proofs.Onward.{HasTried, RunsOn}

-- where the access came, the run goes on behind that, too
pub behind : {A : Type 0} (program : Program) (stop : Stop) (ask : Ask) (to next : ℕ → State) (pairs : List Pair)
    → ((reply : ℕ) (rest : List Pair) → RunsOn program stop (between (to reply)) rest → RunsOn program stop (between (next reply)) rest)
    → HasTried program stop ask to pairs ⊎ A → HasTried program stop ask next pairs ⊎ A
behind program stop ask to next pairs more (inl had) =
    inl (record { reply = had.reply; rest = had.rest; are = had.are; on = more had.reply had.rest had.on })
behind program stop ask to next pairs more (inr none) = inr none
