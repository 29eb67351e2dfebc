-- How a thread's run over a port ends.
use Rattle.std.specs.Prelude.{◌≡◌, ◌⊎◌, ℕ, Bool, false, List}
use Rattle.llsc_base.specs.Images.{Program}
use Rattle.llsc_base.specs.declared.outside.Stop.{Stop}
use Rattle.llsc_base.specs.declared.outside.Stop.TheVariants.{TagLimit}
use Rattle.guest_core.specs.Machine.{MachineOf, InstructionSet}
use Rattle.guest_calls.specs.Run.{Pair, PointOf, first_point, EndsFrom, EndsOnFrom}
use Rattle.guest_thread.specs.Progress.{IsBounded}
use Rattle.guest_thread.specs.ThreadState.{ThreadOf, IsReadyIn}

module _ {I S : Type 0} (set : InstructionSet I S) where
  -- a thread ends by itself, or at a store to an address where memory refuses it
  abbrev pub EndsByFrom : Bool → (ℕ → Type 0) → Program → ℕ → PointOf I S → List Pair → Stop → ℕ → List ℕ → Type 0
  EndsByFrom stocked refuses program budget from pairs stop steps output =
      EndsFrom set stocked program budget from pairs stop steps output
      ⊎ ((addr : ℕ) × (refuses addr × (stop ≡ TagLimit addr) × EndsOnFrom set stocked program budget from pairs stop steps output))

  -- from its start, where it has no stock
  abbrev pub EndsBy : (ℕ → Type 0) → Program → ℕ → MachineOf I S → List Pair → Stop → ℕ → List ℕ → Type 0
  EndsBy refuses program budget start = EndsByFrom false refuses program budget (first_point start)

-- a thread may be asked what it does next, and is within the bounds of a run
pub record IsRunning {I S : Type 0} (mem budget : ℕ) (standing : ThreadOf I S) : Type 0 where
  pub ready : IsReadyIn mem budget standing
  pub bounded : IsBounded standing
