-- Only proofs and inner contracts need these words.
-- What holds of a sound set of instructions: of whatever a machine of it does next.
use Rattle.std.specs.Prelude.{◌≡◌, ◌<◌, length}
use Rattle.llsc_base.specs.Images.{Program}
use Rattle.llsc_base.specs.declared.outside.Ask.{Ask}
use Rattle.llsc_base.specs.declared.outside.Stop.{Stop}
use Rattle.llsc_base.specs.Effects.{asks, stops}
use Rattle.guest_core.specs.Machine.{MachineOf, InstructionSet, next_of, GoesOn, GoesOnWith, IsOwn, PassesTests}

module _ {I S : Type 0} (set : InstructionSet I S) where
  -- an access that is asked for has passed its tests
  abbrev pub AsksPass : Type 0
  AsksPass = (program : Program) (machine : MachineOf I S) (asked : Ask) → GoesOn machine.phase → next_of set program machine ≡ asks asked → PassesTests program asked

  -- an instruction that asks for an access has had fewer than 16 replies
  abbrev pub AsksHaveRoom : Type 0
  AsksHaveRoom = (program : Program) (machine : MachineOf I S) (asked : Ask) → GoesOnWith machine.phase machine.replies → next_of set program machine ≡ asks asked
      → length machine.replies < 16

  -- a stop is one that an instruction makes
  abbrev pub StopsAreOwn : Type 0
  StopsAreOwn = (program : Program) (machine : MachineOf I S) (why : Stop) → GoesOn machine.phase → next_of set program machine ≡ stops why → IsOwn why
