-- Where the accesses of a record stand in the runs of their threads: by which instruction each is made, and behind how many steps.
use Rattle.std.specs.Prelude.{◌≡◌, ℕ, List, [], ◌∷◌, ◌++◌}
use Rattle.llsc_base.specs.Images.{Program}
use Rattle.llsc_base.specs.Memory.{value_at}
use Rattle.llsc_base.specs.Sizes.{Numbers}
use Rattle.llsc_base.specs.declared.access.Place.{Place}
use Rattle.llsc_base.specs.declared.outside.Ask.{Ask}
use Rattle.history.specs.Monitor.{Monitor}
use Rattle.history.specs.declared.entry.Access.{Access}
use Rattle.history.specs.declared.entry.Deed.{Deed}
use Rattle.history.specs.declared.entry.Deed.TheVariants as deed
use Rattle.guest_core.specs.Machine.{InstructionSet}
use Rattle.guest_calls.specs.Pairs.{pairs_in}
use Rattle.guest_thread.specs.Accesses.{monitor_of}
use Rattle.guest_thread.specs.Start.{thread_start}
use Rattle.guest_thread.specs.ThreadState.{ThreadOf}
use Rattle.guest_thread.specs.Under.{Awaits}
use Rattle.run_checker.specs.declared.sightings.Sighting.{Sighting}

-- what memory has at the place of a store-exclusive that fails; at that of any other access it isn't looked at
abbrev pub held_by : Monitor → Deed → Place → ℕ
held_by monitor deed.StoreFail place = value_at monitor.memory place
held_by monitor made place = 0

abbrev pub held_at : Monitor → Access → ℕ
held_at monitor access = held_by monitor access.deed access.place

module _ {I S : Type 0} (set : InstructionSet I S) where
  -- The sighting of an access behind the accesses before it: its thread, which waits for the reply to it, has the PC of the instruction
  -- in hand and the steps before that.
  pub record IsSighted (program : Program) (size : Numbers) (budget : ℕ) (before : List Access) (access : Access) (sighting : Sighting) : Type 0 where
    pub ask : Ask
    pub standing : ThreadOf I S
    pub awaits : Awaits set program budget (thread_start set program size size.threads access.thread) (pairs_in access.thread before) ask standing
    pub pc : sighting.pc ≡ set.pc_of standing.cpu.state
    pub steps : sighting.steps ≡ standing.steps
    pub held : sighting.held ≡ held_at (monitor_of program size before) access

  -- the sightings of some accesses behind those before them, one after another
  abbrev pub AreSightedFrom : Program → Numbers → ℕ → List Access → List Access → List Sighting → Type 0
  AreSightedFrom program size budget before [] [] = Unit {0}
  AreSightedFrom program size budget before (access ∷ accesses) (sighting ∷ sightings) =
      IsSighted program size budget before access sighting × AreSightedFrom program size budget (before ++ access ∷ []) accesses sightings
  AreSightedFrom program size budget before _ _ = ⊥

  -- the sightings of all accesses of a record
  abbrev pub AreSighted : Program → Numbers → ℕ → List Access → List Sighting → Type 0
  AreSighted program size budget accesses sightings = AreSightedFrom program size budget [] accesses sightings
