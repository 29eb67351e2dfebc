-- One guest thread alone, whose accesses make a history of Arm's memory and monitors.
use Rattle.std.specs.Prelude.{◌≡◌, ℕ, false, List, [], ◌∷◌}
use Rattle.llsc_base.specs.Memory.{row_of}
use Rattle.llsc_base.specs.Sizes.{Numbers}
use Rattle.llsc_base.specs.Images.{Program}
use Rattle.history.specs.Monitor.{Monitor, accessed, at_rest_by, is_on, marked_row}
use Rattle.history.specs.ArmLegal.{IsArmLegal}
use Rattle.history.specs.declared.entry.Entry.{Entry}
use Rattle.history.specs.declared.entry.Entry.TheVariants as entry
use Rattle.guest_core.specs.Machine.{MachineOf, InstructionSet}
use Rattle.guest_thread.specs.End.{IsEndIn}
use Rattle.guest_thread.specs.Start.{thread_start}
use Rattle.guest_thread.specs.declared.ends.GuestEnd.{GuestEnd}

-- a store-exclusive fails only where its thread isn't marked on the row
abbrev pub FailsUnmarked : Monitor → Entry → Type 0
FailsUnmarked monitor (entry.Fail thread place value cause) = is_on (row_of monitor.granule place) (marked_row monitor thread) ≡ false
FailsUnmarked monitor _ = Unit {0}

abbrev pub AllFailUnmarked : Monitor → List Entry → Type 0
AllFailUnmarked monitor [] = Unit {0}
AllFailUnmarked monitor (entry ∷ entries) = FailsUnmarked monitor entry × AllFailUnmarked (accessed monitor entry) entries

-- A history of a thread alone, where memory began as these bytes, with rows of this granule: Arm allows its accesses, all of
-- them the thread's, and each store-exclusive succeeds just where its thread is marked on its row.
pub record IsHistoryAlone (granule : ℕ) (bytes : List ℕ) (history : List Entry) : Type 0 where
  pub legal : IsArmLegal (at_rest_by granule bytes 1) history
  pub decided : AllFailUnmarked (at_rest_by granule bytes 1) history

module _ {I S : Type 0} (set : InstructionSet I S) where
  -- the end of a thread alone: that of thread 0 in such a history
  pub record IsEndAlone (program : Program) (budget : ℕ) (start : MachineOf I S) (granule : ℕ) (bytes : List ℕ) (end : GuestEnd) : Type 0 where
    pub number : end.thread ≡ 0
    pub history : List Entry
    pub alone : IsHistoryAlone granule bytes history
    pub end_in : IsEndIn set program budget start history end

  -- the machine has one thread, and the end is that of the program's, on a memory that begins as the program's bytes
  abbrev pub IsSoloEnd : Program → Numbers → ℕ → GuestEnd → Type 0
  IsSoloEnd program size budget end = (size.threads ≡ 1) × IsEndAlone program budget (thread_start set program size size.threads 0) size.granule program.bytes end
