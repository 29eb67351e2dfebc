-- A guest thread under way, as its run has it.
use Rattle.std.specs.Prelude.{◌≡◌, ℕ, ◌+◌, ◌<◌, Bool, true, false, List, ◌++◌, length, Option, Some, None}
use Rattle.llsc_base.specs.Images.{Program}
use Rattle.llsc_base.specs.declared.outside.Ask.{Ask}
use Rattle.llsc_base.specs.declared.outside.CallAsk.{CallAsk}
use Rattle.llsc_base.specs.Effects.{asks, calls}
use Rattle.guest_core.specs.Machine.{MachineOf, InstructionSet, next_of, after_of}
use Rattle.guest_calls.specs.Calls.{is_start_call, writes_bytes}
use Rattle.guest_calls.specs.Run.{Pair, PointOf, first_point, byte_load, byte_loads, effect_of_call, ReachesBy, EndsFrom, AsksFrom}
use Rattle.guest_thread.specs.declared.guests.Printing.{Printing}
use Rattle.guest_thread.specs.declared.guests.Turn.{Turn}
use Rattle.guest_thread.specs.declared.guests.Turn.TheVariants as turn
use Rattle.guest_thread.specs.ThreadState.{ThreadOf}

module _ {I S : Type 0} (set : InstructionSet I S) where
  -- in the middle of a write, some of whose bytes were loaded
  pub record IsPrintingFrom (stocked : Bool) (program : Program) (budget : ℕ) (from : PointOf I S) (pairs : List Pair) (standing : ThreadOf I S) (printing : Printing) : Type 0 where
    pub before : List Pair
    pub machine : MachineOf I S
    pub output : List ℕ
    pub call : CallAsk
    pub bytes : List ℕ
    pub reached : ReachesBy set stocked program budget from before machine standing.steps output
    pub within : standing.steps < budget
    pub called : next_of set program machine ≡ calls call
    pub writes : effect_of_call set program call (length output) ≡ writes_bytes printing.from printing.len
    pub cpu : standing.cpu ≡ after_of set program machine
    pub pairs_are : pairs ≡ before ++ byte_loads printing.from bytes
    pub output_is : standing.output ≡ output ++ bytes
    pub loaded : length bytes ≡ printing.loaded
    pub left : printing.loaded < printing.len

  abbrev pub HasComeBy : Bool → Program → ℕ → PointOf I S → List Pair → ThreadOf I S → Option Printing → Type 0
  HasComeBy stocked program budget from pairs standing None = ReachesBy set stocked program budget from pairs standing.cpu standing.steps standing.output
  HasComeBy stocked program budget from pairs standing (Some printing) = IsPrintingFrom stocked program budget from pairs standing printing

  -- a thread has come so far from a point, with these accesses and replies; where it has a stock, by no call that starts a thread
  abbrev pub HasComeFrom : Bool → Program → ℕ → PointOf I S → List Pair → ThreadOf I S → Type 0
  HasComeFrom stocked program budget from pairs standing = HasComeBy stocked program budget from pairs standing standing.printing

  -- from its start, where it has no stock
  abbrev pub HasCome : Program → ℕ → MachineOf I S → List Pair → ThreadOf I S → Type 0
  HasCome program budget start = HasComeFrom false program budget (first_point start)

  -- in the middle of an instruction, which has asked for an access
  pub record IsAskingFrom (stocked : Bool) (program : Program) (budget : ℕ) (from : PointOf I S) (pairs : List Pair) (ask : Ask) (standing : ThreadOf I S) : Type 0 where
    pub machine : MachineOf I S
    pub reached : ReachesBy set stocked program budget from pairs machine standing.steps standing.output
    pub within : standing.steps < budget
    pub asked : next_of set program machine ≡ asks ask
    pub cpu : standing.cpu ≡ after_of set program machine

  abbrev pub AwaitsBy : Bool → Program → ℕ → PointOf I S → List Pair → Ask → ThreadOf I S → Option Printing → Type 0
  AwaitsBy stocked program budget from pairs ask standing None = IsAskingFrom stocked program budget from pairs ask standing
  AwaitsBy stocked program budget from pairs ask standing (Some printing) =
      IsPrintingFrom stocked program budget from pairs standing printing × (ask ≡ byte_load (printing.from + printing.loaded))

  -- a thread has come so far from a point and awaits the reply to this
  abbrev pub AwaitsFrom : Bool → Program → ℕ → PointOf I S → List Pair → Ask → ThreadOf I S → Type 0
  AwaitsFrom stocked program budget from pairs ask standing = AwaitsBy stocked program budget from pairs ask standing standing.printing

  -- from its start, where it has no stock
  abbrev pub Awaits : Program → ℕ → MachineOf I S → List Pair → Ask → ThreadOf I S → Type 0
  Awaits program budget start = AwaitsFrom false program budget (first_point start)

  -- What a thread's turn comes to: what it asks is what its run asks next, and it awaits the reply; or its run has ended,
  -- with its steps and its output.
  abbrev pub ComesToFrom : Bool → Program → ℕ → PointOf I S → List Pair → Turn → ThreadOf I S → Type 0
  ComesToFrom stocked program budget from pairs (turn.Asks ask) standing =
      AsksFrom set stocked program budget from pairs ask × AwaitsFrom stocked program budget from pairs ask standing
  ComesToFrom stocked program budget from pairs (turn.Ended stop) standing =
      EndsFrom set stocked program budget from pairs stop standing.steps standing.output

  -- from its start, where it has no stock
  abbrev pub ComesTo : Program → ℕ → MachineOf I S → List Pair → Turn → ThreadOf I S → Type 0
  ComesTo program budget start = ComesToFrom false program budget (first_point start)

  -- a thread has come so far and has called for a thread to be started, in an instruction that isn't complete, since it awaits the answer
  pub record CallsToStart (stocked : Bool) (program : Program) (budget : ℕ) (from : PointOf I S) (pairs : List Pair) (call : CallAsk) (cpu : MachineOf I S) (steps : ℕ) (output : List ℕ) : Type 0 where
    pub machine : MachineOf I S
    pub reached : ReachesBy set stocked program budget from pairs machine steps output
    pub within : steps < budget
    pub called : next_of set program machine ≡ calls call
    pub starts : is_start_call (set.call_of call) ≡ true
    pub cpu_is : cpu ≡ after_of set program machine
