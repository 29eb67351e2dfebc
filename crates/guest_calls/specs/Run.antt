-- A run of one guest thread, of whatever instruction set, over whatever replies to its accesses.
use Rattle.std.specs.Prelude.{◌≡◌, ℕ, ◌+◌, ◌<◌, ◌&&◌, Bool, false, List, [], ◌∷◌, ◌++◌, length}
use Rattle.llsc_base.specs.Images.{Program}
use Rattle.llsc_base.specs.declared.access.Place.{Place}
use Rattle.llsc_base.specs.declared.access.Size.TheVariants.{B1}
use Rattle.llsc_base.specs.declared.outside.Ask.{Ask}
use Rattle.llsc_base.specs.declared.outside.Ask.TheVariants.{Load, Store}
use Rattle.llsc_base.specs.declared.outside.CallAsk.{CallAsk}
use Rattle.llsc_base.specs.declared.outside.Stop.{Stop}
use Rattle.llsc_base.specs.declared.outside.Stop.TheVariants.{Exit, Budget, TagLimit}
use Rattle.llsc_base.specs.Effects.{asks, calls, completes, stops}
use Rattle.guest_core.specs.Machine.{MachineOf, InstructionSet, next_of, after_of, returned_of, given}
use Rattle.guest_calls.specs.Calls.{CallEffect, exits, answers, writes_bytes, call_effect, is_start_call}

-- an access and the reply to it
abbrev pub Pair : Type 0
Pair = Ask × ℕ

-- the load of the byte at an address
abbrev pub byte_load : ℕ → Ask
byte_load addr = Load (record { addr = addr; size = B1 })

-- the loads of bytes from an address up, one after another, and what is replied: the bytes
abbrev pub byte_loads : ℕ → List ℕ → List Pair
byte_loads from [] = []
byte_loads from (byte ∷ bytes) = (byte_load from, byte) ∷ byte_loads (from + 1) bytes

-- how far a run has come: its machine, its steps and its output
pub record PointOf (I S : Type 0) : Type 0 where
  pub machine : MachineOf I S
  pub steps : ℕ
  pub output : List ℕ

-- a thread that has made no step and written nothing
abbrev pub first_point : {I S : Type 0} → MachineOf I S → PointOf I S
first_point start = record { machine = start; steps = 0; output = [] }

module _ {I S : Type 0} (set : InstructionSet I S) where
  -- what a guest call does in a program, where the thread wrote so many bytes before
  abbrev pub effect_of_call : Program → CallAsk → ℕ → CallEffect
  effect_of_call program call written = call_effect (set.call_of call) (length program.bytes) written

  -- From a point a thread comes to a machine and a number of steps, with these accesses and replies in order, and with
  -- this output. No instruction begins once the steps are the budget. An instruction that is complete is one step, and so
  -- is a guest call that was answered: a write loads its bytes first, each reply is a byte of the output, and its answer
  -- is their number. Where the thread has a stock, a call that starts a thread isn't answered here.
  pub data ReachesBy (stocked : Bool) (program : Program) (budget : ℕ) (from : PointOf I S) : List Pair → MachineOf I S → ℕ → List ℕ → Type 0 where
    begins : ReachesBy stocked program budget from [] from.machine from.steps from.output
    accesses : (pairs : List Pair) (machine : MachineOf I S) (steps : ℕ) (output : List ℕ) (ask : Ask) (reply : ℕ)
        → ReachesBy stocked program budget from pairs machine steps output
        → steps < budget
        → next_of set program machine ≡ asks ask
        → ReachesBy stocked program budget from (pairs ++ (ask, reply) ∷ []) (given (after_of set program machine) reply) steps output
    steps_on : (pairs : List Pair) (machine : MachineOf I S) (steps : ℕ) (output : List ℕ) (state : S)
        → ReachesBy stocked program budget from pairs machine steps output
        → steps < budget
        → next_of set program machine ≡ completes state
        → ReachesBy stocked program budget from pairs (after_of set program machine) (steps + 1) output
    returns : (pairs : List Pair) (machine : MachineOf I S) (steps : ℕ) (output : List ℕ) (call : CallAsk) (answer : ℕ)
        → ReachesBy stocked program budget from pairs machine steps output
        → steps < budget
        → next_of set program machine ≡ calls call
        → effect_of_call program call (length output) ≡ answers answer
        → (stocked && is_start_call (set.call_of call)) ≡ false
        → ReachesBy stocked program budget from pairs (returned_of set (after_of set program machine) answer) (steps + 1) output
    prints : (pairs : List Pair) (machine : MachineOf I S) (steps : ℕ) (output : List ℕ) (call : CallAsk) (addr : ℕ) (bytes : List ℕ)
        → ReachesBy stocked program budget from pairs machine steps output
        → steps < budget
        → next_of set program machine ≡ calls call
        → effect_of_call program call (length output) ≡ writes_bytes addr (length bytes)
        → ReachesBy stocked program budget from (pairs ++ byte_loads addr bytes) (returned_of set (after_of set program machine) (length bytes)) (steps + 1) (output ++ bytes)

  -- where it has none
  abbrev pub ReachesFrom : Program → ℕ → PointOf I S → List Pair → MachineOf I S → ℕ → List ℕ → Type 0
  ReachesFrom program budget from = ReachesBy false program budget from

  -- a thread comes so far from its start
  abbrev pub Reaches : Program → ℕ → MachineOf I S → List Pair → MachineOf I S → ℕ → List ℕ → Type 0
  Reaches program budget start = ReachesFrom program budget (first_point start)

  -- How a thread ends from a point, with the accesses and replies that it had, its steps and its output: at a stop, which is no step;
  -- by the exit call, which is one; or where its steps are the budget, between two instructions.
  pub data EndsFrom (stocked : Bool) (program : Program) (budget : ℕ) (from : PointOf I S) : List Pair → Stop → ℕ → List ℕ → Type 0 where
    halts : (pairs : List Pair) (machine : MachineOf I S) (steps : ℕ) (output : List ℕ) (stop : Stop)
        → ReachesBy stocked program budget from pairs machine steps output
        → steps < budget
        → next_of set program machine ≡ stops stop
        → EndsFrom stocked program budget from pairs stop steps output
    leaves : (pairs : List Pair) (machine : MachineOf I S) (steps : ℕ) (output : List ℕ) (call : CallAsk) (code : ℕ)
        → ReachesBy stocked program budget from pairs machine steps output
        → steps < budget
        → next_of set program machine ≡ calls call
        → effect_of_call program call (length output) ≡ exits code
        → EndsFrom stocked program budget from pairs (Exit code) (steps + 1) output
    spends : (pairs : List Pair) (machine : MachineOf I S) (output : List ℕ)
        → ReachesBy stocked program budget from pairs machine budget output
        → EndsFrom stocked program budget from pairs Budget budget output

  -- from its start, where it has no stock
  abbrev pub Ends : Program → ℕ → MachineOf I S → List Pair → Stop → ℕ → List ℕ → Type 0
  Ends program budget start = EndsFrom false program budget (first_point start)

  -- How a thread ends on a memory whose classes of rows take a limited number of writes: as above; or at a store that memory
  -- refuses, with its steps and its output before the instruction. Where memory may refuse one is for the history to say.
  pub data EndsOnFrom (stocked : Bool) (program : Program) (budget : ℕ) (from : PointOf I S) : List Pair → Stop → ℕ → List ℕ → Type 0 where
    by_itself : (pairs : List Pair) (stop : Stop) (steps : ℕ) (output : List ℕ)
        → EndsFrom stocked program budget from pairs stop steps output
        → EndsOnFrom stocked program budget from pairs stop steps output
    by_limit : (pairs : List Pair) (machine : MachineOf I S) (steps : ℕ) (output : List ℕ) (place : Place) (value : ℕ)
        → ReachesBy stocked program budget from pairs machine steps output
        → steps < budget
        → next_of set program machine ≡ asks (Store place value)
        → EndsOnFrom stocked program budget from pairs (TagLimit place.addr) steps output

  -- from its start, where it has no stock
  abbrev pub EndsOn : Program → ℕ → MachineOf I S → List Pair → Stop → ℕ → List ℕ → Type 0
  EndsOn program budget start = EndsOnFrom false program budget (first_point start)

  -- What a thread asks next from a point, with these accesses and replies behind it: what the instruction in hand asks, or the load of
  -- the next byte of a write.
  pub data AsksFrom (stocked : Bool) (program : Program) (budget : ℕ) (from : PointOf I S) : List Pair → Ask → Type 0 where
    asks_access : (pairs : List Pair) (machine : MachineOf I S) (steps : ℕ) (output : List ℕ) (ask : Ask)
        → ReachesBy stocked program budget from pairs machine steps output
        → steps < budget
        → next_of set program machine ≡ asks ask
        → AsksFrom stocked program budget from pairs ask
    asks_byte : (pairs : List Pair) (machine : MachineOf I S) (steps : ℕ) (output : List ℕ) (call : CallAsk) (addr count : ℕ) (bytes : List ℕ)
        → ReachesBy stocked program budget from pairs machine steps output
        → steps < budget
        → next_of set program machine ≡ calls call
        → effect_of_call program call (length output) ≡ writes_bytes addr count
        → length bytes < count
        → AsksFrom stocked program budget from (pairs ++ byte_loads addr bytes) (byte_load (addr + length bytes))

  -- from its start, where it has no stock
  abbrev pub Asks : Program → ℕ → MachineOf I S → List Pair → Ask → Type 0
  Asks program budget start = AsksFrom false program budget (first_point start)
