-- A guest thread that may be in the middle of an instruction.
use Rattle.std.specs.Prelude.{◌≡◌, ℕ, ◌^◌, ◌<◌, List, [], ◌∷◌, ◌++◌, true, false, None, Result, Ok, Err, length}
use Rattle.llsc_base.specs.Memory.{size_bytes}
use Rattle.llsc_base.specs.Images.{Program, bar_of}
use Rattle.llsc_base.specs.declared.outside.Ask.{Ask}
use Rattle.llsc_base.specs.declared.outside.Ask.TheVariants.{Load, LoadEx, Store, StoreEx, Clear}
use Rattle.llsc_base.specs.declared.outside.CallAsk.{CallAsk}
use Rattle.llsc_base.specs.declared.outside.Stop.{Stop}
use Rattle.llsc_base.specs.declared.outside.Stop.TheVariants as stop
use Rattle.llsc_base.specs.Effects.{EffectOf, asks, calls, completes, stops}
use Rattle.guest_core.specs.Phase.{PhaseOf, Between, Inside, Awaiting, Calling, Stopped}
use Rattle.guest_core.specs.declared.phases.Wanted.{Wanted}
use Rattle.guest_core.specs.declared.phases.Wanted.TheVariants as wanted

-- The state is that from which the instruction in hand began; the replies are those that it has had.
pub record MachineOf (I S : Type 0) : Type 0 where
  pub state : S
  pub phase : PhaseOf I
  pub replies : List ℕ

-- An instruction set: the state in which thread t of n starts at an entry with a stack pointer; a state's PC; the instruction there,
-- or the stop where there is none; what an instruction does first, and what it does with its replies so far; the state after a
-- guest call with its answer; and the call of the table of guest calls that a call of this set is.
pub record InstructionSet (I S : Type 0) : Type 0 where
  pub start : (entry t n sp : ℕ) → S
  pub pc_of : S → ℕ
  pub found : Program → S → Result I Stop
  pub begins : I → Program → S → EffectOf S
  pub acts : I → Program → List ℕ → S → EffectOf S
  pub answered : S → ℕ → S
  pub call_of : CallAsk → CallAsk

-- what is wanted from outside for an effect
abbrev pub wanted_of : {S : Type 0} → EffectOf S → Wanted
wanted_of (asks ask) = wanted.Access ask
wanted_of (calls call) = wanted.Call call
wanted_of (completes state) = wanted.Done
wanted_of (stops stop) = wanted.Stopped stop

-- what a machine does whose instruction isn't complete by it
abbrev pub IsHeld : {S : Type 0} → EffectOf S → Type 0
IsHeld (asks ask) = Unit {0}
IsHeld (calls call) = Unit {0}
IsHeld (completes state) = ⊥
IsHeld (stops stop) = Unit {0}

-- between two instructions, in this state
abbrev pub between : {I S : Type 0} → S → MachineOf I S
between state = record { state = state; phase = Between; replies = [] }

-- the machine after an effect of this instruction
abbrev pub moved_on : {I S : Type 0} → I → MachineOf I S → EffectOf S → MachineOf I S
moved_on instr machine (asks ask) = record machine { phase = Awaiting instr ask }
moved_on instr machine (calls call) = record machine { phase = Calling call }
moved_on instr machine (completes state) = between state
moved_on instr machine (stops stop) = record machine { phase = Stopped stop }

-- the machine after the reply to the access that it waits for
abbrev pub given_in : {I S : Type 0} → MachineOf I S → ℕ → PhaseOf I → MachineOf I S
given_in machine reply Between = machine
given_in machine reply (Inside instr) = machine
given_in machine reply (Awaiting instr ask) = record machine { phase = Inside instr; replies = machine.replies ++ reply ∷ [] }
given_in machine reply (Calling call) = machine
given_in machine reply (Stopped stop) = machine

abbrev pub given : {I S : Type 0} → MachineOf I S → ℕ → MachineOf I S
given machine reply = given_in machine reply machine.phase

module _ {I S : Type 0} (set : InstructionSet I S) where
  -- what an instruction does first, if there is one
  abbrev pub begins_of : Program → S → Result I Stop → EffectOf S
  begins_of program state (Ok instr) = set.begins instr program state
  begins_of program state (Err stop) = stops stop

  -- What a machine does next: between two instructions what the instruction at its PC does first; inside one, whose
  -- condition has passed, what it does with its replies so far. One that waits still waits for the same, and one that
  -- has stopped stays so.
  abbrev pub next_in_of : Program → MachineOf I S → PhaseOf I → EffectOf S
  next_in_of program machine Between = begins_of program machine.state (set.found program machine.state)
  next_in_of program machine (Inside instr) = set.acts instr program machine.replies machine.state
  next_in_of program machine (Awaiting instr ask) = asks ask
  next_in_of program machine (Calling call) = calls call
  next_in_of program machine (Stopped stop) = stops stop

  abbrev pub next_of : Program → MachineOf I S → EffectOf S
  next_of program machine = next_in_of program machine machine.phase

  abbrev pub after_found_of : Program → MachineOf I S → Result I Stop → MachineOf I S
  after_found_of program machine (Ok instr) = moved_on instr machine (set.begins instr program machine.state)
  after_found_of program machine (Err stop) = record machine { phase = Stopped stop }

  abbrev pub after_in_of : Program → MachineOf I S → PhaseOf I → MachineOf I S
  after_in_of program machine Between = after_found_of program machine (set.found program machine.state)
  after_in_of program machine (Inside instr) = moved_on instr machine (set.acts instr program machine.replies machine.state)
  after_in_of program machine (Awaiting instr ask) = machine
  after_in_of program machine (Calling call) = machine
  after_in_of program machine (Stopped stop) = machine

  -- the machine after its next effect
  abbrev pub after_of : Program → MachineOf I S → MachineOf I S
  after_of program machine = after_in_of program machine machine.phase

  -- the machine after the answer to the call that it waits for
  abbrev pub returned_of : MachineOf I S → ℕ → MachineOf I S
  returned_of machine answer = between (set.answered machine.state answer)

-- no access and no call is awaited
abbrev pub AwaitsNothing : {I : Type 0} → PhaseOf I → Type 0
AwaitsNothing Between = Unit {0}
AwaitsNothing (Inside instr) = Unit {0}
AwaitsNothing (Awaiting instr ask) = ⊥
AwaitsNothing (Calling call) = ⊥
AwaitsNothing (Stopped stop) = Unit {0}

-- between two instructions, or inside one
abbrev pub GoesOn : {I : Type 0} → PhaseOf I → Type 0
GoesOn Between = Unit {0}
GoesOn (Inside instr) = Unit {0}
GoesOn (Awaiting instr ask) = ⊥
GoesOn (Calling call) = ⊥
GoesOn (Stopped stop) = ⊥

-- with these replies behind it a machine goes on: it is between two instructions, with none, or inside one
abbrev pub GoesOnWith : {I : Type 0} → PhaseOf I → List ℕ → Type 0
GoesOnWith Between replies = replies ≡ []
GoesOnWith (Inside instr) replies = Unit {0}
GoesOnWith (Awaiting instr asked) replies = ⊥
GoesOnWith (Calling call) replies = ⊥
GoesOnWith (Stopped stop) replies = ⊥

-- a stop that an instruction may make: each but the exit call's, that of a thread whose steps are used up, and that for want of a
-- tag, which is memory's
abbrev pub IsOwn : Stop → Type 0
IsOwn (stop.Exit code) = ⊥
IsOwn stop.Budget = ⊥
IsOwn (stop.TagLimit addr) = ⊥
IsOwn _ = Unit {0}

-- an access is awaited
abbrev pub IsAwaiting : {I : Type 0} → PhaseOf I → Type 0
IsAwaiting Between = ⊥
IsAwaiting (Inside instr) = ⊥
IsAwaiting (Awaiting instr ask) = Unit {0}
IsAwaiting (Calling call) = ⊥
IsAwaiting (Stopped stop) = ⊥

-- a call is awaited
abbrev pub IsCalling : {I : Type 0} → PhaseOf I → Type 0
IsCalling Between = ⊥
IsCalling (Inside instr) = ⊥
IsCalling (Awaiting instr ask) = ⊥
IsCalling (Calling call) = Unit {0}
IsCalling (Stopped stop) = ⊥

-- nothing bars an access
abbrev pub PassesTests : Program → Ask → Type 0
PassesTests program (Load place) = bar_of program place false ≡ None
PassesTests program (LoadEx place) = bar_of program place false ≡ None
PassesTests program (Store place value) = bar_of program place true ≡ None
PassesTests program (StoreEx place value) = bar_of program place true ≡ None
PassesTests program Clear = Unit {0}

-- a value that is stored fits its place
abbrev pub ValueFits : Ask → Type 0
ValueFits (Load place) = Unit {0}
ValueFits (LoadEx place) = Unit {0}
ValueFits (Store place value) = value < 256 ^ size_bytes place.size
ValueFits (StoreEx place value) = value < 256 ^ size_bytes place.size
ValueFits Clear = Unit {0}

-- an access that may be asked for: it has passed its tests, its value fits, and fewer than 16 accesses of its
-- instruction came before it
pub record IsAllowed (program : Program) (replies : List ℕ) (ask : Ask) : Type 0 where
  pub passes : PassesTests program ask
  pub fits : ValueFits ask
  pub room : length replies < 16

-- an access that is wanted may be asked for
abbrev pub IsTested : Program → List ℕ → Wanted → Type 0
IsTested program replies (wanted.Access ask) = IsAllowed program replies ask
IsTested program replies (wanted.Call call) = Unit {0}
IsTested program replies wanted.Done = Unit {0}
IsTested program replies (wanted.Stopped stop) = Unit {0}

-- how a machine stands when something is wanted: it awaits the access or the call, or it is between two instructions
abbrev pub Follows : {I S : Type 0} → MachineOf I S → Wanted → MachineOf I S → Type 0
Follows old (wanted.Access ask) new = IsAwaiting new.phase × (new.replies ≡ old.replies)
Follows old (wanted.Call call) new = IsCalling new.phase
Follows old wanted.Done new = new ≡ between new.state
Follows old (wanted.Stopped stop) new = Unit {0}

-- the machine of a set's thread t of n at its start
abbrev pub start_in : {I S : Type 0} → InstructionSet I S → ℕ → ℕ → ℕ → ℕ → MachineOf I S
start_in set entry t n sp = between (set.start entry t n sp)
