-- Where a guest thread stands between two of its accesses, and while it waits for the reply to one.
use Rattle.std.specs.Prelude.{ℕ, ◌+◌, ◌-◌, ◌^◌, ◌<◌, ◌≤◌, List, length, Option, Some, None}
use Rattle.llsc_base.specs.declared.outside.Ask.{Ask}
use Rattle.guest_core.specs.Machine.{MachineOf, AwaitsNothing, IsAwaiting, IsCalling}
use Rattle.guest_core.specs.Ports.{IsAskIn, ReplyFits}
use Rattle.guest_calls.specs.Calls.{most_output}
use Rattle.guest_thread.specs.declared.guests.Printing.{Printing}
use Rattle.guest_thread.specs.declared.guests.Turn.{Turn}
use Rattle.guest_thread.specs.declared.guests.Turn.TheVariants as turn

-- its core, its steps, its output so far, and the write, if any, in the middle of which it is
pub record ThreadStateOf (M : Type 0) : Type 0 where
  pub cpu : M
  pub steps : ℕ
  pub output : List ℕ
  pub printing : Option Printing

-- a thread whose core is a machine of an instruction set
abbrev pub ThreadOf : (I S : Type 0) → Type 0
ThreadOf I S = ThreadStateOf (MachineOf I S)

-- the thread whose core is the machine that the core of a thread stands for
abbrev pub thread_in : {C M : Type 0} → (C → M) → ThreadStateOf C → ThreadStateOf M
thread_in machine standing = record {
  cpu = machine standing.cpu;
  steps = standing.steps;
  output = standing.output;
  printing = standing.printing;
}

-- the core waits for the answer to the write, which has bytes left, and these have room in the output
pub record HasLeft {I S : Type 0} (standing : ThreadOf I S) (printing : Printing) : Type 0 where
  pub calling : IsCalling standing.cpu.phase
  pub left : printing.loaded < printing.len
  pub room : length standing.output + (printing.len - printing.loaded) ≤ most_output

-- its bytes lie in memory of so many bytes, and its instruction is within the budget
pub record IsWriting {I S : Type 0} (mem budget : ℕ) (standing : ThreadOf I S) (printing : Printing) : Type 0 where
  pub has_left : HasLeft standing printing
  pub inside : printing.from + printing.len ≤ mem
  pub within : standing.steps < budget

abbrev pub IsReadyBy : {I S : Type 0} → ℕ → ℕ → ThreadOf I S → Option Printing → Type 0
IsReadyBy mem budget standing None = AwaitsNothing standing.cpu.phase × (standing.steps ≤ budget)
IsReadyBy mem budget standing (Some printing) = IsWriting mem budget standing printing

-- the thread may be asked what it does next, in memory of so many bytes and with such a budget: its core waits for nothing,
-- or it is in the middle of a write, whether or not it has asked for the next byte
abbrev pub IsReadyIn : {I S : Type 0} → ℕ → ℕ → ThreadOf I S → Type 0
IsReadyIn mem budget standing = IsReadyBy mem budget standing standing.printing

abbrev pub IsWaitingBy : {I S : Type 0} → ℕ → ℕ → ThreadOf I S → Option Printing → Type 0
IsWaitingBy mem budget standing None = IsAwaiting standing.cpu.phase × (standing.steps < budget)
IsWaitingBy mem budget standing (Some printing) = IsWriting mem budget standing printing

-- a reply may come: its core waits for one, or it is in the middle of a write, where this says the same as IsReadyIn
abbrev pub IsWaitingIn : {I S : Type 0} → ℕ → ℕ → ThreadOf I S → Type 0
IsWaitingIn mem budget standing = IsWaitingBy mem budget standing standing.printing

abbrev pub MayGiveBy : {I S : Type 0} → ThreadOf I S → Option Printing → ℕ → Type 0
MayGiveBy standing None reply = IsAwaiting standing.cpu.phase
MayGiveBy standing (Some printing) reply = HasLeft standing printing × (reply < 256)

-- a reply may be given: the core waits for one, or the thread is in the middle of a write and the reply is a byte; and its
-- steps are below 2 to the 63
abbrev pub MayGive : {I S : Type 0} → ThreadOf I S → ℕ → Type 0
MayGive standing reply = (standing.steps < 2 ^ 63) × MayGiveBy standing standing.printing reply

-- where an access was asked for, it may be made in memory of so many bytes, its reply may come, and any that fits may be
-- given
pub record IsPending {I S : Type 0} (mem budget : ℕ) (ask : Ask) (standing : ThreadOf I S) : Type 0 where
  pub may : IsAskIn mem ask
  pub waiting : IsWaitingIn mem budget standing
  pub give : (reply : ℕ) → ReplyFits ask reply → MayGive standing reply

abbrev pub IsPendingAfter : {I S : Type 0} → ℕ → ℕ → Turn → ThreadOf I S → Type 0
IsPendingAfter mem budget (turn.Asks ask) standing = IsPending mem budget ask standing
IsPendingAfter mem budget (turn.Ended stop) standing = Unit {0}
