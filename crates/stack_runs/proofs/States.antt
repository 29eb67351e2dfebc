-- Where a thread of the stack guest stands between two instructions.
use Rattle.std.proofs.Common.{◌≡◌, ℕ, ◌+◌, ◌*◌, ◌%◌, ◌^◌, ◌<◌, ◌≤◌, ◌==◌, false, List, [], ◌∷◌, Some, slice_get, nat_le, Ok, arith}
use Rattle.llsc_base.specs.Images.{Program}
use Rattle.llsc_base.specs.Sizes.{Numbers}
use Rattle.a32_instr.specs.declared.conditions.Flags.{Flags}
use Rattle.a32_instr.specs.declared.instructions.Instr.{Instr}
use Rattle.llsc_base.specs.declared.outside.Stop.{Stop}
use Rattle.a32_instr.specs.State.{State}
use Rattle.a32_instr.specs.Sum.{sum_of}
use Rattle.guest_core.specs.Machine.{between}
use Rattle.a32_step.specs.Machine.{instr_at}
use Rattle.guest_calls.specs.Run.{Pair}
use Rattle.stack_runs.specs.Guest.{stack_image}
use Rattle.a32_guests.proofs.Onward.{RunsOn}
use Rattle.stack_runs.proofs.Words.{stack_instr_at, stack_instrs}

-- what doesn't change: the guest, the machine, the thread's number and how many there are, its stack, and its stop
pub record StackGuest : Type 0 where
  pub nodes : ℕ
  pub rounds : ℕ
  pub size : Numbers
  pub t : ℕ
  pub n : ℕ
  pub sp : ℕ
  pub stop : Stop
  pub room : 65536 ≤ size.mem
  pub few : rounds < 65536

abbrev pub program_of : StackGuest → Program
program_of g = stack_image g.nodes g.rounds g.size

-- what is left of a run, from this state on
abbrev pub From : StackGuest → State → List Pair → Type 0
From g state pairs = RunsOn (program_of g) g.stop (between state) pairs

-- a state of a thread, in which r0 to r2, r8 and r9 have these numbers
abbrev pub state_at : StackGuest → (pc : ℕ) → Flags → (r0 r1 r2 r8 r9 : ℕ) → State
state_at g pc flags r0 r1 r2 r8 r9 = record {
  regs = r0 ∷ r1 ∷ r2 ∷ 0 ∷ 0 ∷ 0 ∷ 0 ∷ 0 ∷ r8 ∷ r9 ∷ 0 ∷ 0 ∷ 0 ∷ g.sp ∷ 0 ∷ [];
  flags = flags;
  pc = pc;
}

-- in the rounds r8 has the address of the top
abbrev pub looped_at : StackGuest → (pc : ℕ) → Flags → (r0 r1 r2 left : ℕ) → State
looped_at g pc flags r0 r1 r2 left = state_at g pc flags r0 r1 r2 8192 left

-- as a thread begins
abbrev pub no_flags : Flags
no_flags = record { n = false; z = false; c = false; v = false }

-- the flags after a number was compared with 0
abbrev pub compared : ℕ → Flags
compared x = record {
  n = nat_le (2 ^ 31) ((x + 4294967295 + 1) % 2 ^ 32);
  z = (x + 4294967295 + 1) % 2 ^ 32 == 0;
  c = nat_le (2 ^ 32) (x + 4294967295 + 1);
  v = (sum_of x 4294967295 1).overflow;
}

-- the instruction at the k-th word
pub at : (g : StackGuest) (k : ℕ) (instr : Instr) → slice_get (stack_instrs g.rounds) k ≡ Some instr
    → instr_at (program_of g) (4096 + 4 * k) ≡ Ok instr
at g = stack_instr_at g.nodes g.rounds g.size (omega (arith, g.room)) g.few
