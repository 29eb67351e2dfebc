-- Where a thread of the counter guest stands between two instructions.
use Rattle.std.proofs.Common.{◌≡◌, ℕ, ◌+◌, ◌*◌, ◌%◌, ◌^◌, ◌<◌, ◌≤◌, false, List, [], ◌∷◌, Some, slice_get, Ok, arith}
use Rattle.llsc_base.specs.Images.{Program}
use Rattle.llsc_base.specs.Sizes.{Numbers}
use Rattle.a32_instr.specs.declared.conditions.Flags.{Flags}
use Rattle.a32_instr.specs.declared.instructions.Instr.{Instr}
use Rattle.llsc_base.specs.declared.outside.Stop.TheVariants.{Exit}
use Rattle.a32_instr.specs.State.{State}
use Rattle.guest_core.specs.Machine.{between}
use Rattle.a32_step.specs.Machine.{instr_at}
use Rattle.guest_calls.specs.Run.{Pair}
use Rattle.a32_guests.proofs.Onward.{RunsOn}
use Rattle.guest_gen.specs.Counters.{counter_image}
use Rattle.counter_runs.proofs.Words.{counter_instr_at, counter_instrs}

-- what doesn't change: the guest, the machine, the thread's number and how many there are, and its stack
pub record CounterGuest : Type 0 where
  pub seed : ℕ
  pub rounds : ℕ
  pub size : Numbers
  pub t : ℕ
  pub n : ℕ
  pub sp : ℕ
  pub room : 65536 ≤ size.mem
  pub few : rounds < 2 ^ 32

abbrev pub program_of : CounterGuest → Program
program_of g = counter_image g.seed g.rounds g.size

-- what is left of a run, from this state to an exit call with code 0
abbrev pub From : CounterGuest → State → List Pair → Type 0
From g state pairs = RunsOn (program_of g) (Exit 0) (between state) pairs

-- a state of a thread, in which r4 to r6, r8 to r12 have these numbers
abbrev pub state_at : CounterGuest → (pc : ℕ) → Flags → (r4 r5 r6 r8 r9 r10 r11 r12 : ℕ) → State
state_at g pc flags r4 r5 r6 r8 r9 r10 r11 r12 = record {
  regs = g.t ∷ g.n ∷ 0 ∷ 0 ∷ r4 ∷ r5 ∷ r6 ∷ 0 ∷ r8 ∷ r9 ∷ r10 ∷ r11 ∷ r12 ∷ g.sp ∷ 0 ∷ [];
  flags = flags;
  pc = pc;
}

-- in the loop the generator's numbers and the counters' address stand
abbrev pub looped_at : CounterGuest → (pc : ℕ) → Flags → (x left r10 r11 r12 : ℕ) → State
looped_at g pc flags x left r10 r11 r12 = state_at g pc flags x 1664525 1013904223 left 8192 r10 r11 r12

-- as a thread begins
abbrev pub no_flags : Flags
no_flags = record { n = false; z = false; c = false; v = false }

-- the instruction at the k-th word
pub at : (g : CounterGuest) (k : ℕ) (instr : Instr) → slice_get (counter_instrs (g.seed % 2 ^ 32) g.rounds) k ≡ Some instr
    → instr_at (program_of g) (4096 + 4 * k) ≡ Ok instr
at g = counter_instr_at g.seed g.rounds g.size (omega (arith, g.room)) g.few
