-- Only proofs and inner contracts need these words.
-- What a clock replies, and how a guest ends over it. This project's own.
use Rattle.std.specs.Prelude.{◌≡◌, ◌+◌, ◌%◌, ℕ, Option, Some, List}
use Rattle.llsc_base.specs.Images.{Program}
use Rattle.llsc_base.specs.Sizes.{Numbers}
use Rattle.llsc_base.specs.declared.outside.Ask.{Ask}
use Rattle.llsc_base.specs.declared.outside.Ask.TheVariants.{Load, LoadEx, Store, StoreEx, Clear}
use Rattle.llsc_base.specs.declared.outside.Stop.{Stop}
use Rattle.a32_step.specs.Machine.{a32}
use Rattle.guest_core.specs.Ports.{Leads}
use Rattle.guest_calls.specs.Run.{Pair}
use Rattle.guest_thread.specs.Ports.{EndsBy}
use Rattle.guest_thread.specs.Start.{thread_start}
use Rattle.by_hand.specs.declared.clock.Clock.{Clock}

-- the reply to an access, by how often the clock was read; a store-exclusive fails (DDI 0406C A8.8.212)
abbrev pub told : ℕ → Ask → ℕ
told reads (Load place) = reads % 256
told reads (LoadEx place) = reads % 256
told reads (StoreEx place value) = 1
told reads (Store place value) = 0
told reads Clear = 0

-- how often it has been read after that
abbrev pub read_by : ℕ → Ask → ℕ
read_by reads (Load place) = reads + 1
read_by reads (LoadEx place) = reads + 1
read_by reads _ = reads

-- a clock replies to each access, and goes on where it is read
pub record IsTicked (old : Clock) (ask : Ask) (reply : Option ℕ) (new : Clock) : Type 0 where
  pub told_is : reply ≡ Some (told old.reads ask)
  pub goes_on : new.reads ≡ read_by old.reads ask

-- a program's one thread has ended, within 1000 steps, over a clock that nobody had read
pub record EndsOverClock (program : Program) (size : Numbers) (stop : Stop) : Type 0 where
  pub pairs : List Pair
  pub first : Clock
  pub last : Clock
  pub steps : ℕ
  pub output : List ℕ
  pub begins : first.reads ≡ 0
  pub replied : Leads IsTicked first pairs last
  pub ends : EndsBy a32 (λ addr. ⊥) program 1000 (thread_start a32 program size size.threads 0) pairs stop steps output
