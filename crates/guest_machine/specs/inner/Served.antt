-- Only proofs and inner contracts need these words.
-- How the memory of a thread alone answers it.
use Rattle.std.specs.Prelude.{◌≡◌, ◌+◌, ℕ, Option, Some, None}
use Rattle.history.specs.Accesses.{entry_of}
use Rattle.history.specs.ArmLegal.{MayAccess}
use Rattle.history.specs.Monitor.{accessed}
use Rattle.llsc_base.specs.declared.outside.Ask.{Ask}
use Rattle.guest_calls.specs.Pairs.{reply_of}
use Rattle.guest_thread.specs.Accesses.{access_by}
use Rattle.guest_thread.specs.Counts.{reads_in, writes_in, fails_in}
use Rattle.guest_machine.specs.declared.alone.Alone.{Alone}

-- the access that the one thread tries came about in memory and was counted, and this is the reply to it
pub record IsServedAlone (old : Alone) (ask : Ask) (reply : ℕ) (new : Alone) : Type 0 where
  pub reply_is : reply ≡ reply_of (access_by old.memory 0 ask)
  pub memory : new.memory ≡ accessed old.memory (entry_of (access_by old.memory 0 ask))
  pub may : MayAccess old.memory (entry_of (access_by old.memory 0 ask))
  pub reads : new.counts.reads ≡ old.counts.reads + reads_in (entry_of (access_by old.memory 0 ask))
  pub writes : new.counts.writes ≡ old.counts.writes + writes_in (entry_of (access_by old.memory 0 ask))
  pub fails : new.counts.fails ≡ old.counts.fails + fails_in (entry_of (access_by old.memory 0 ask))

-- it replies to each access: it refuses none
abbrev pub RepliesAlone : Alone → Ask → Option ℕ → Alone → Type 0
RepliesAlone old ask (Some reply) new = IsServedAlone old ask reply new
RepliesAlone old ask None new = ⊥
