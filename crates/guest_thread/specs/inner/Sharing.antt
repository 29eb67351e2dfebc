-- Only proofs and inner contracts need these words.
-- A thread's part in a memory that threads share: how it stands, and how an answer of the memory leaves it.
use Rattle.std.specs.Prelude.{◌≡◌, ◌≤◌, ℕ, ◌+◌, true, Option, Some, None, List, [], ◌∷◌, ◌++◌}
use Rattle.atomic_table.specs.Seated.{TableId}
use Rattle.history.specs.Parts.{entries_of}
use Rattle.history.specs.Starts.{starts_in}
use Rattle.history.specs.declared.entry.Entry.{Entry}
use Rattle.shared_memory.specs.Origin.{Origin}
use Rattle.shared_memory.specs.Seen.{IsFront}
use Rattle.llsc_base.specs.declared.outside.Ask.{Ask}
use Rattle.guest_calls.specs.Pairs.{pairs_of}
use Rattle.guest_thread.specs.Counting.{accesses_counted}
use Rattle.guest_thread.specs.Counts.{reads_of, writes_of, fails_of}
use Rattle.guest_thread.specs.Outcome.{IsSpent}
use Rattle.guest_thread.specs.declared.counts.Counts.{Counts}

-- which memory it is and what that was made with; the thread's number, what its pass has seen, and its counts so far
pub record SharingState : Type 0 where
  pub memory : TableId
  pub origin : Origin
  pub thread : ℕ
  pub seen : List Entry
  pub counts : Counts

-- the memory and the number are the same, and what was seen stands in front of what is seen now
pub record HasGoneOn (old new : SharingState) : Type 0 where
  pub memory : new.memory ≡ old.memory
  pub origin : new.origin ≡ old.origin
  pub thread : new.thread ≡ old.thread
  pub front : IsFront old.seen new.seen

-- the counts of a thread where its pass has seen one history, and where it has seen a longer one: they have grown by its accesses there
-- that the first doesn't have
pub record HaveGrown (thread : ℕ) (old new : List Entry) (before after : Counts) : Type 0 where
  pub reads : after.reads + reads_of (entries_of thread old) ≡ before.reads + reads_of (entries_of thread new)
  pub writes : after.writes + writes_of (entries_of thread old) ≡ before.writes + writes_of (entries_of thread new)
  pub fails : after.fails + fails_of (entries_of thread old) ≡ before.fails + fails_of (entries_of thread new)

-- the thread made an access for what it asked, and started no other: what was asked and the reply stand behind the thread's others,
-- and it is counted
pub record IsServedSharing (old : SharingState) (ask : Ask) (reply : ℕ) (new : SharingState) : Type 0 where
  pub goes_on : HasGoneOn old new
  pub pairs : pairs_of old.thread new.seen ≡ pairs_of old.thread old.seen ++ (ask, reply) ∷ []
  pub unstarted : starts_in old.thread new.seen ≡ starts_in old.thread old.seen
  pub counts : HaveGrown old.thread old.seen new.seen old.counts new.counts
  pub one : accesses_counted new.counts ≤ accesses_counted old.counts + 1

-- it made none
pub record IsUnserved (old new : SharingState) : Type 0 where
  pub goes_on : HasGoneOn old new
  pub nothing : entries_of old.thread new.seen ≡ entries_of old.thread old.seen
  pub counts : new.counts ≡ old.counts

-- how an answer, a reply or none, leads on
abbrev pub RepliesSharing : SharingState → Ask → Option ℕ → SharingState → Type 0
RepliesSharing old ask (Some reply) new = IsServedSharing old ask reply new
RepliesSharing old ask None new = IsUnserved old new

-- the memory counts a class's writes, and that of an address has none left
abbrev pub RefusesAt : SharingState → ℕ → Type 0
RefusesAt sharing addr = (sharing.origin.spends ≡ true) × IsSpent sharing.origin.size sharing.seen addr
