-- How the accesses of a thread are counted.
use Rattle.std.specs.Prelude.{◌≡◌, ℕ, ◌+◌, List}
use Rattle.history.specs.Parts.{entries_of}
use Rattle.history.specs.declared.entry.Entry.{Entry}
use Rattle.guest_thread.specs.Counts.{reads_of, writes_of, fails_of}
use Rattle.guest_thread.specs.declared.counts.Counts.{Counts}
use Rattle.guest_thread.specs.declared.ends.GuestEnd.{GuestEnd}

-- how many accesses were counted
abbrev pub accesses_counted : Counts → ℕ
accesses_counted counts = counts.reads + counts.writes + counts.fails

-- the counts of an end
abbrev pub counts_in : GuestEnd → Counts
counts_in end = record { reads = end.reads; writes = end.writes; fails = end.fails }

-- the counts of a thread's loads, stores and failed store-exclusives in a history
pub record AreCounts (thread : ℕ) (history : List Entry) (counts : Counts) : Type 0 where
  pub reads : counts.reads ≡ reads_of (entries_of thread history)
  pub writes : counts.writes ≡ writes_of (entries_of thread history)
  pub fails : counts.fails ≡ fails_of (entries_of thread history)

-- the counts of a thread before and after some more of the history: they have grown by its accesses there
pub record HaveGrownBy (thread : ℕ) (added : List Entry) (before after : Counts) : Type 0 where
  pub reads : after.reads ≡ before.reads + reads_of (entries_of thread added)
  pub writes : after.writes ≡ before.writes + writes_of (entries_of thread added)
  pub fails : after.fails ≡ before.fails + fails_of (entries_of thread added)
