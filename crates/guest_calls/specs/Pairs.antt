-- The accesses of a thread in a history of memory, as a run of the thread has them.
use Rattle.std.specs.Prelude.{ℕ, true, false, List, map}
use Rattle.history.specs.Accesses.{entry_of, history_of}
use Rattle.history.specs.Parts.{accesses_of, entries_of}
use Rattle.history.specs.declared.entry.Access.{Access}
use Rattle.history.specs.declared.entry.Entry.{Entry}
use Rattle.history.specs.declared.entry.Entry.TheVariants as entry
use Rattle.llsc_base.specs.declared.outside.Ask.TheVariants.{Load, LoadEx, Store, StoreEx, Clear}
use Rattle.guest_calls.specs.Run.{Pair}

-- The accesses of a history as what a thread asked and what was replied: a load has its value, a store 0, and a
-- store-exclusive 0 where it stored and 1 where it failed. (A mark of the history is no access.)
abbrev pub pair_of : Entry → Pair
pair_of (entry.Read thread place value false) = (Load place, value)
pair_of (entry.Read thread place value true) = (LoadEx place, value)
pair_of (entry.Write thread place value false) = (Store place value, 0)
pair_of (entry.Write thread place value true) = (StoreEx place value, 0)
pair_of (entry.Fail thread place value cause) = (StoreEx place value, 1)
pair_of _ = (Clear, 0)

-- what a thread asked in a history, with the replies, in order
abbrev pub pairs_of : ℕ → List Entry → List Pair
pairs_of thread history = map pair_of (accesses_of (entries_of thread history))

-- the reply to an access, as a run of its thread has it
abbrev pub reply_of : Access → ℕ
reply_of access = (pair_of (entry_of access)).1

-- what a thread asked in accesses of a record, with the replies, in order
abbrev pub pairs_in : ℕ → List Access → List Pair
pairs_in thread accesses = pairs_of thread (history_of accesses)
