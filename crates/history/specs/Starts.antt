-- The threads that a thread has started, in order: with where each begins, its argument, and how many accesses the thread had made
-- before. This project's own.
use Rattle.std.specs.Prelude.{ℕ, ◌+◌, ◌==◌, ◌&&◌, if◌then◌else◌, List, [], ◌∷◌, ◌++◌, length}
use Rattle.history.specs.Entry.{is_access, thread_of}
use Rattle.history.specs.Parts.{accesses_of, entries_of}
use Rattle.history.specs.declared.entry.Entry.{Entry}
use Rattle.history.specs.declared.entry.Entry.TheVariants.{Start}

-- a started thread's number, its address and argument, and how many accesses stand before its start
pub record Started : Type 0 where
  pub child : ℕ
  pub entry : ℕ
  pub arg : ℕ
  pub place : ℕ

-- what an entry starts for a thread that has made so many accesses
abbrev pub started_by : (thread count : ℕ) → Entry → List Started
started_by thread count (Start starter child entry arg) =
    if starter == thread then record { child = child; entry = entry; arg = arg; place = count } ∷ [] else []
started_by thread count _ = []

-- an access of a thread counts for one
abbrev pub access_by : ℕ → Entry → ℕ
access_by thread entry = if (thread_of entry == thread) && is_access entry then 1 else 0

-- how many accesses a thread has made
abbrev pub made_by : ℕ → List Entry → ℕ
made_by thread history = length (accesses_of (entries_of thread history))

-- what a thread starts that has made so many accesses
abbrev pub starts_from : (thread count : ℕ) → List Entry → List Started
starts_from thread count [] = []
starts_from thread count (entry ∷ entries) = started_by thread count entry ++ starts_from thread (count + access_by thread entry) entries

-- the threads that a thread has started in a history
abbrev pub starts_in : ℕ → List Entry → List Started
starts_in thread history = starts_from thread 0 history
