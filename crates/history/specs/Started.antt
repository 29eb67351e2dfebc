-- Which threads may act, and which they may start: the first threads begin by themselves, and each of them may start so many more,
-- whose numbers are its own. This project's own.
use Rattle.std.specs.Prelude.{◌≡◌, ◌⊎◌, ℕ, ◌+◌, ◌*◌, ◌<◌, ◌==◌, Bool, true, false, List, count_by}
use Rattle.std.specs.List.{list_any}
use Rattle.history.specs.Each.{IsOfEach}
use Rattle.history.specs.Entry.{thread_of}
use Rattle.history.specs.declared.entry.Entry.{Entry}
use Rattle.history.specs.declared.entry.Entry.TheVariants.{Start}

-- an entry starts this thread
abbrev pub is_start_of : ℕ → Entry → Bool
is_start_of child (Start thread started entry arg) = started == child
is_start_of child _ = false

-- a thread has been started
abbrev pub is_started : ℕ → List Entry → Bool
is_started child history = list_any (is_start_of child) history

-- this thread starts another by an entry
abbrev pub is_start_by : ℕ → Entry → Bool
is_start_by thread (Start starter child entry arg) = starter == thread
is_start_by thread _ = false

-- how many threads a thread has started
abbrev pub starts_of : ℕ → List Entry → ℕ
starts_of thread history = count_by (is_start_by thread) history

-- a thread may act: it is one of the first, or has been started
abbrev pub MayAct : (first thread : ℕ) → List Entry → Type 0
MayAct first thread past = (thread < first) ⊎ (is_started thread past ≡ true)

-- the number of a thread that one of the first starts, where it has started so many: each of the first has as many numbers of its
-- own as are spare, behind the numbers of the first and in their order
abbrev pub child_of : (first spare thread started : ℕ) → ℕ
child_of first spare thread started = first + thread * spare + started

-- an entry may stand behind others: its thread may act. Only one of the first starts threads, as many as are spare at most, and
-- those of its own numbers in order
abbrev pub MayStand : (first spare : ℕ) → List Entry → Entry → Type 0
MayStand first spare past (Start thread child entry arg) =
    (thread < first) × (starts_of thread past < spare) × (child ≡ child_of first spare thread (starts_of thread past))
MayStand first spare past entry = MayAct first (thread_of entry) past

-- each entry of a history may stand where it does
abbrev pub AreBorn : (first spare : ℕ) → List Entry → Type 0
AreBorn first spare history = IsOfEach (MayStand first spare) history
