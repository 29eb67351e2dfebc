-- Parts of a history, this project's own: its accesses, and the entries of one thread, each in the history's order.
use Rattle.std.specs.Prelude.{ℕ, ◌==◌, List}
use Rattle.std.specs.List.{filter}
use Rattle.history.specs.Entry.{is_access, thread_of}
use Rattle.history.specs.declared.entry.Entry.{Entry}

-- the accesses of a history
abbrev pub accesses_of : List Entry → List Entry
accesses_of history = filter is_access history

-- the entries of a thread
abbrev pub entries_of : ℕ → List Entry → List Entry
entries_of thread history = filter (λ entry. thread_of entry == thread) history
