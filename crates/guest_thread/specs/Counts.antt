-- What is counted of a history: loads, stores, and store-exclusives that failed.
use Rattle.std.specs.Prelude.{ℕ, List, sum_by}
use Rattle.history.specs.declared.entry.Entry.{Entry}
use Rattle.history.specs.declared.entry.Entry.TheVariants.{Read, Write, Fail}

-- one for a load or a load-exclusive, one for a store or a store-exclusive that stored, one for one that failed
abbrev pub reads_in : Entry → ℕ
reads_in (Read thread place value ex) = 1
reads_in _ = 0

abbrev pub writes_in : Entry → ℕ
writes_in (Write thread place value ex) = 1
writes_in _ = 0

abbrev pub fails_in : Entry → ℕ
fails_in (Fail thread place value cause) = 1
fails_in _ = 0

-- how many of each a history has
abbrev pub reads_of : List Entry → ℕ
reads_of history = sum_by reads_in history

abbrev pub writes_of : List Entry → ℕ
writes_of history = sum_by writes_in history

abbrev pub fails_of : List Entry → ℕ
fails_of history = sum_by fails_in history
