-- What a history says of a class of rows, this project's own: how many of its writes have begun and are over, and who came last.
use Rattle.std.specs.Prelude.{ℕ, ◌+◌, if◌then◌else◌, Bool, false, Option, Some, None, List, [], ◌∷◌, count_by}
use Rattle.history.specs.Entry.{is_in_class}
use Rattle.llsc_base.specs.Sizes.{Numbers}
use Rattle.history.specs.declared.entry.Entry.{Entry}
use Rattle.history.specs.declared.entry.Entry.TheVariants.{Watch, Begin, End}

-- a write has begun, or is over, in the class of a row
abbrev pub is_edge : Numbers → ℕ → Entry → Bool
is_edge size row (Begin thread place) = is_in_class size row place
is_edge size row (End thread place) = is_in_class size row place
is_edge size row _ = false

-- how many Begins and Ends the class of a row has had
abbrev pub edges_of : Numbers → ℕ → List Entry → ℕ
edges_of size row history = count_by (is_edge size row) history

-- the later of two, where it is there
abbrev pub or_earlier : Option ℕ → Option ℕ → Option ℕ
or_earlier (Some later) earlier = Some later
or_earlier None earlier = earlier

-- the number that the last entry of a kind gives; a kind gives a number for each entry that is of it
abbrev pub last_of : (Entry → Option ℕ) → List Entry → Option ℕ
last_of kind [] = None
last_of kind (entry ∷ entries) = or_earlier (last_of kind entries) (kind entry)

-- the threads of the Begins in the class of a row
abbrev pub writer_in : Numbers → ℕ → Entry → Option ℕ
writer_in size row (Begin thread place) = if is_in_class size row place then Some thread else None
writer_in size row _ = None

-- the threads of the Watches and Begins in the class of a row
abbrev pub comer_in : Numbers → ℕ → Entry → Option ℕ
comer_in size row (Watch thread place) = if is_in_class size row place then Some thread else None
comer_in size row (Begin thread place) = if is_in_class size row place then Some thread else None
comer_in size row _ = None

-- one more than a thread, and 0 for none
abbrev pub name_of : Option ℕ → ℕ
name_of None = 0
name_of (Some thread) = thread + 1
