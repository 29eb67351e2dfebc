-- How things stand after a history, entry by entry: one record, from which proofs go on. Each part that says again what
-- a definition of this crate says is tied to it by a law (`src/laws.rt`).
use Rattle.std.specs.Prelude.{ℕ, ◌+◌, ◌==◌, ◌&&◌, ◌||◌, if◌then◌else◌, Bool, false, Option, Some, None, List, [], ◌∷◌}
use Rattle.llsc_base.specs.Memory.{cell_of, class_of, row_of}
use Rattle.llsc_base.specs.Sizes.{Numbers}
use Rattle.llsc_base.specs.declared.access.Place.{Place}
use Rattle.row_bytes.specs.Cell.{cell_at, cell_with}
use Rattle.history.specs.Monitor.{unless_on}
use Rattle.history.specs.declared.entry.Entry.{Entry}
use Rattle.history.specs.declared.entry.Entry.TheVariants.{Read, Write, Fail, Clear, Watch, Miss, Begin, End, Start}

-- how far a thread has come: between two operations; a load-exclusive has begun; a write has begun; it is written
pub data Stage : Type 0 where
  rests : Stage
  looked : Place → Stage
  begun : Place → Stage
  written : Place → Stage

-- how things stand: of memory, of each thread, and of each class
pub record Standing : Type 0 where
  -- the cells of memory, by index
  pub cells : ℕ → ℕ
  -- how far each thread has come
  pub stage : ℕ → Stage
  -- the row on which each thread is marked
  pub mark : ℕ → Option ℕ
  -- the row on which each thread holds a reservation
  pub reserved : ℕ → Option ℕ
  -- since a thread's last Watch, in the class of the row on which it holds a reservation: another has had a Watch or a Begin
  pub passed : ℕ → Bool
  -- another has had a Begin
  pub overtaken : ℕ → Bool
  -- anybody has had a Begin
  pub stirred : ℕ → Bool
  -- how many Begins and Ends a class has had
  pub edges : ℕ → ℕ
  -- how many Writes a class has had
  pub writes : ℕ → ℕ
  -- the thread of a class's last Begin
  pub holder : ℕ → ℕ
  -- one more than the thread of a class's last Watch or Begin, and 0 where it has had none
  pub name : ℕ → ℕ

-- a function with one value changed
abbrev pub updated : {A : Type 0} → (ℕ → A) → ℕ → A → ℕ → A
updated f at value k = if at == k then value else f k

-- a row, if there is one, lies in a class
abbrev pub is_of_class : Numbers → ℕ → Option ℕ → Bool
is_of_class size class (Some row) = class == class_of size.classes row
is_of_class size class None = false

-- a thread's mark after a write of a row, where an exclusive write of its own ends it in any case
abbrev pub mark_after : Option ℕ → Bool → ℕ → Option ℕ
mark_after mark ends row = if ends then None else unless_on row mark

-- how things stand after one more entry
abbrev pub joined : Numbers → Standing → Entry → Standing
joined size s (Read thread place value ex) = record s {
  stage = updated s.stage thread rests;
  mark = if ex then updated s.mark thread (Some (row_of size.granule place)) else s.mark;
}
joined size s (Write thread place value ex) = let class = class_of size.classes (row_of size.granule place) in record s {
  cells = updated s.cells (cell_of place) (cell_with (s.cells (cell_of place)) place value);
  stage = updated s.stage thread (written place);
  mark = λ t. mark_after (s.mark t) ((thread == t) && ex) (row_of size.granule place);
  reserved = λ t. if (thread == t) && ex then None else s.reserved t;
  writes = updated s.writes class (s.writes class + 1);
}
joined size s (Fail thread place value cause) = record s {
  stage = updated s.stage thread rests;
  mark = updated s.mark thread None;
  reserved = updated s.reserved thread None;
}
joined size s (Clear thread) = record s {
  stage = updated s.stage thread rests;
  mark = updated s.mark thread None;
  reserved = updated s.reserved thread None;
}
joined size s (Watch thread place) = let class = class_of size.classes (row_of size.granule place) in record s {
  stage = updated s.stage thread (looked place);
  reserved = updated s.reserved thread (Some (row_of size.granule place));
  passed = updated (λ t. s.passed t || is_of_class size class (s.reserved t)) thread false;
  overtaken = updated s.overtaken thread false;
  stirred = updated s.stirred thread false;
  name = updated s.name class (thread + 1);
}
joined size s (Miss thread place) = record s {
  stage = updated s.stage thread (looked place);
  reserved = updated s.reserved thread None;
}
joined size s (Begin thread place) = let class = class_of size.classes (row_of size.granule place) in record s {
  stage = updated s.stage thread (begun place);
  reserved = λ t. if (thread == t) && is_of_class size class (s.reserved t) then None else s.reserved t;
  passed = updated (λ t. s.passed t || is_of_class size class (s.reserved t)) thread (s.passed thread);
  overtaken = updated (λ t. s.overtaken t || is_of_class size class (s.reserved t)) thread (s.overtaken thread);
  stirred = λ t. s.stirred t || is_of_class size class (s.reserved t);
  edges = updated s.edges class (s.edges class + 1);
  holder = updated s.holder class thread;
  name = updated s.name class (thread + 1);
}
joined size s (End thread place) = let class = class_of size.classes (row_of size.granule place) in record s {
  stage = updated s.stage thread rests;
  edges = updated s.edges class (s.edges class + 1);
}
joined size s (Start thread child entry arg) = record s { stage = updated s.stage thread rests }

-- how things stand after a list of entries
abbrev pub standing_after : Numbers → Standing → List Entry → Standing
standing_after size s [] = s
standing_after size s (entry ∷ entries) = standing_after size (joined size s entry) entries

-- how things stand before the first entry, where memory begins as these bytes
abbrev pub standing_of : List ℕ → Standing
standing_of bytes = record {
  cells = cell_at bytes;
  stage = λ _. rests;
  mark = λ _. None;
  reserved = λ _. None;
  passed = λ _. false;
  overtaken = λ _. false;
  stirred = λ _. false;
  edges = λ _. 0;
  writes = λ _. 0;
  holder = λ _. 0;
  name = λ _. 0;
}
