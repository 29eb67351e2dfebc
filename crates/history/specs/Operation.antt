-- The operations of which a thread's entries are made, this project's own: an access, with the marks round it.
use Rattle.std.specs.Prelude.{◌≡◌, ℕ, Bool, true, false, List, [], ◌∷◌, ◌++◌}
use Rattle.std.specs.List.{flat_map}
use Rattle.llsc_base.specs.declared.access.Place.{Place}
use Rattle.history.specs.declared.entry.Cause.{Cause}
use Rattle.history.specs.declared.entry.Entry.{Entry}
use Rattle.history.specs.declared.entry.Entry.TheVariants.{Read, Write, Fail, Clear, Watch, Miss, Begin, End, Start}

-- a load; a load-exclusive, with a reservation or without; a store, or a store-exclusive that succeeds; a
-- store-exclusive that fails; CLREX; a thread that is started
pub data Operation : Type 0 where
  load : Place → ℕ → Operation
  load_watched : Place → ℕ → Operation
  load_missed : Place → ℕ → Operation
  store : Place → ℕ → Bool → Operation
  fail : Place → ℕ → Cause → Operation
  clear : Operation
  start : (child entry arg : ℕ) → Operation

-- the entries of a thread's operation
abbrev pub entries_of_operation : ℕ → Operation → List Entry
entries_of_operation thread (load place value) = Read thread place value false ∷ []
entries_of_operation thread (load_watched place value) = Watch thread place ∷ Read thread place value true ∷ []
entries_of_operation thread (load_missed place value) = Miss thread place ∷ Read thread place value true ∷ []
entries_of_operation thread (store place value ex) = Begin thread place ∷ Write thread place value ex ∷ End thread place ∷ []
entries_of_operation thread (fail place value cause) = Fail thread place value cause ∷ []
entries_of_operation thread clear = Clear thread ∷ []
entries_of_operation thread (start child entry arg) = Start thread child entry arg ∷ []

-- entries are those of a sequence of operations of a thread, each of them finished
pub record AreFinished (thread : ℕ) (entries : List Entry) : Type 0 where
  pub operations : List Operation
  pub are : entries ≡ flat_map (entries_of_operation thread) operations

-- entries are those of a sequence of operations of a thread, of which the last may be unfinished
pub record AreOperations (thread : ℕ) (entries : List Entry) : Type 0 where
  pub missing : List Entry
  pub finished : AreFinished thread (entries ++ missing)
