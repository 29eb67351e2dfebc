-- Only proofs and inner contracts need these words beside those of `specs/Told`.
-- What a step tells its caller. This project's own.
use Rattle.std.specs.Prelude.{◌≡◌, ◌≢◌, ◌+◌, ℕ, true, false, List, [], ◌∷◌, ◌++◌}
use Rattle.llsc_base.specs.Memory.{row_of}
use Rattle.llsc_base.specs.declared.access.Place.{Place}
use Rattle.row_bytes.specs.Cell.{value_in_cell}
use Rattle.history.specs.declared.entry.Entry.{Entry}
use Rattle.history.specs.declared.entry.Entry.TheVariants.{Read, Write, Fail, Clear, Watch, Begin, End}
use Rattle.history.specs.declared.entry.Cause.TheVariants.{Absent, Lost}
use Rattle.atomic_table.specs.Table.{Step}
use Rattle.shared_memory.specs.Told.{Ask, Goes}
use Rattle.shared_memory.specs.Origin.{Origin}
use Rattle.shared_memory.specs.Seen.{IsFront}
use Rattle.hst_memory.specs.declared.hands.Doing.TheVariants.{Rest, Inside, Begun, Written, Alone, Watching, Done, AloneBegun, AloneWritten}
use Rattle.hst_memory.specs.declared.hands.Reserve.TheVariants.{Nothing, Row}
use Rattle.hst_memory.specs.Exact.{IsUndisturbed}
use Rattle.hst_memory.specs.inner.Hands.{hand, reserve_after}
use Rattle.hst_memory.specs.Told.{Mine}

-- a store comes into the section where its word is still what was expected
abbrev pub entered : Ask → Step (Unit {0}) → Mine → ℕ → Mine → Type 0
entered q st old n new =
    (n ≡ st.first → Goes q.origin old [] (hand (Inside q.place) old.0.doing.reserve) new)
    × (n ≢ st.first → Goes q.origin old [] old.0.doing new)

-- it begins, with its name in the tag
abbrev pub tagged : Ask → Step (Unit {0}) → Mine → ℕ → Mine → Type 0
tagged q st old n new = Goes q.origin old (Begin old.0.lead q.place ∷ []) (hand (Begun q.place) (reserve_after q.origin.size q.place old.0.doing.reserve)) new

-- it is written where the cell is still what was expected
abbrev pub changed : Ask → Step (Unit {0}) → Mine → ℕ → Mine → Type 0
changed q st old n new =
    (n ≡ st.first → Goes q.origin old (Write old.0.lead q.place q.value false ∷ []) (hand (Written q.place) old.0.doing.reserve) new)
    × (n ≢ st.first → Goes q.origin old [] old.0.doing new)

-- it leaves the section
abbrev pub left_shared : Ask → Step (Unit {0}) → Mine → ℕ → Mine → Type 0
left_shared q st old n new = Goes q.origin old (End old.0.lead q.place ∷ []) (hand Rest old.0.doing.reserve) new

-- ---- inside alone

-- a thread comes in alone where nobody is inside
abbrev pub entered_alone : Ask → Step (Unit {0}) → Mine → ℕ → Mine → Type 0
entered_alone q st old n new =
    (n ≡ st.first → Goes q.origin old [] (hand Alone old.0.doing.reserve) new)
    × (n ≢ st.first → Goes q.origin old [] old.0.doing new)

-- its load-exclusive begins, with its name in the tag
abbrev pub watched : Ask → Step (Unit {0}) → Mine → ℕ → Mine → Type 0
watched q st old n new = Goes q.origin old (Watch old.0.lead q.place ∷ []) (hand (Watching q.place) (Row (row_of q.origin.size.granule q.place))) new

-- and loads the cell
abbrev pub read_ex : Ask → Step (Unit {0}) → Mine → ℕ → Mine → Type 0
read_ex q st old n new = Goes q.origin old (Read old.0.lead q.place (value_in_cell n q.place) true ∷ []) (hand Done old.0.doing.reserve) new

-- it leaves
abbrev pub left_alone : Ask → Step (Unit {0}) → Mine → ℕ → Mine → Type 0
left_alone q st old n new = Goes q.origin old [] (hand Rest old.0.doing.reserve) new

-- its store-exclusive is to succeed: no other has come to the class since its reservation
pub record HasWon (origin : Origin) (place : Place) (old new : Mine) : Type 0 where
  pub goes : Goes origin old (Begin old.0.lead place ∷ []) (hand (AloneBegun place) Nothing) new
  pub past : List Entry
  pub since : IsFront old.0.seen past
  pub is : new.0.seen ≡ past ++ Begin old.0.lead place ∷ []
  pub exact : IsUndisturbed origin.size old.0.lead place past

-- it fails: another has come
pub record HasLost (origin : Origin) (place : Place) (value : ℕ) (old new : Mine) : Type 0 where
  pub goes : Goes origin old (Fail old.0.lead place value Lost ∷ []) (hand Done Nothing) new
  pub past : List Entry
  pub since : IsFront old.0.seen past
  pub is : new.0.seen ≡ past ++ Fail old.0.lead place value Lost ∷ []
  pub exact : IsUndisturbed origin.size old.0.lead place past → ⊥

-- the tag says which
abbrev pub tested : Ask → Step (Unit {0}) → Mine → ℕ → Mine → Type 0
tested q st old n new = (n ≡ old.0.lead + 1 → HasWon q.origin q.place old new) × (n ≢ old.0.lead + 1 → HasLost q.origin q.place q.value old new)

-- it is written where the cell is still what was expected
abbrev pub changed_alone : Ask → Step (Unit {0}) → Mine → ℕ → Mine → Type 0
changed_alone q st old n new =
    (n ≡ st.first → Goes q.origin old (Write old.0.lead q.place q.value true ∷ []) (hand (AloneWritten q.place) Nothing) new)
    × (n ≢ st.first → Goes q.origin old [] old.0.doing new)

-- and leaves
abbrev pub left_written : Ask → Step (Unit {0}) → Mine → ℕ → Mine → Type 0
left_written q st old n new = Goes q.origin old (End old.0.lead q.place ∷ []) (hand Rest Nothing) new

-- ---- without the section

-- a store-exclusive fails for want of a reservation
pub record IsAbsent (origin : Origin) (place : Place) (value : ℕ) (old new : Mine) : Type 0 where
  pub goes : Goes origin old (Fail old.0.lead place value Absent ∷ []) (hand Rest Nothing) new
  pub past : List Entry
  pub since : IsFront old.0.seen past
  pub is : new.0.seen ≡ past ++ Fail old.0.lead place value Absent ∷ []
  pub exact : IsUndisturbed origin.size old.0.lead place past → ⊥

abbrev pub absent : Ask → Step (Unit {0}) → Mine → ℕ → Mine → Type 0
absent q st old n new = IsAbsent q.origin q.place q.value old new

-- CLREX
abbrev pub cleared : Ask → Step (Unit {0}) → Mine → ℕ → Mine → Type 0
cleared q st old n new = Goes q.origin old (Clear old.0.lead ∷ []) (hand Rest Nothing) new
