-- What a step tells its caller. This project's own.
use Rattle.std.specs.Prelude.{◌≡◌, ◌≢◌, ◌*◌, ◌%◌, ◌<◌, ◌≤◌, ℕ, Bool, true, false, List, [], ◌∷◌, ◌++◌}
use Rattle.llsc_base.specs.Memory.{cell_of, row_of}
use Rattle.row_bytes.specs.Cell.{value_in_cell}
use Rattle.history.specs.Class.{edges_of}
use Rattle.history.specs.Started.{is_started}
use Rattle.history.specs.declared.entry.Entry.{Entry}
use Rattle.history.specs.declared.entry.Entry.TheVariants.{Read, Write, Fail, Clear, Watch, Miss, Begin, End, Start}
use Rattle.history.specs.declared.entry.Cause.TheVariants.{Absent, Lost, Limit}
use Rattle.atomic_table.specs.Table.{Step}
use Rattle.shared_memory.specs.Told.{Ask, Goes, SeatOf}
use Rattle.shared_memory.specs.Origin.{Origin}
use Rattle.shared_memory.specs.Seen.{IsFront}
use Rattle.version_rule.specs.declared.hands.Hand.{Hand}
use Rattle.version_rule.specs.declared.hands.Doing.TheVariants.{Rest, Claimed, Holding, Written, Looking, First, Second}
use Rattle.version_rule.specs.declared.hands.Reserve.TheVariants.{Nothing, Row}
use Rattle.version_rule.specs.Exact.{IsAtLimit, IsOvertaken, IsUndisturbed, IsVersion}
use Rattle.version_rule.specs.Hands.{hand, reserve_after}
use Rattle.version_rule.specs.Left.{IsOver, cell_left}

-- what a seat of such a memory knows
abbrev pub Mine : Type 0
Mine = SeatOf Hand

-- a seat goes on so, and something is so of the history before these entries, which are its last
pub record Decides (origin : Origin) (old : Mine) (entries : List Entry) (about : List Entry → Type 0) (doing : Hand) (new : Mine) : Type 0 where
  pub goes : Goes origin old entries doing new
  pub past : List Entry
  pub since : IsFront old.0.seen past
  pub is : new.0.seen ≡ past ++ entries
  pub fact : about past

-- ---- loads and stores

-- a look at the tag of a place's class, which is how many Begins and Ends the class has had
pub record HasLooked (q : Ask) (old : Mine) (tag : ℕ) (new : Mine) : Type 0 where
  pub goes : Goes q.origin old [] old.0.doing new
  pub edges : edges_of q.origin.size (row_of q.origin.size.granule q.place) new.0.seen ≡ tag

-- a load of the tag, which is never above twice the limit, and there says that the class has had all of its writes
pub record HasFoundTag (q : Ask) (old : Mine) (tag : ℕ) (new : Mine) : Type 0 where
  pub goes : Goes q.origin old [] old.0.doing new
  pub edges : edges_of q.origin.size (row_of q.origin.size.granule q.place) new.0.seen ≡ tag
  pub most : tag ≤ 2 * q.origin.size.limit
  pub spent : tag ≡ 2 * q.origin.size.limit → IsAtLimit q.origin.size q.place new.0.seen

abbrev pub tag_found : Ask → Step (Unit {0}) → Mine → ℕ → Mine → Type 0
tag_found q st old n new = HasFoundTag q old n new

-- a store begins where the tag is still the version that was expected, and else has looked at it
abbrev pub claimed : Ask → Step (Unit {0}) → Mine → ℕ → Mine → Type 0
claimed q st old n new =
    (n ≡ st.first → Decides q.origin old (Begin old.0.lead q.place ∷ []) (IsVersion q.origin.size q.place st.first) (hand (Claimed q.place st.first false) (reserve_after q.origin.size q.place old.0.doing.reserve)) new)
    × (n ≢ st.first → HasLooked q old n new)

-- a write that holds its class loads the cell
abbrev pub taken : Ask → Step (Unit {0}) → Mine → ℕ → Mine → Type 0
taken q st old n new = (version : ℕ) (ex : Bool) → old.0.doing.doing ≡ Claimed q.place version ex
    → Goes q.origin old [] (hand (Holding q.place version ex n) old.0.doing.reserve) new

-- it is written
abbrev pub changed : Ask → Step (Unit {0}) → Mine → ℕ → Mine → Type 0
changed q st old n new = (version : ℕ) (ex : Bool) (cell : ℕ) → old.0.doing.doing ≡ Holding q.place version ex cell
    → Decides q.origin old (Write old.0.lead q.place q.value ex ∷ []) (IsVersion q.origin.size q.place version) (hand (Written q.place version) old.0.doing.reserve) new

-- it gives the class back
abbrev pub released : Ask → Step (Unit {0}) → Mine → ℕ → Mine → Type 0
released q st old n new = Goes q.origin old (End old.0.lead q.place ∷ []) (hand Rest old.0.doing.reserve) new

-- ---- exclusive accesses

-- a load-exclusive begins: with a reservation where no write in the class is in flight, and else without one. A tag is at most
-- twice the limit
abbrev pub watched : Ask → Step (Unit {0}) → Mine → ℕ → Mine → Type 0
watched q st old n new =
    (n % 2 ≡ 0 → Goes q.origin old (Watch old.0.lead q.place ∷ []) (hand (Looking q.place) (Row (row_of q.origin.size.granule q.place) n)) new)
    × (n % 2 ≢ 0 → Goes q.origin old (Miss old.0.lead q.place ∷ []) (hand (Looking q.place) Nothing) new)
    × (n ≤ 2 * q.origin.size.limit)

-- the same, where it waits rather than to begin without one
abbrev pub watched_or_not : Ask → Step (Unit {0}) → Mine → ℕ → Mine → Type 0
watched_or_not q st old n new =
    (n % 2 ≡ 0 → Goes q.origin old (Watch old.0.lead q.place ∷ []) (hand (Looking q.place) (Row (row_of q.origin.size.granule q.place) n)) new)
    × (n % 2 ≢ 0 → Goes q.origin old [] old.0.doing new)
    × (n ≤ 2 * q.origin.size.limit)

-- and loads the cell
abbrev pub read_ex : Ask → Step (Unit {0}) → Mine → ℕ → Mine → Type 0
read_ex q st old n new = Goes q.origin old (Read old.0.lead q.place (value_in_cell n q.place) true ∷ []) (hand Rest old.0.doing.reserve) new

-- its store-exclusive was undisturbed, at a version
pub record IsUndisturbedAt (q : Ask) (thread version : ℕ) (history : List Entry) : Type 0 where
  pub undisturbed : IsUndisturbed q.origin.size thread q.place history
  pub version_is : IsVersion q.origin.size q.place version history

-- it wasn't
abbrev pub IsDisturbed : Ask → ℕ → List Entry → Type 0
IsDisturbed q thread history = IsUndisturbed q.origin.size thread q.place history → ⊥

-- for a write of another has begun in the class since its reservation
pub record HasLost (q : Ask) (thread : ℕ) (history : List Entry) : Type 0 where
  pub overtaken : IsOvertaken q.origin.size thread q.place history
  pub disturbed : IsDisturbed q thread history

-- it begins where the tag is still the version of the reservation, and else fails
abbrev pub claimed_ex : Ask → Step (Unit {0}) → Mine → ℕ → Mine → Type 0
claimed_ex q st old n new =
    (n ≡ st.first → Decides q.origin old (Begin old.0.lead q.place ∷ []) (IsUndisturbedAt q old.0.lead st.first) (hand (Claimed q.place st.first true) Nothing) new)
    × (n ≢ st.first → Decides q.origin old (Fail old.0.lead q.place q.value Lost ∷ []) (HasLost q old.0.lead) (hand Rest Nothing) new)

-- it fails for want of a reservation
abbrev pub absent : Ask → Step (Unit {0}) → Mine → ℕ → Mine → Type 0
absent q st old n new = Decides q.origin old (Fail old.0.lead q.place q.value Absent ∷ []) (IsDisturbed q old.0.lead) (hand Rest Nothing) new

-- it fails since the class has had all of its writes
abbrev pub limited : Ask → Step (Unit {0}) → Mine → ℕ → Mine → Type 0
limited q st old n new = Decides q.origin old (Fail old.0.lead q.place q.value Limit ∷ []) (IsDisturbed q old.0.lead) (hand Rest Nothing) new

-- CLREX
abbrev pub cleared : Ask → Step (Unit {0}) → Mine → ℕ → Mine → Type 0
cleared q st old n new = Goes q.origin old (Clear old.0.lead ∷ []) (hand Rest Nothing) new

-- ---- stamped loads

-- a stamped load finds a version, where no write in the class is in flight
abbrev pub first_found : Ask → Step (Unit {0}) → Mine → ℕ → Mine → Type 0
first_found q st old n new =
    (n % 2 ≡ 0 → Goes q.origin old [] (hand (First q.place n) old.0.doing.reserve) new)
    × (n % 2 ≢ 0 → Goes q.origin old [] old.0.doing new)
    × (n ≤ 2 * q.origin.size.limit)

-- it loads the cell
abbrev pub second_found : Ask → Step (Unit {0}) → Mine → ℕ → Mine → Type 0
second_found q st old n new = (version : ℕ) → old.0.doing.doing ≡ First q.place version
    → Goes q.origin old [] (hand (Second q.place version n) old.0.doing.reserve) new

-- it is over where it finds the same version again: the cell was memory's all the time
abbrev pub third_found : Ask → Step (Unit {0}) → Mine → ℕ → Mine → Type 0
third_found q st old n new = (version cell : ℕ) → old.0.doing.doing ≡ Second q.place version cell
    → (n ≡ version → Decides q.origin old (Read old.0.lead q.place (value_in_cell cell q.place) false ∷ []) (IsVersion q.origin.size q.place version) (hand Rest old.0.doing.reserve) new)
    × (n ≢ version → Goes q.origin old [] (hand Rest old.0.doing.reserve) new)

-- the same of a load-exclusive, whose reservation begins there too
abbrev pub third_found_ex : Ask → Step (Unit {0}) → Mine → ℕ → Mine → Type 0
third_found_ex q st old n new = (version cell : ℕ) → old.0.doing.doing ≡ Second q.place version cell
    → (n ≡ version → Decides q.origin old (Watch old.0.lead q.place ∷ Read old.0.lead q.place (value_in_cell cell q.place) true ∷ []) (IsVersion q.origin.size q.place version)
    (hand Rest (Row (row_of q.origin.size.granule q.place) version)) new)
    × (n ≢ version → Goes q.origin old [] (hand Rest old.0.doing.reserve) new)

-- ---- threads that are started

-- which thread is started, on which memory, where it begins, and with which argument
pub record Birth : Type 0 where
  pub origin : Origin
  pub child : ℕ
  pub entry : ℕ
  pub arg : ℕ

-- a thread is started
abbrev pub started : Birth → Step (Unit {0}) → Mine → ℕ → Mine → Type 0
started b st old n new = Goes b.origin old (Start old.0.lead b.child b.entry b.arg ∷ []) old.0.doing new

-- a seat learns that its thread is one of the machine's
abbrev pub known_own : Ask → Step (Unit {0}) → Mine → ℕ → Mine → Type 0
known_own q st old n new = Goes q.origin old [] old.0.doing new × (old.0.lead < q.origin.size.threads)

-- a thread looks whether it was started: its word is 1 only where it was
abbrev pub start_found : Ask → Step (Unit {0}) → Mine → ℕ → Mine → Type 0
start_found q st old n new = Goes q.origin old [] old.0.doing new × (n ≡ 1 → is_started old.0.lead new.0.seen ≡ true)

-- ---- memory as all threads have left it

-- a seat that holds every number, and has no call in flight, looks at a cell: what it has seen is the whole history, and stays so
pub record HasFoundLeft (q : Ask) (old : Mine) (cell : ℕ) (new : Mine) : Type 0 where
  pub same : new ≡ old
  pub over : IsOver q.origin old.0.seen
  pub cell_is : cell ≡ cell_left q.origin old.0.seen (cell_of q.place)

abbrev pub left_found : Ask → Step (Unit {0}) → Mine → ℕ → Mine → Type 0
left_found q st old n new = HasFoundLeft q old n new
