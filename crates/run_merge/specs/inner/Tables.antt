-- Only proofs and inner contracts need these words.
-- What a merge keeps by classes and stamps.
use Rattle.std.specs.Prelude.{◌≡◌, ℕ, ◌+◌, ◌-◌, ◌<◌, ◌==◌, ◌&&◌, if◌then◌else◌, Bool, true, List, ◌∷◌, ◌++◌, length, drop, count_by, sum_by, slice_index, slice_set}
use Rattle.std.specs.List.{range_with_len}
use Rattle.llsc_base.specs.Memory.{class_of}
use Rattle.llsc_base.specs.Sizes.{Numbers}
use Rattle.history.specs.Cause.{writes_in_class}
use Rattle.history.specs.declared.entry.Entry.{Entry}
use Rattle.run_merge.specs.Logs.{log_of}
use Rattle.run_merge.specs.Taking.{reads, row_at, writes}
use Rattle.run_merge.specs.declared.logs.Stamped.{Stamped}

-- where the stamps of each class begin; how many Reads of each stamp are not taken; how many Writes of each class are
pub record Tables : Type 0 where
  pub base : List ℕ
  pub left : List ℕ
  pub count : List ℕ

abbrev pub class_at : Numbers → Stamped → ℕ
class_at size one = class_of size.classes (row_at size one)

-- the place of an access's class and stamp
abbrev pub spot : Numbers → List ℕ → Stamped → ℕ
spot size base one = slice_index base (class_at size one) + one.stamp

-- an access may be taken, by the tables
abbrev pub is_open : Numbers → Tables → Stamped → Bool
is_open size tables one =
    if reads one.access.deed then slice_index tables.count (class_at size one) == one.stamp
    else (if writes one.access.deed then (slice_index tables.count (class_at size one) == one.stamp) && (slice_index tables.left (spot size tables.base one) == 0) else true)

-- the tables once it is
abbrev pub after_taking : Numbers → Tables → Stamped → Tables
after_taking size tables one =
    if reads one.access.deed then record tables { left = slice_set tables.left (spot size tables.base one) (slice_index tables.left (spot size tables.base one) - 1) }
    else (if writes one.access.deed then record tables { count = slice_set tables.count (class_at size one) (slice_index tables.count (class_at size one) + 1) } else tables)

-- a Read at a place of the tables
abbrev pub is_read_at : Numbers → List ℕ → ℕ → Stamped → Bool
is_read_at size base i one = reads one.access.deed && (spot size base one == i)

-- what is left of a thread's log
abbrev pub rest_of : Numbers → List Entry → List Entry → ℕ → List Stamped
rest_of size history taken t = drop (length (log_of size t taken)) (log_of size t history)

-- how many Reads at a place are not taken
abbrev pub waiting : Numbers → List Entry → List Entry → List ℕ → ℕ → ℕ
waiting size history taken base i = sum_by (λ t. count_by (is_read_at size base i) (rest_of size history taken t)) (range_with_len 0 size.threads)

-- the tables are of a history and of what was taken
pub record AreTables (size : Numbers) (history taken : List Entry) (tables : Tables) : Type 0 where
  pub counts : (row : ℕ) → slice_index tables.count (class_of size.classes row) ≡ writes_in_class size row taken
  pub lefts : (i : ℕ) → slice_index tables.left i ≡ waiting size history taken tables.base i

-- Reads and Writes at one place are of one class and one stamp
pub record AreApart (size : Numbers) (history : List Entry) (base : List ℕ) : Type 0 where
  pub known : (t : ℕ) (front : List Stamped) (one : Stamped) (back : List Stamped) → log_of size t history ≡ front ++ one ∷ back → t < size.threads
  pub apart : (t u : ℕ) (front : List Stamped) (one : Stamped) (back before : List Stamped) (other : Stamped) (after : List Stamped)
      → log_of size t history ≡ front ++ one ∷ back → log_of size u history ≡ before ++ other ∷ after
      → reads one.access.deed ≡ true → writes other.access.deed ≡ true
      → spot size base one ≡ spot size base other → (class_at size one ≡ class_at size other) × (one.stamp ≡ other.stamp)
