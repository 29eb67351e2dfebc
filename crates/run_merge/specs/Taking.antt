-- Logs that are merged access by access: how far that has come, and which access may be taken next.
use Rattle.std.specs.Prelude.{◌≡◌, ℕ, ◌<◌, Bool, true, false, List, ◌∷◌, ◌++◌, length}
use Rattle.llsc_base.specs.Memory.{row_of}
use Rattle.llsc_base.specs.Sizes.{Numbers}
use Rattle.history.specs.Cause.{writes_in_class}
use Rattle.history.specs.Entry.{is_access, is_in_class, thread_of}
use Rattle.history.specs.declared.entry.Deed.{Deed}
use Rattle.history.specs.declared.entry.Deed.TheVariants as deed
use Rattle.history.specs.declared.entry.Entry.{Entry}
use Rattle.run_merge.specs.Logs.{log_of}
use Rattle.run_merge.specs.declared.logs.Stamped.{Stamped}

-- a load, or a load-exclusive
abbrev pub reads : Deed → Bool
reads deed.Load = true
reads deed.LoadEx = true
reads _ = false

-- a store, or a store-exclusive that stored
abbrev pub writes : Deed → Bool
writes deed.Store = true
writes deed.StoreEx = true
writes _ = false

-- the row of an access
abbrev pub row_at : Numbers → Stamped → ℕ
row_at size one = row_of size.granule one.access.place

-- a load of the log of a thread stands behind these others of that log
abbrev pub IsReadAt : Numbers → List Entry → ℕ → List Stamped → Stamped → Type 0
IsReadAt size history thread before one =
    (reads one.access.deed ≡ true) × ((after : List Stamped) × (log_of size thread history ≡ before ++ one ∷ after))

-- of each thread's log a front is taken, and of the loads all those whose class has moved on
pub record IsTakenSoFar (size : Numbers) (history taken : List Entry) : Type 0 where
  pub fronts : (thread : ℕ) → (left : List Stamped) × (log_of size thread history ≡ log_of size thread taken ++ left)
  pub loads : (thread : ℕ) (before : List Stamped) (one : Stamped) → IsReadAt size history thread before one
      → one.stamp < writes_in_class size (row_at size one) taken → length before < length (log_of size thread taken)

-- the next access of a thread may be taken
pub record MayBeTaken (size : Numbers) (history taken : List Entry) (thread : ℕ) (next : Stamped) : Type 0 where
  pub after : List Stamped
  pub is_next : log_of size thread history ≡ log_of size thread taken ++ next ∷ after
  pub read : reads next.access.deed ≡ true → writes_in_class size (row_at size next) taken ≡ next.stamp
  pub written : writes next.access.deed ≡ true → writes_in_class size (row_at size next) taken ≡ next.stamp
  pub loads : writes next.access.deed ≡ true → (other : ℕ) (before : List Stamped) (one : Stamped) → IsReadAt size history other before one
      → is_in_class size (row_at size next) one.access.place ≡ true → one.stamp ≡ next.stamp → length before < length (log_of size other taken)

-- each access is of a thread below a number
abbrev pub AreKnown : ℕ → List Entry → Type 0
AreKnown count es = (front : List Entry) (e : Entry) (back : List Entry) → es ≡ front ++ e ∷ back → is_access e ≡ true → thread_of e < count
