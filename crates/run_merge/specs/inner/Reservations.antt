-- Only proofs and inner contracts need these words.
-- The reservations of threads, as their logs tell them: a load-exclusive makes one, and its thread's next store-exclusive or CLREX ends it.
use Rattle.std.specs.Prelude.{ℕ, ◌==◌, ◌&&◌, if◌then◌else◌, nat_le, Bool, true, false, List, Option, Some, None, get_or, slice_index}
use Rattle.llsc_base.specs.Sizes.{Numbers}
use Rattle.history.specs.declared.entry.Deed.{Deed}
use Rattle.history.specs.declared.entry.Deed.TheVariants as deed
use Rattle.run_merge.specs.inner.Tables.{class_at}
use Rattle.run_merge.specs.Taking.{row_at}
use Rattle.run_merge.specs.declared.logs.Stamped.{Stamped}

-- a store-exclusive that failed
abbrev pub fails : Deed → Bool
fails deed.StoreFail = true
fails _ = false

-- what a thread holds, of what all do
abbrev pub held_by : List (Option Stamped) → ℕ → Option Stamped
held_by loads t = get_or loads t None

-- and once it has made an access of this kind
abbrev pub held_behind : Deed → Stamped → Option Stamped → Option Stamped
held_behind deed.LoadEx one held = Some one
held_behind deed.Load one held = held
held_behind deed.Store one held = held
held_behind _ one held = None

-- that, where it is on the row of an access
abbrev pub on_row_of : Numbers → Stamped → Option Stamped → Option Stamped
on_row_of size one None = None
on_row_of size one (Some load) = if row_at size load == row_at size one then Some load else None

-- its class has had no write since, where each class has had so many
abbrev pub is_kept : Numbers → List ℕ → Option Stamped → Bool
is_kept size writes None = false
is_kept size writes (Some load) = nat_le (slice_index writes (class_at size load)) load.stamp

-- an access is a failed store-exclusive, and its thread's reservation is kept
abbrev pub is_early : Numbers → List ℕ → Stamped → Option Stamped → Bool
is_early size writes one held = fails one.access.deed && is_kept size writes (on_row_of size one held)
