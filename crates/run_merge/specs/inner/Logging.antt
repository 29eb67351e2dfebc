-- Only proofs and inner contracts need these words.
-- A thread's part in a memory by versions whose accesses it logs.
use Rattle.std.specs.Prelude.{◌≤◌, ◌+◌, ℕ, Option, Some, None, List}
use Rattle.shared_memory.specs.Origin.{IsLegalFrom}
use Rattle.llsc_base.specs.declared.outside.Ask.{Ask}
use Rattle.guest_thread.specs.inner.Sharing.{SharingState, IsServedSharing, IsUnserved, RefusesAt}
use Rattle.run_merge.specs.Logs.{IsLogOf}
use Rattle.run_merge.specs.declared.logs.Stamped.{Stamped}

-- its part in the memory, and its log
pub record LoggingState : Type 0 where
  pub sharing : SharingState
  pub entries : List Stamped
  pub count : ℕ

-- the log is of its accesses in what it has seen
abbrev pub IsLogged : LoggingState → Type 0
IsLogged state = IsLogOf state.sharing.origin.size state.sharing.thread state.sharing.seen state.entries state.count

-- an access was made as any is, and is logged
pub record IsServedLogging (old : LoggingState) (ask : Ask) (reply : ℕ) (new : LoggingState) : Type 0 where
  pub served : IsServedSharing old.sharing ask reply new.sharing
  pub log : IsLogged old → IsLogged new
  pub one : new.count ≤ old.count + 1
  pub legal : IsLegalFrom new.sharing.origin new.sharing.seen

-- none was made
pub record IsUnservedLogging (old new : LoggingState) : Type 0 where
  pub unserved : IsUnserved old.sharing new.sharing
  pub log : IsLogged old → IsLogged new
  pub none : new.count ≤ old.count
  pub legal : IsLegalFrom new.sharing.origin new.sharing.seen

abbrev pub RepliesLogging : LoggingState → Ask → Option ℕ → LoggingState → Type 0
RepliesLogging old ask (Some reply) new = IsServedLogging old ask reply new
RepliesLogging old ask None new = IsUnservedLogging old new

abbrev pub RefusesLogged : LoggingState → ℕ → Type 0
RefusesLogged state addr = RefusesAt state.sharing addr
