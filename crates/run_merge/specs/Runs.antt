-- A run that its threads recorded.
use Rattle.std.specs.Prelude.{◌≡◌, ℕ, Some, List, length, slice_get}
use Rattle.llsc_base.specs.Sizes.{Numbers}
use Rattle.history.specs.declared.entry.Entry.{Entry}
use Rattle.run_merge.specs.Logs.{IsLogOf}
use Rattle.run_merge.specs.Taking.{AreKnown}
use Rattle.run_merge.specs.declared.logs.Log.{Log}

-- these are the logs of all threads, by what was seen, in which no thread stands that the machine doesn't have
pub record KeepLogs (size : Numbers) (seen : List Entry) (logs : List Log) : Type 0 where
  pub many : length logs ≡ size.threads
  pub each : (t : ℕ) (log : Log) → slice_get logs t ≡ Some log → IsLogOf size t seen log.entries.items log.count
  pub known : AreKnown size.threads seen
