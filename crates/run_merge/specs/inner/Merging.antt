-- Only proofs and inner contracts need these words.
-- How far logs are merged.
use Rattle.std.specs.Prelude.{◌≡◌, ℕ, ◌<◌, Some, List, ◌∷◌, ◌++◌, length, slice_get, slice_index, map}
use Rattle.llsc_base.specs.Sizes.{Numbers}
use Rattle.history.specs.Accesses.{history_of}
use Rattle.history.specs.declared.entry.Entry.{Entry}
use Rattle.run_merge.specs.Logs.{access_of, log_of}
use Rattle.run_merge.specs.inner.Tables.{AreApart, AreTables, Tables, spot}
use Rattle.run_merge.specs.Taking.{IsTakenSoFar}
use Rattle.run_merge.specs.declared.merging.Merging.{Merging}
use Rattle.run_merge.specs.declared.logs.Log.{Log}
use Rattle.run_merge.specs.declared.logs.Stamped.{Stamped}

abbrev pub tables_of : Merging → Tables
tables_of merging = record { base = merging.base.items; left = merging.left.items; count = merging.count.items }

-- the logs of a machine's threads, whole, by what was seen
pub record AreLogs (size : Numbers) (seen : List Entry) (logs : List Log) : Type 0 where
  pub many : length logs ≡ size.threads
  pub each : (t : ℕ) (log : Log) → slice_get logs t ≡ Some log → log.entries.items ≡ log_of size t seen

-- the tables have room for each access
pub record HasRoomForAll (size : Numbers) (seen : List Entry) (merging : Merging) : Type 0 where
  pub some : 0 < size.classes
  pub base : length merging.base.items ≡ size.classes
  pub count : length merging.count.items ≡ size.classes
  pub spots : (t : ℕ) (front : List Stamped) (one : Stamped) (back : List Stamped) → log_of size t seen ≡ front ++ one ∷ back → spot size merging.base.items one < length merging.left.items

-- so far
pub record IsMerging (size : Numbers) (seen : List Entry) (merging : Merging) : Type 0 where
  pub form : merging.out.items ≡ map access_of (history_of merging.out.items)
  pub way : IsTakenSoFar size seen (history_of merging.out.items)
  pub tables : AreTables size seen (history_of merging.out.items) (tables_of merging)
  pub apart : AreApart size seen merging.base.items
  pub room : HasRoomForAll size seen merging
  pub threads : length merging.at.items ≡ size.threads
  pub at : (t : ℕ) → t < size.threads → slice_index merging.at.items t ≡ length (log_of size t (history_of merging.out.items))
  pub reservations : length merging.reservations.loads.items ≡ size.threads
