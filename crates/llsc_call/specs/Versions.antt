-- What memory that is kept by versions has beside a legal history. This project's own.
use Rattle.std.specs.Prelude.{List}
use Rattle.llsc_base.specs.Sizes.{Numbers}
use Rattle.history.specs.Cause.{KeepsLimit}
use Rattle.history.specs.Steady.{AreSteady}
use Rattle.history.specs.declared.entry.Entry.{Entry}

-- in a history no class of rows has had more writes than it takes, and a store-exclusive has lost only where a write of another
-- thread in the class had begun since its reservation
pub record KeepsVersions (size : Numbers) (history : List Entry) : Type 0 where
  pub few : KeepsLimit size history
  pub steady : AreSteady size history
