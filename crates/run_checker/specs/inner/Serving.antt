-- Only proofs and inner contracts need these words.
-- What memory makes of an access as it is recorded.
use Rattle.std.specs.Prelude.{◌≡◌}
use Rattle.history.specs.Monitor.{Monitor, accessed}
use Rattle.history.specs.declared.entry.Access.{Access}
use Rattle.history.specs.Accesses.{entry_of}
use Rattle.run_checker.specs.Verdict.{HasWrongValue, LacksMark}
use Rattle.run_checker.specs.declared.verdicts.Reason.{Reason}
use Rattle.run_checker.specs.declared.verdicts.Reason.TheVariants.{AfterStop, NotAsked, WrongValue, NoReservation, Unfinished}

-- memory stands against an access for this reason
abbrev pub StandsAgainst : Monitor → Access → Reason → Type 0
StandsAgainst monitor access WrongValue = HasWrongValue monitor access
StandsAgainst monitor access NoReservation = LacksMark monitor access
StandsAgainst monitor access AfterStop = ⊥
StandsAgainst monitor access NotAsked = ⊥
StandsAgainst monitor access Unfinished = ⊥

-- memory has nothing against an access, and has moved on by it
pub record IsMadeAsRecorded (monitor : Monitor) (access : Access) (after : Monitor) : Type 0 where
  pub value : HasWrongValue monitor access → ⊥
  pub reserved : LacksMark monitor access → ⊥
  pub moved : after ≡ accessed monitor (entry_of access)
