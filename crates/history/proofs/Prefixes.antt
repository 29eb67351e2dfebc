-- Each beginning of a legal history is legal.
use Rattle.std.proofs.Common.{ℕ, List, ◌++◌, subst, append_assoc}
use Rattle.llsc_base.specs.Sizes.{Numbers}
use Rattle.history.specs.Parts.{accesses_of, entries_of}
use Rattle.history.specs.Monitor.{at_rest_by}
use Rattle.history.specs.ArmLegal.{IsArmLegal}
use Rattle.history.specs.Operation.{AreFinished, AreOperations}
use Rattle.history.specs.Cause.{HasCause}
use Rattle.history.specs.Legal.{IsLegal}
use Rattle.history.specs.declared.entry.Entry.{Entry}
use Rattle.history.proofs.Cuts.{each-front}
use Rattle.history.proofs.Appends.{IsArmLegal-front, accesses_of-append, entries_of-append}

-- the first of some operations' entries are operations, of which the last may be unfinished
pub AreOperations-front : (thread : ℕ) (front back : List Entry) → AreOperations thread (front ++ back) → AreOperations thread front
AreOperations-front thread front back h =
    record { missing = back ++ h.missing; finished = subst (AreFinished thread) (append_assoc front back h.missing) h.finished }

pub IsLegal-front : (size : Numbers) (bytes : List ℕ) (front back : List Entry) → IsLegal size bytes (front ++ back) → IsLegal size bytes front
IsLegal-front size bytes front back h = record {
  accesses =
      IsArmLegal-front (at_rest_by size.granule bytes size.threads) (accesses_of front) (accesses_of back)
      (subst (IsArmLegal (at_rest_by size.granule bytes size.threads)) (accesses_of-append front back) h.accesses);
  operations = λ thread.
      AreOperations-front thread (entries_of thread front) (entries_of thread back)
      (subst (AreOperations thread) (entries_of-append thread front back) (h.operations thread));
  causes = each-front (HasCause size) front back h.causes;
}
