-- What a legal history says of its store-exclusives.
use Rattle.std.proofs.Common.{ℕ, List, ◌∷◌, true, subst, ap, ◌∙◌}
use Rattle.llsc_base.specs.Sizes.{Numbers}
use Rattle.history.specs.ArmLegal.{IsArmLegal}
use Rattle.history.specs.Legal.{IsLegal}
use Rattle.history.specs.Monitor.{at_rest_by}
use Rattle.history.specs.Parts.{accesses_of}
use Rattle.history.specs.declared.entry.Entry.{Entry}
use Rattle.history.specs.declared.entry.Entry.TheVariants.{Write, Fail}
use Rattle.history.proofs.Appends.{accesses_of-append}
use Rattle.history.proofs.Kept.{store_keeps}
use Rattle.llsc_call.specs.Exclusives.{AreStoresExact}

pub stores_exact : (size : Numbers) (bytes : List ℕ) (history : List Entry) → IsLegal size bytes history → AreStoresExact size bytes history
stores_exact size bytes history legal = record {
  undisturbed = λ past rest thread place value are.
      store_keeps size.granule bytes size.threads thread place value (accesses_of past) (accesses_of rest)
      (subst (IsArmLegal (at_rest_by size.granule bytes size.threads))
      (ap accesses_of are ∙ accesses_of-append past (Write thread place value true ∷ rest)) legal.accesses);
  caused = λ past rest thread place value cause are. legal.causes past (Fail thread place value cause) rest are;
}
