-- In a history that Arm's memory and monitors allow no access is of a thread that the machine doesn't have.
use Rattle.std.proofs.Common.{◌≡◌, ℕ, ◌<◌, List, ◌∷◌, ◌++◌, None, length, ◌∙◌, subst}
use Rattle.std.proofs.lemmas.List.{length-replicate}
use Rattle.llsc_base.specs.Sizes.{Numbers}
use Rattle.history.specs.ArmLegal.{IsArmLegal, MayAccess}
use Rattle.history.specs.Entry.{thread_of}
use Rattle.history.specs.Legal.{IsLegal}
use Rattle.history.specs.Monitor.{Monitor, at_rest_by, monitor_after}
use Rattle.history.specs.declared.entry.Entry.{Entry}
use Rattle.history.proofs.Appends.{IsArmLegal-back, IsArmLegal-from_accesses_of, IsArmLegal-front}
use Rattle.history.proofs.Marking.{access-known}
use Rattle.history.proofs.Marks.{IsAsLarge-monitor_after}
use Rattle.run_merge.specs.Taking.{AreKnown}

pub legal_known : (size : Numbers) (bytes : List ℕ) (history : List Entry) → IsLegal size bytes history → AreKnown size.threads history
legal_known size bytes history legal front e back is access =
    let first : Monitor = at_rest_by size.granule bytes size.threads in
    let whole : IsArmLegal first (front ++ e ∷ back) = subst (IsArmLegal first) is (IsArmLegal-from_accesses_of first history legal.accesses) in
    let here : MayAccess (monitor_after first front) e = (IsArmLegal-back first front (e ∷ back) whole).0 in
    let many : length (monitor_after first front).marks ≡ size.threads =
    (IsAsLarge-monitor_after first front (IsArmLegal-front first front (e ∷ back) whole)).threads ∙ length-replicate size.threads None in
    subst (λ n. thread_of e < n) many (access-known (monitor_after first front) e access here)
