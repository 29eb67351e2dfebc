-- The verdict on accesses, of which some were made.
use Rattle.std.proofs.Common.{◌≡◌, ℕ, ◌+◌, ◌<◌, List, [], ◌∷◌, ◌++◌, length, refl, sym, ap, subst, ◌∙◌, append_assoc, append-nil, length-append}
use Rattle.llsc_base.specs.Images.{Program}
use Rattle.llsc_base.specs.Sizes.{Numbers}
use Rattle.history.specs.declared.entry.Access.{Access}
use Rattle.run_checker.specs.Verdict.{IsRight, IsWrong, AreRight, Judges, good, wrong, unfinished}
use Rattle.run_checker.specs.inner.Positions.{AreBrought, AllHaveEnded, SomeAsks}
use Rattle.run_checker.specs.declared.checker.Checker.{Checker}
use Rattle.run_checker.specs.declared.verdicts.Reason.{Reason}
use Rattle.run_checker.specs.declared.verdicts.Reason.TheVariants.{Unfinished}
use Rattle.run_checker.specs.declared.verdicts.Verdict.TheVariants.{Good, Bad}
use Rattle.run_checker.proofs.Right.{right_none, right_push}
use Rattle.guest_core.specs.Machine.{MachineOf, InstructionSet}

-- all are made where none is left
pub all_early : (accesses early rest : List Access) → accesses ≡ early ++ rest → rest ≡ [] → accesses ≡ early
all_early accesses early rest parts none = parts ∙ ap (λ l. early ++ l) none ∙ append-nil early

module _ {I S : Type 0} (set : InstructionSet I S) {C R : Type 0} (machine : C → MachineOf I S) where
  -- so many accesses were made, all of them right, and these are left
  pub record IsUnder (program : Program) (size : Numbers) (budget : ℕ) (accesses : List Access) (checker : Checker C R) (index : ℕ) (rest : List Access) : Type 0 where
    pub early : List Access
    pub parts : accesses ≡ early ++ rest
    pub number : length early ≡ index
    pub right : AreRight set program size budget early
    pub brought : AreBrought set machine program size budget early checker

  module _ (program : Program) (size : Numbers) (budget : ℕ) (accesses : List Access) where
    pub under_start : (checker : Checker C R) → AreBrought set machine program size budget [] checker → IsUnder program size budget accesses checker 0 accesses
    under_start checker brought = record { early = []; parts = refl; number = refl; right = right_none set program size budget; brought = brought }

    -- one access more
    pub under_more : (old new : Checker C R) (index : ℕ) (access : Access) (rest after : List Access)
        → rest ≡ access ∷ after → IsUnder program size budget accesses old index rest
        → ((early : List Access) → AreBrought set machine program size budget early old → IsRight set program size budget early access × AreBrought set machine program size budget (early ++ access ∷ []) new)
        → IsUnder program size budget accesses new (index + 1) after
    under_more old new index access rest after is was step =
        let made = step was.early was.brought in
        record {
          early = was.early ++ access ∷ [];
          parts = was.parts ∙ ap (λ l. was.early ++ l) is ∙ sym (append_assoc was.early (access ∷ []) after);
          number = length-append was.early (access ∷ []) ∙ ap (λ n. n + 1) was.number;
          right = right_push set program size budget was.early access was.right made.0;
          brought = made.1;
        }

    -- a wrong access
    pub under_wrong : (checker : Checker C R) (index : ℕ) (access : Access) (why : Reason) (rest after : List Access)
        → rest ≡ access ∷ after → IsUnder program size budget accesses checker index rest
        → ((early : List Access) → AreBrought set machine program size budget early checker → IsWrong set program size budget early access why)
        → Judges set program size budget accesses (Bad index why)
    under_wrong checker index access why rest after is was step =
        subst (λ n. Judges set program size budget accesses (Bad n why)) was.number
        (wrong was.early after access why (was.parts ∙ ap (λ l. was.early ++ l) is) was.right (step was.early was.brought))

    -- some thread still asks
    pub under_unfinished : (checker : Checker C R) (index threads : ℕ) (rest : List Access) → rest ≡ [] → size.threads ≡ threads
        → IsUnder program size budget accesses checker index rest
        → ((early : List Access) → AreBrought set machine program size budget early checker → SomeAsks set program size budget early threads)
        → Judges set program size budget accesses (Bad index Unfinished)
    under_unfinished checker index threads rest none all was step =
        let whole = all_early accesses was.early rest was.parts none in
        let one = step was.early was.brought in
        subst (λ l. Judges set program size budget l (Bad index Unfinished)) (sym whole)
        (subst (λ n. Judges set program size budget was.early (Bad n Unfinished)) was.number
        (unfinished one.thread one.ask was.right (subst (λ n. one.thread < n) (sym all) one.known) one.next))

    -- every thread has stopped
    pub under_good : (checker : Checker C R) (index threads : ℕ) (rest : List Access) → rest ≡ [] → size.threads ≡ threads
        → IsUnder program size budget accesses checker index rest
        → ((early : List Access) → AreBrought set machine program size budget early checker → AllHaveEnded set program size budget early threads)
        → Judges set program size budget accesses Good
    under_good checker index threads rest none all was step =
        let whole = all_early accesses was.early rest was.parts none in
        let stopped = step was.early was.brought in
        subst (λ l. Judges set program size budget l Good) (sym whole) (good was.right (λ t known. stopped t (subst (λ n. t < n) all known)))
