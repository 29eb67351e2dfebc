-- A list of accesses and replies decides the end of a run that has them.
use Rattle.std.proofs.Common.{◌≡◌, ℕ, Option, Some, None, List, [], ◌∷◌, ◌++◌, refl, ap, ◌∙◌}
use Rattle.llsc_base.specs.Images.{Program}
use Rattle.llsc_base.specs.declared.outside.Ask.{Ask}
use Rattle.llsc_base.specs.declared.outside.Stop.{Stop}
use Rattle.guest_core.specs.Machine.{MachineOf, InstructionSet}
use Rattle.guest_calls.specs.Run.{Pair, Ends}
use Rattle.guest_calls.proofs.Decided.{AreDecided, one_end}

-- the reply that a list has after so long a beginning
abbrev pub reply_after : List Pair → List Pair → Option ℕ
reply_after [] front = None
reply_after (pair ∷ pairs) [] = Some pair.1
reply_after (pair ∷ pairs) (first ∷ front) = reply_after pairs front

-- it is found at its place
reply_found : (front back : List Pair) (ask : Ask) (reply : ℕ) → reply_after (front ++ (ask, reply) ∷ back) front ≡ Some reply
reply_found [] back ask reply = refl
reply_found (pair ∷ front) back ask reply = reply_found front back ask reply

-- a list decides its own replies
pub list_decides : (pairs : List Pair) → AreDecided (λ front ask. reply_after pairs front) pairs
list_decides pairs front back ask reply parts = ap (λ l. reply_after l front) parts ∙ reply_found front back ask reply

-- a list replies nothing after the whole of it
pub list_ends : (pairs : List Pair) → reply_after pairs pairs ≡ None
list_ends [] = refl
list_ends (pair ∷ pairs) = list_ends pairs

module _ {I S : Type 0} (set : InstructionSet I S) where
  -- two ends of one list are the same
  pub one_end_of_list : (program : Program) (budget : ℕ) (start : MachineOf I S) (pairs : List Pair) (stop other : Stop) (steps count : ℕ) (output text : List ℕ)
      → Ends set program budget start pairs stop steps output → Ends set program budget start pairs other count text → (stop ≡ other) × (steps ≡ count) × (output ≡ text)
  one_end_of_list program budget start pairs stop other steps count output text ends ends_too =
      let same =
      one_end set (λ front ask. reply_after pairs front) program budget start pairs pairs stop other steps count output text
      ends (list_decides pairs) ends_too (list_decides pairs) in
      (same.1, same.2, same.3)
