-- What stands in a run was asked there.
use Rattle.std.proofs.Common.{◌≡◌, ℕ, suc, ◌+◌, ◌<◌, Bool, List, [], ◌∷◌, ◌++◌, length, add-zero, refl, sym, ap, subst, ◌∙◌, arith}
use Rattle.llsc_base.specs.Images.{Program}
use Rattle.llsc_base.specs.declared.outside.Ask.{Ask}
use Rattle.llsc_base.specs.declared.outside.Stop.{Stop}
use Rattle.guest_core.specs.Machine.{InstructionSet, MachineOf}
use Rattle.guest_calls.specs.Run.{Pair, PointOf, byte_load, byte_loads, ReachesBy, begins, accesses, steps_on, returns, prints, EndsFrom, halts, leaves, spends, AsksFrom, asks_access, asks_byte}
use Rattle.guest_calls.proofs.Splits.{at_it, before_it, behind_it, meets, none_behind, same_head, same_tail}

-- a split of two lists one behind the other is in the first, or in the second
data Within {A : Type 0} (one other front : List A) (y : A) (back : List A) : Type 0 where
  in_first : (middle : List A) → one ≡ front ++ y ∷ middle → Within one other front y back
  in_second : (before : List A) → front ≡ one ++ before → other ≡ before ++ y ∷ back → Within one other front y back

within_more : {A : Type 0} (x f : A) (one other front : List A) (y : A) (back : List A) → x ≡ f → Within one other front y back → Within (x ∷ one) other (f ∷ front) y back
within_more x f one other front y back same (in_first middle is) = in_first middle (cc)
within_more x f one other front y back same (in_second before fronts others) = in_second before (cc) others

within : {A : Type 0} (one other front : List A) (y : A) (back : List A) → one ++ other ≡ front ++ y ∷ back → Within one other front y back
within [] other front y back is = in_second front refl is
within (x ∷ one) other [] y back is = in_first one (ap (λ z. z ∷ one) (same_head x y (one ++ other) back is))
within (x ∷ one) other (f ∷ front) y back is =
    within_more x f one other front y back (same_head x f (one ++ other) (front ++ y ∷ back) is) (within one other front y back (same_tail x f (one ++ other) (front ++ y ∷ back) is))

-- the loads of a write, split at one of them
record LoadAt (from count : ℕ) (front : List Pair) (ask : Ask) : Type 0 where
  bytes : List ℕ
  fronts : front ≡ byte_loads from bytes
  asked : ask ≡ byte_load (from + length bytes)
  short : length bytes < count

load_more : (from byte count : ℕ) (front : List Pair) (ask : Ask) → LoadAt (from + 1) count front ask → LoadAt from (suc count) ((byte_load from, byte) ∷ front) ask
load_more from byte count front ask at = record {
  bytes = byte ∷ at.bytes;
  fronts = ap (λ l. (byte_load from, byte) ∷ l) at.fronts;
  asked = at.asked ∙ ap byte_load (omega arith);
  short = omega (arith, at.short);
}

load_at : (from : ℕ) (bytes : List ℕ) (front : List Pair) (ask : Ask) (reply : ℕ) (back : List Pair) → byte_loads from bytes ≡ front ++ (ask, reply) ∷ back
    → LoadAt from (length bytes) front ask
load_at from [] [] ask reply back is = cc
load_at from [] (f ∷ front) ask reply back is = cc
load_at from (byte ∷ bytes) [] ask reply back is =
    let first : (byte_load from, byte) ≡ (ask, reply) = same_head (byte_load from, byte) (ask, reply) (byte_loads (from + 1) bytes) back is in
    let none : from ≡ from + 0 = sym (add-zero from) in
    record {
      bytes = [];
      fronts = refl;
      asked = sym (ap (λ (p : Pair). p.0) first) ∙ ap byte_load none;
      short = omega arith;
    }
load_at from (byte ∷ bytes) (f ∷ front) ask reply back is =
    let first : (byte_load from, byte) ≡ f = same_head (byte_load from, byte) f (byte_loads (from + 1) bytes) (front ++ (ask, reply) ∷ back) is in
    let rest = same_tail (byte_load from, byte) f (byte_loads (from + 1) bytes) (front ++ (ask, reply) ∷ back) is in
    subst (λ p. LoadAt from (suc (length bytes)) (p ∷ front) ask) first
    (load_more from byte (length bytes) front ask (load_at (from + 1) bytes front ask reply back rest))

module _ {I S : Type 0} (set : InstructionSet I S) (stocked : Bool) (program : Program) (budget : ℕ) (from : PointOf I S) where
  reached_asked : (pairs : List Pair) (machine : MachineOf I S) (steps : ℕ) (output : List ℕ) → ReachesBy set stocked program budget from pairs machine steps output
      → (front : List Pair) (ask : Ask) (reply : ℕ) (back : List Pair) → pairs ≡ front ++ (ask, reply) ∷ back → AsksFrom set stocked program budget from front ask
  reached_asked _ _ _ _ begins [] ask reply back is = cc
  reached_asked _ _ _ _ begins (f ∷ front) ask reply back is = cc
  reached_asked _ _ _ _ (accesses pairs machine steps output asked replied reached less effect) front ask reply back is =
      elim (meets pairs (asked, replied) [] front (ask, reply) back is) [
        | at_it fronts elements ↦
            subst (λ l. AsksFrom set stocked program budget from l ask) fronts
            (subst (AsksFrom set stocked program budget from pairs) (ap (λ (p : Pair). p.0) elements) (asks_access pairs machine steps output asked reached less effect))
        | before_it middle others backs ↦ absurd (none_behind middle (ask, reply) back backs)
        | behind_it middle fronts rests ↦ reached_asked pairs machine steps output reached front ask reply middle fronts
      ]
  reached_asked _ _ _ _ (steps_on pairs machine steps output state reached less effect) front ask reply back is = reached_asked pairs machine steps output reached front ask reply back is
  reached_asked _ _ _ _ (returns pairs machine steps output call answer reached less called effect unstarted) front ask reply back is = reached_asked pairs machine steps output reached front ask reply back is
  reached_asked _ _ _ _ (prints pairs machine steps output call addr bytes reached less called effect) front ask reply back is =
      elim (within pairs (byte_loads addr bytes) front (ask, reply) back is) [
        | in_first middle fronts ↦ reached_asked pairs machine steps output reached front ask reply middle fronts
        | in_second before fronts others ↦
            let at = load_at addr bytes before ask reply back others in
            subst (λ l. AsksFrom set stocked program budget from l ask) (sym (fronts ∙ ap (λ l. pairs ++ l) at.fronts))
            (subst (AsksFrom set stocked program budget from (pairs ++ byte_loads addr at.bytes)) (sym at.asked)
            (asks_byte pairs machine steps output call addr (length bytes) at.bytes reached less called effect at.short))
      ]

  -- what stands in a run that has ended was asked there
  pub ended_asked : (front : List Pair) (ask : Ask) (reply : ℕ) (back : List Pair) (stop : Stop) (steps : ℕ) (output : List ℕ)
      → (pairs : List Pair) → pairs ≡ front ++ (ask, reply) ∷ back → EndsFrom set stocked program budget from pairs stop steps output → AsksFrom set stocked program budget from front ask
  ended_asked front ask reply back _ _ _ _ is (halts pairs machine steps output stop reached less effect) = reached_asked pairs machine steps output reached front ask reply back is
  ended_asked front ask reply back _ _ _ _ is (leaves pairs machine steps output call code reached less called effect) = reached_asked pairs machine steps output reached front ask reply back is
  ended_asked front ask reply back _ _ _ _ is (spends pairs machine output reached) = reached_asked pairs machine budget output reached front ask reply back is
