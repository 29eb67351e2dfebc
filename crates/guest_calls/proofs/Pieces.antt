-- Pieces of a run one behind another; and what a thread with a stock does without a start, it does without a stock.
use Rattle.std.proofs.Common.{ℕ, ◌+◌, Bool, false, List, ◌∷◌, [], ◌++◌, length, refl, sym, subst, append-nil, append_assoc}
use Rattle.llsc_base.specs.Images.{Program}
use Rattle.llsc_base.specs.declared.outside.Stop.{Stop}
use Rattle.guest_core.specs.Machine.{after_of, MachineOf, given, InstructionSet}
use Rattle.guest_calls.specs.Run.{Pair, byte_loads, begins, accesses, steps_on, returns, prints, halts, leaves, spends, by_itself, by_limit, ReachesBy, PointOf, EndsFrom, EndsOnFrom}
use Rattle.guest_core.specs.Machine.{returned_of}

module _ {I S : Type 0} (set : InstructionSet I S) where
  -- ---- one piece behind another

  module _ (stocked : Bool) (program : Program) (budget : ℕ) (from to : PointOf I S) (before : List Pair)
      (way : ReachesBy set stocked program budget from before to.machine to.steps to.output) where
    pub reaches_on : (pairs : List Pair) (machine : MachineOf I S) (steps : ℕ) (output : List ℕ) → ReachesBy set stocked program budget to pairs machine steps output
        → ReachesBy set stocked program budget from (before ++ pairs) machine steps output
    reaches_on _ _ _ _ begins =
        subst (λ (ps : List Pair). ReachesBy set stocked program budget from ps to.machine to.steps to.output) (sym (append-nil before)) way
    reaches_on _ _ _ _ (accesses pairs machine steps output ask reply reached less is) =
        subst (λ (ps : List Pair). ReachesBy set stocked program budget from ps (given (after_of set program machine) reply) steps output) (append_assoc before pairs ((ask, reply) ∷ []))
        (accesses (before ++ pairs) machine steps output ask reply (reaches_on pairs machine steps output reached) less is)
    reaches_on _ _ _ _ (steps_on pairs machine steps output state reached less is) =
        steps_on (before ++ pairs) machine steps output state (reaches_on pairs machine steps output reached) less is
    reaches_on _ _ _ _ (returns pairs machine steps output call answer reached less is known plain) =
        returns (before ++ pairs) machine steps output call answer (reaches_on pairs machine steps output reached) less is known plain
    reaches_on _ _ _ _ (prints pairs machine steps output call addr bytes reached less is known) =
        subst (λ (ps : List Pair). ReachesBy set stocked program budget from ps (returned_of set (after_of set program machine) (length bytes)) (steps + 1) (output ++ bytes)) (append_assoc before pairs (byte_loads addr bytes))
        (prints (before ++ pairs) machine steps output call addr bytes (reaches_on pairs machine steps output reached) less is known)

    pub ends_later : (pairs : List Pair) (stop : Stop) (steps : ℕ) (output : List ℕ) → EndsFrom set stocked program budget to pairs stop steps output
        → EndsFrom set stocked program budget from (before ++ pairs) stop steps output
    ends_later _ _ _ _ (halts pairs machine steps output stop reached less is) =
        halts (before ++ pairs) machine steps output stop (reaches_on pairs machine steps output reached) less is
    ends_later _ _ _ _ (leaves pairs machine steps output call code reached less is known) =
        leaves (before ++ pairs) machine steps output call code (reaches_on pairs machine steps output reached) less is known
    ends_later _ _ _ _ (spends pairs machine output reached) =
        spends (before ++ pairs) machine output (reaches_on pairs machine budget output reached)

    pub ends_on_later : (pairs : List Pair) (stop : Stop) (steps : ℕ) (output : List ℕ) → EndsOnFrom set stocked program budget to pairs stop steps output
        → EndsOnFrom set stocked program budget from (before ++ pairs) stop steps output
    ends_on_later _ _ _ _ (by_itself pairs stop steps output ends) = by_itself (before ++ pairs) stop steps output (ends_later pairs stop steps output ends)
    ends_on_later _ _ _ _ (by_limit pairs machine steps output place value reached less is) =
        by_limit (before ++ pairs) machine steps output place value (reaches_on pairs machine steps output reached) less is

  -- ---- what a thread with a stock does without a start it does without a stock

  pub reaches_plain : (stocked : Bool) (program : Program) (budget : ℕ) (from : PointOf I S) (pairs : List Pair) (machine : MachineOf I S) (steps : ℕ) (output : List ℕ)
      → ReachesBy set stocked program budget from pairs machine steps output → ReachesBy set false program budget from pairs machine steps output
  reaches_plain stocked program budget from _ _ _ _ begins = begins
  reaches_plain stocked program budget from _ _ _ _ (accesses pairs machine steps output ask reply reached less is) =
      accesses pairs machine steps output ask reply (reaches_plain stocked program budget from pairs machine steps output reached) less is
  reaches_plain stocked program budget from _ _ _ _ (steps_on pairs machine steps output state reached less is) =
      steps_on pairs machine steps output state (reaches_plain stocked program budget from pairs machine steps output reached) less is
  reaches_plain stocked program budget from _ _ _ _ (returns pairs machine steps output call answer reached less is known plain) =
      returns pairs machine steps output call answer (reaches_plain stocked program budget from pairs machine steps output reached) less is known refl
  reaches_plain stocked program budget from _ _ _ _ (prints pairs machine steps output call addr bytes reached less is known) =
      prints pairs machine steps output call addr bytes (reaches_plain stocked program budget from pairs machine steps output reached) less is known
