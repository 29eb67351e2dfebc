-- A run without a stock is a run.
use Rattle.std.proofs.Common.{◌≡◌, ℕ, false, Option, Some, None, List, [], refl, sym, subst, ◌∙◌}
use Rattle.llsc_base.specs.Images.{Program}
use Rattle.history.specs.Starts.{Started}
use Rattle.llsc_base.specs.declared.outside.Stop.{Stop}
use Rattle.guest_core.specs.Machine.{MachineOf, InstructionSet}
use Rattle.guest_calls.specs.Run.{Pair, first_point, begins, EndsOn, PointOf, Reaches}
use Rattle.guest_calls.proofs.Pieces.{ends_on_later, reaches_on}
use Rattle.guest_thread.specs.StockRun.{Stock, Comes, begins_so, piece, starts_one, IsStockRun}

module _ {I S : Type 0} (set : InstructionSet I S) where
  record IsPlain (program : Program) (budget : ℕ) (start : MachineOf I S) (pairs : List Pair) (starts : List Started) (to : PointOf I S) : Type 0 where
    none : starts ≡ []
    reached : Reaches set program budget start pairs to.machine to.steps to.output

  comes_plain : (stock : Option Stock) → stock ≡ None → (program : Program) (budget : ℕ) (start : MachineOf I S) (pairs : List Pair) (starts : List Started) (to : PointOf I S)
      → Comes set stock program budget start pairs starts to → IsPlain program budget start pairs starts to
  comes_plain stock is program budget start _ _ _ begins_so = record { none = refl; reached = begins }
  comes_plain None is program budget start _ _ _ (piece pairs more starts from to comes reached) =
      let before = comes_plain None is program budget start pairs starts from comes in
      record { none = before.none; reached = reaches_on set false program budget (first_point start) from pairs before.reached more to.machine to.steps to.output reached }
  comes_plain (Some numbers) is program budget start _ _ _ (piece pairs more starts from to comes reached) = absurd (let f : ⊥ = cc in f)
  comes_plain stock is program budget start _ _ _ (starts_one pairs starts from call numbers comes some less called begun) =
      absurd (let wrong : None ≡ Some numbers = sym is ∙ some in let f : ⊥ = cc in f)

  -- a run without a stock starts none, and is a run
  pub stockless_run : (program : Program) (budget : ℕ) (start : MachineOf I S) (pairs : List Pair) (starts : List Started) (stop : Stop) (steps : ℕ) (output : List ℕ)
      → IsStockRun set None program budget start pairs starts stop steps output → (starts ≡ []) × EndsOn set program budget start pairs stop steps output
  stockless_run program budget start pairs starts stop steps output run =
      let before = comes_plain None refl program budget start run.before starts run.from run.comes in (
        before.none,
        subst (λ (ps : List Pair). EndsOn set program budget start ps stop steps output) (sym run.are)
            (ends_on_later set false program budget (first_point start) run.from run.before before.reached run.more stop steps output run.ends),
      )

  -- and the other way round
  pub run_stockless : (program : Program) (budget : ℕ) (start : MachineOf I S) (pairs : List Pair) (stop : Stop) (steps : ℕ) (output : List ℕ)
      → EndsOn set program budget start pairs stop steps output → IsStockRun set None program budget start pairs [] stop steps output
  run_stockless program budget start pairs stop steps output ends =
      record { before = []; more = pairs; from = first_point start; comes = begins_so; ends = ends; are = refl }
