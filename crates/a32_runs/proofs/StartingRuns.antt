-- Runs of the program that starts a thread, from a thread's start.
use Rattle.std.proofs.Common.{◌≡◌, ℕ, Some, true, [], refl, lit<}
use Rattle.llsc_base.specs.Memory.{number_of}
use Rattle.llsc_base.specs.Effects.{calls}
use Rattle.llsc_base.specs.declared.outside.CallAsk.{CallAsk}
use Rattle.llsc_base.specs.declared.outside.Stop.TheVariants.{Budget}
use Rattle.a32_instr.specs.Condition.{passes}
use Rattle.a32_instr.specs.Fields.{alu_fits, alu_op, alu_unpredictable}
use Rattle.a32_instr.specs.State.{State}
use Rattle.a32_instr.specs.Table.{meaning}
use Rattle.a32_instr.specs.declared.instructions.Instr.{Instr}
use Rattle.a32_step.specs.Machine.{Machine, a32, after_next, next_effect, start_of}
use Rattle.guest_calls.specs.Run.{PointOf, ReachesBy, begins, by_itself, first_point, spends, steps_on}
use Rattle.guest_thread.specs.StockRun.{Comes, IsStockRun, Stock, begins_so, piece, start_point, starts_after, starts_one}
use Rattle.a32_runs.specs.Leaving.{starting}

-- a thread with these numbers in r0, r1 and r13, behind each of the two moves
abbrev low : (a b sp : ℕ) → Machine
low a b sp = after_next starting (start_of 0 a b sp)

abbrev high : (a b sp : ℕ) → Machine
high a b sp = after_next starting (low a b sp)

-- its call
abbrev start_call : (a b : ℕ) → CallAsk
start_call a b = record { imm = 0; number = 983041; a = a; b = b; c = 0 }

call_made : (a b sp : ℕ) → next_effect starting (high a b sp) ≡ calls (start_call a b)
unfolding meaning passes number_of alu_op alu_fits alu_unpredictable
call_made a b sp = refl

call_reached : (a b sp : ℕ) → ReachesBy a32 true starting 3 (first_point (start_of 0 a b sp)) [] (high a b sp) 2 []
unfolding meaning passes number_of alu_op alu_fits alu_unpredictable
call_reached a b sp =
    steps_on [] (low a b sp) 1 [] (high a b sp).state
    (steps_on [] (start_of 0 a b sp) 0 [] (low a b sp).state begins (lit< tt) refl) (lit< tt) refl

-- before the call and behind it
abbrev calling : (a b sp : ℕ) → PointOf Instr State
calling a b sp = record { machine = high a b sp; steps = 2; output = [] }

abbrev called : Stock → (a b sp : ℕ) → PointOf Instr State
called stock a b sp = start_point a32 starting stock [] (start_call a b) (calling a b sp)

comes : (stock : Stock) (a b sp : ℕ)
    → Comes a32 (Some stock) starting 3 (start_of 0 a b sp) [] (starts_after stock 0 [] (start_call a b)) (called stock a b sp)
comes stock a b sp =
    starts_one [] [] (calling a b sp) (start_call a b) stock
    (piece [] [] [] (first_point (start_of 0 a b sp)) (calling a b sp) begins_so (call_reached a b sp)) refl (lit< tt) (call_made a b sp) refl

-- its steps are spent behind it
pub start_spent : (stock : Stock) (a b sp : ℕ)
    → IsStockRun a32 (Some stock) starting 3 (start_of 0 a b sp) [] (starts_after stock 0 [] (start_call a b)) Budget 3 []
start_spent stock a b sp = record {
  before = [];
  more = [];
  from = called stock a b sp;
  comes = comes stock a b sp;
  ends = by_itself [] Budget 3 [] (spends [] (called stock a b sp).machine [] begins);
  are = refl;
}
