-- Runs of the worked programs from a thread's start.
use Rattle.std.proofs.Common.{◌≡◌, ℕ, ◌%◌, Bool, false, [], ◌∷◌, refl, lit<}
use Rattle.llsc_base.specs.Memory.{number_of}
use Rattle.llsc_base.specs.Sizes.{Numbers}
use Rattle.a32_instr.specs.Condition.{passes}
use Rattle.a32_instr.specs.Fields.{alu_fits, alu_op, alu_unpredictable, index_fits, index_of, word_unpredictable}
use Rattle.a32_instr.specs.Shift.{turned}
use Rattle.llsc_base.specs.Effects.{asks, calls}
use Rattle.a32_instr.specs.Table.{meaning}
use Rattle.llsc_base.specs.declared.outside.Ask.TheVariants.{Load, Store}
use Rattle.llsc_base.specs.declared.outside.CallAsk.{CallAsk}
use Rattle.llsc_base.specs.declared.outside.Stop.TheVariants.{Exit, Budget, TagLimit}
use Rattle.a32_step.specs.Machine.{Machine, after_next, next_effect, a32}
use Rattle.guest_core.specs.Machine.{given}
use Rattle.guest_calls.specs.Run.{begins, accesses, steps_on, leaves, spends, by_limit, asks_access, first_point, Asks, EndsOn, Ends, EndsFrom, ReachesBy}
use Rattle.guest_thread.specs.Start.{thread_start}
use Rattle.guest_thread.specs.Worked.{word}
use Rattle.a32_runs.specs.Leaving.{leaving, loading, storing}

-- the machine behind the first instruction of the program that leaves
abbrev moved : Numbers → (first t : ℕ) → Machine
moved size first t = after_next leaving (thread_start a32 leaving size first t)

-- its call
abbrev exit_call : (first t : ℕ) → CallAsk
exit_call first t = record { imm = 0; number = 1; a = t; b = first; c = 0 }

call_made : (size : Numbers) (first t : ℕ) → next_effect leaving (moved size first t) ≡ calls (exit_call first t)
unfolding meaning passes number_of alu_op alu_fits alu_unpredictable turned
call_made size first t = refl

call_reached : (stocked : Bool) (size : Numbers) (first t : ℕ)
    → ReachesBy a32 stocked leaving 2 (first_point (thread_start a32 leaving size first t)) [] (moved size first t) 1 []
unfolding meaning passes number_of alu_op alu_fits alu_unpredictable turned
call_reached stocked size first t = steps_on [] (thread_start a32 leaving size first t) 0 [] (moved size first t).state begins (lit< tt) refl

-- a thread leaves with its number, with a stock or without
pub left_by : (stocked : Bool) (size : Numbers) (first t : ℕ)
    → EndsFrom a32 stocked leaving 2 (first_point (thread_start a32 leaving size first t)) [] (Exit (t % 256)) 2 []
left_by stocked size first t =
    leaves [] (moved size first t) 1 [] (exit_call first t) (t % 256) (call_reached stocked size first t) (lit< tt) (call_made size first t) refl

pub left : (size : Numbers) (first t : ℕ) → Ends a32 leaving 2 (thread_start a32 leaving size first t) [] (Exit (t % 256)) 2 []
left size first t = left_by false size first t

-- a thread asks for its load
load_next : (size : Numbers) (first t : ℕ) → next_effect loading (thread_start a32 loading size first t) ≡ asks (Load word)
unfolding meaning passes number_of index_fits index_of word_unpredictable
load_next size first t = refl

pub load_asked : (size : Numbers) (first t : ℕ) → Asks a32 loading 1 (thread_start a32 loading size first t) [] (Load word)
load_asked size first t =
    asks_access [] (thread_start a32 loading size first t) 0 [] (Load word) begins (lit< tt) (load_next size first t)

-- and its steps are spent behind it
abbrev loaded : Numbers → (first t : ℕ) → Machine
loaded size first t = given (after_next loading (thread_start a32 loading size first t)) 7

pub load_spent : (size : Numbers) (first t : ℕ) → Ends a32 loading 1 (thread_start a32 loading size first t) ((Load word, 7) ∷ []) Budget 1 []
unfolding meaning passes number_of index_fits index_of word_unpredictable
load_spent size first t =
    spends _ (after_next loading (loaded size first t)) []
    (steps_on _ (loaded size first t) 0 [] (after_next loading (loaded size first t)).state
    (accesses [] (thread_start a32 loading size first t) 0 [] (Load word) 7 begins (lit< tt) (load_next size first t)) (lit< tt) refl)

-- a thread may be stopped at its store
store_next : (size : Numbers) (first t : ℕ) → next_effect storing (thread_start a32 storing size first t) ≡ asks (Store word t)
unfolding meaning passes number_of index_fits index_of word_unpredictable
store_next size first t = refl

pub store_refused : (size : Numbers) (first t : ℕ) → EndsOn a32 storing 1 (thread_start a32 storing size first t) [] (TagLimit 8) 0 []
store_refused size first t = by_limit [] (thread_start a32 storing size first t) 0 [] word t begins (lit< tt) (store_next size first t)
