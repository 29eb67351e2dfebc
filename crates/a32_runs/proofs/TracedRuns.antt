-- Runs of the small programs, step by step.
use Rattle.std.proofs.Common.{ℕ, ◌%◌, [], ◌∷◌, refl, lit<}
use Rattle.llsc_base.specs.Memory.{number_of}
use Rattle.a32_instr.specs.Condition.{passes}
use Rattle.a32_instr.specs.Fields.{alu_op, alu_fits, alu_unpredictable, index_fits, index_of, word_unpredictable}
use Rattle.a32_instr.specs.Shift.{turned}
use Rattle.a32_instr.specs.Table.{meaning}
use Rattle.llsc_base.specs.declared.outside.Ask.TheVariants.{Load}
use Rattle.llsc_base.specs.declared.outside.Stop.TheVariants.{Exit, Budget}
use Rattle.guest_calls.specs.Run.{asks_access, accesses, begins, steps_on, leaves, spends, Asks, Ends}
use Rattle.guest_thread.specs.Start.{thread_start}
use Rattle.guest_machine.specs.Worked.{first_word}
use Rattle.a32_runs.specs.Turns.{leaving, loading, small_machine}
use Rattle.a32_step.specs.Machine.{a32}

-- a thread leaves at once with its number
pub leaves_at_once : (n t : ℕ) → Ends a32 leaving 10 (thread_start a32 leaving (small_machine n) n t) [] (Exit (t % 256)) 2 []
unfolding number_of passes turned alu_op alu_fits alu_unpredictable meaning
leaves_at_once n t = leaves [] _ 1 [] _ (t % 256) (steps_on [] _ 0 [] _ begins (lit< tt) refl) (lit< tt) refl refl

-- its one step is spent before it leaves
pub spends_one : (n t : ℕ) → Ends a32 leaving 1 (thread_start a32 leaving (small_machine n) n t) [] Budget 1 []
unfolding number_of passes turned alu_op alu_fits alu_unpredictable meaning
spends_one n t = spends [] _ [] (steps_on [] _ 0 [] _ begins (lit< tt) refl)

-- a thread asks for the first word at once
pub asks_at_once : (n t : ℕ) → Asks a32 loading 10 (thread_start a32 loading (small_machine n) n t) [] (Load first_word)
unfolding number_of passes index_fits index_of word_unpredictable meaning
asks_at_once n t = asks_access [] _ 0 [] _ begins (lit< tt) refl

-- and leaves behind it with its number
pub leaves_after_a_load : (n t : ℕ)
    → Ends a32 loading 10 (thread_start a32 loading (small_machine n) n t) ((Load first_word, 0xE5942000) ∷ []) (Exit (t % 256)) 3 []
unfolding number_of passes turned alu_op alu_fits alu_unpredictable index_fits index_of word_unpredictable meaning
leaves_after_a_load n t =
    leaves _ _ 2 [] _ (t % 256)
    (steps_on _ _ 1 [] _ (steps_on _ _ 0 [] _ (accesses [] _ 0 [] _ 0xE5942000 begins (lit< tt) refl) (lit< tt) refl) (lit< tt) refl)
    (lit< tt) refl refl
