-- Runs of the small programs, step by step.
use Rattle.std.proofs.Common.{ℕ, ◌%◌, [], ◌∷◌, refl, lit<}
use Rattle.llsc_base.specs.Memory.{number_of}
use Rattle.a32_instr.specs.Condition.{passes}
use Rattle.a32_instr.specs.Fields.{alu_op, alu_fits, alu_unpredictable, exclusive_size, index_fits, index_of, no_pair, one_of_2_is_pc, one_of_3_is_pc, status_clashes, word_unpredictable}
use Rattle.a32_instr.specs.Shift.{turned}
use Rattle.a32_instr.specs.Table.{meaning}
use Rattle.llsc_base.specs.declared.outside.Ask.TheVariants.{Load, LoadEx, StoreEx}
use Rattle.llsc_base.specs.declared.outside.Stop.TheVariants.{Exit}
use Rattle.guest_calls.specs.Run.{asks_access, accesses, begins, steps_on, leaves, Ends, Asks}
use Rattle.guest_thread.specs.Start.{thread_start}
use Rattle.run_checker.specs.Worked.{word}
use Rattle.a32_runs.specs.Verdicts.{leaving, loading, small_machine, storing, taking}
use Rattle.a32_step.specs.Machine.{a32}

-- a thread leaves at once with its number
pub leaves_at_once : (t : ℕ) → Ends a32 leaving 10 (thread_start a32 leaving small_machine 1 t) [] (Exit (t % 256)) 2 []
unfolding number_of passes turned alu_op alu_fits alu_unpredictable meaning
leaves_at_once t = leaves [] _ 1 [] _ (t % 256) (steps_on [] _ 0 [] _ begins (lit< tt) refl) (lit< tt) refl refl

-- a thread asks for the word at once
pub asks_load : (t : ℕ) → Asks a32 loading 10 (thread_start a32 loading small_machine 1 t) [] (Load word)
unfolding number_of passes index_fits index_of word_unpredictable meaning
asks_load t = asks_access [] _ 0 [] _ begins (lit< tt) refl

-- and leaves behind it with its number
pub leaves_after_load : (t : ℕ) → Ends a32 loading 10 (thread_start a32 loading small_machine 1 t) ((Load word, 0) ∷ []) (Exit (t % 256)) 3 []
unfolding number_of passes turned alu_op alu_fits alu_unpredictable index_fits index_of word_unpredictable meaning
leaves_after_load t =
    leaves _ _ 2 [] _ (t % 256)
    (steps_on _ _ 1 [] _ (steps_on _ _ 0 [] _ (accesses [] _ 0 [] _ 0 begins (lit< tt) refl) (lit< tt) refl) (lit< tt) refl)
    (lit< tt) refl refl

-- a thread asks at once to store the number of threads exclusively
pub asks_store : (t : ℕ) → Asks a32 storing 10 (thread_start a32 storing small_machine 1 t) [] (StoreEx word 1)
unfolding number_of passes exclusive_size no_pair one_of_3_is_pc status_clashes meaning
asks_store t = asks_access [] _ 0 [] _ begins (lit< tt) refl

-- a thread that takes its word loads it exclusively, asks to store there, loads it again whatever was replied, and leaves
pub asks_first : (t : ℕ) → Asks a32 taking 10 (thread_start a32 taking small_machine 1 t) [] (LoadEx word)
unfolding number_of passes exclusive_size no_pair one_of_2_is_pc meaning
asks_first t = asks_access [] _ 0 [] _ begins (lit< tt) refl

pub asks_to_take : (t : ℕ) → Asks a32 taking 10 (thread_start a32 taking small_machine 1 t) ((LoadEx word, 0) ∷ []) (StoreEx word 1)
unfolding number_of passes exclusive_size no_pair one_of_2_is_pc one_of_3_is_pc status_clashes meaning
asks_to_take t = asks_access _ _ 1 [] _ (steps_on _ _ 0 [] _ (accesses [] _ 0 [] _ 0 begins (lit< tt) refl) (lit< tt) refl) (lit< tt) refl

pub asks_again : (t reply : ℕ) → Asks a32 taking 10 (thread_start a32 taking small_machine 1 t) ((LoadEx word, 0) ∷ (StoreEx word 1, reply) ∷ []) (Load word)
unfolding number_of passes exclusive_size no_pair one_of_2_is_pc one_of_3_is_pc status_clashes index_fits index_of word_unpredictable meaning
asks_again t reply =
    asks_access _ _ 2 [] _
    (steps_on _ _ 1 [] _
    (accesses _ _ 1 [] _ reply (steps_on _ _ 0 [] _ (accesses [] _ 0 [] _ 0 begins (lit< tt) refl) (lit< tt) refl) (lit< tt) refl)
    (lit< tt) refl)
    (lit< tt) refl

pub leaves_after_all : (t : ℕ)
    → Ends a32 taking 10 (thread_start a32 taking small_machine 1 t) ((LoadEx word, 0) ∷ (StoreEx word 1, 0) ∷ (Load word, 1) ∷ []) (Exit (t % 256)) 5 []
unfolding number_of passes turned alu_op alu_fits alu_unpredictable exclusive_size no_pair one_of_2_is_pc one_of_3_is_pc status_clashes index_fits index_of word_unpredictable meaning
leaves_after_all t =
    leaves _ _ 4 [] _ (t % 256)
    (steps_on _ _ 3 [] _
    (steps_on _ _ 2 [] _
    (accesses _ _ 2 [] _ 1
    (steps_on _ _ 1 [] _
    (accesses _ _ 1 [] _ 0 (steps_on _ _ 0 [] _ (accesses [] _ 0 [] _ 0 begins (lit< tt) refl) (lit< tt) refl) (lit< tt) refl)
    (lit< tt) refl)
    (lit< tt) refl)
    (lit< tt) refl)
    (lit< tt) refl)
    (lit< tt) refl refl
