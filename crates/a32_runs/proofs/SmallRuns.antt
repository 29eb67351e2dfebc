-- What the instructions of the worked runs do, and where they lead.
use Rattle.std.proofs.Common.{◌≡◌, ℕ, List, [], ◌∷◌, refl, subst, lit<, arith}
use Rattle.llsc_base.specs.Images.{Program}
use Rattle.llsc_base.specs.declared.access.Place.{Place}
use Rattle.llsc_base.specs.Memory.{number_of}
use Rattle.a32_instr.specs.Condition.{passes}
use Rattle.a32_instr.specs.Fields.{exclusive_size, index_fits, index_of, no_pair, one_of_3_is_pc, status_clashes, word_unpredictable}
use Rattle.llsc_base.specs.Effects.{asks, calls, stops}
use Rattle.a32_instr.specs.Table.{meaning}
use Rattle.llsc_base.specs.declared.outside.Ask.{Ask}
use Rattle.llsc_base.specs.declared.outside.Ask.TheVariants.{Load, Store, StoreEx}
use Rattle.llsc_base.specs.declared.outside.Stop.{Stop}
use Rattle.llsc_base.specs.declared.outside.Stop.TheVariants.{Exit, Budget, TagLimit, Outside, ReadOnly}
use Rattle.a32_step.specs.Machine.{Machine, after_next, next_effect, a32}
use Rattle.guest_core.specs.Machine.{given}
use Rattle.guest_calls.specs.Run.{Pair, byte_load, begins, accesses, steps_on, returns, prints, halts, leaves, spends, by_itself, by_limit, asks_access, asks_byte, EndsOn, Ends, Reaches, Asks}
use Rattle.guest_core.specs.Machine.{returned_of}
use Rattle.guest_calls.specs.Worked.{byte_at, call, word}
use Rattle.a32_runs.specs.OneWord.{calling, loading, storing, storing_exclusively, thread_at}
use Rattle.guest_calls.proofs.Asked.{asks_or_ends, one_ask}

-- a call is made
pub call_next : (a b c number : ℕ) → next_effect calling (thread_at 0 a b c number) ≡ calls (call number a b c)
unfolding meaning passes number_of
call_next a b c number = refl

-- and answered
pub call_returned : (a b c number answer : ℕ) → returned_of a32 (after_next calling (thread_at 0 a b c number)) answer ≡ thread_at 4 answer b c number
unfolding meaning passes number_of
call_returned a b c number answer = refl

-- an access is asked, or barred
pub load_next : next_effect loading (thread_at 0 0 8 0 0) ≡ asks (Load word)
unfolding meaning passes number_of index_fits index_of word_unpredictable
load_next = refl

pub store_next : next_effect storing (thread_at 0 7 8 0 0) ≡ asks (Store word 7)
unfolding meaning passes number_of index_fits index_of word_unpredictable
store_next = refl

pub store_exclusive_next : next_effect storing_exclusively (thread_at 0 7 8 0 0) ≡ asks (StoreEx word 7)
unfolding meaning passes number_of one_of_3_is_pc exclusive_size no_pair status_clashes
store_exclusive_next = refl

pub store_barred : next_effect storing (thread_at 0 7 0 0 0) ≡ stops (ReadOnly 0)
unfolding meaning passes number_of index_fits index_of word_unpredictable
store_barred = refl

-- a load and a store are complete
pub load_reached : Reaches a32 loading 1 (thread_at 0 0 8 0 0) ((Load word, 7) ∷ []) (thread_at 4 7 8 0 0) 1 []
unfolding meaning passes number_of index_fits index_of word_unpredictable
load_reached =
    steps_on _ (given (after_next loading (thread_at 0 0 8 0 0)) 7) 0 [] (thread_at 4 7 8 0 0).state
    (accesses [] (thread_at 0 0 8 0 0) 0 [] (Load word) 7 begins (lit< tt) load_next) (lit< tt) refl

pub store_reached : Reaches a32 storing 1 (thread_at 0 7 8 0 0) ((Store word 7, 0) ∷ []) (thread_at 4 7 8 0 0) 1 []
unfolding meaning passes number_of index_fits index_of word_unpredictable
store_reached =
    steps_on _ (given (after_next storing (thread_at 0 7 8 0 0)) 0) 0 [] (thread_at 4 7 8 0 0).state
    (accesses [] (thread_at 0 7 8 0 0) 0 [] (Store word 7) 0 begins (lit< tt) store_next) (lit< tt) refl

-- the two bytes of the write that were loaded
abbrev pub bytes_loaded : List Pair
bytes_loaded = (Load (byte_at 8), 104) ∷ (Load (byte_at 9), 105) ∷ []

-- and then the write is complete
pub write_reached : Reaches a32 calling 1 (thread_at 0 1 8 2 4) bytes_loaded (thread_at 4 2 8 2 4) 1 (104 ∷ 105 ∷ [])
write_reached =
    subst (λ m. Reaches a32 calling 1 (thread_at 0 1 8 2 4) bytes_loaded m 1 (104 ∷ 105 ∷ [])) (call_returned 1 8 2 4 2)
    (prints [] (thread_at 0 1 8 2 4) 0 [] (call 4 1 8 2) 8 (104 ∷ 105 ∷ []) begins (lit< tt) (call_next 1 8 2 4) refl)

-- ---- ends

pub exit_left : Ends a32 calling 1 (thread_at 0 261 0 0 1) [] (Exit 5) 1 []
exit_left = leaves [] (thread_at 0 261 0 0 1) 0 [] (call 1 261 0 0) 5 begins (lit< tt) (call_next 261 0 0 1) refl

pub outside_stopped : Ends a32 calling 1 (thread_at 4 5 0 0 1) [] (Outside 4) 0 []
outside_stopped = halts [] (thread_at 4 5 0 0 1) 0 [] (Outside 4) begins (lit< tt) refl

pub spent_at_once : (program : Program) (start : Machine) → Ends a32 program 0 start [] Budget 0 []
spent_at_once program start = spends [] start [] begins

pub write_spent : Ends a32 calling 1 (thread_at 0 1 8 2 4) bytes_loaded Budget 1 (104 ∷ 105 ∷ [])
write_spent = spends bytes_loaded (thread_at 4 2 8 2 4) (104 ∷ 105 ∷ []) write_reached

-- with no budget no step is made
pub stuck : (program : Program) (start machine : Machine) (pairs : List Pair) (steps : ℕ) (output : List ℕ)
    → Reaches a32 program 0 start pairs machine steps output → steps ≡ 0
stuck program start _ _ _ _ begins = refl
stuck program start _ _ _ _ (accesses pairs machine steps output ask reply before less asked) = absurd (omega (arith, less))
stuck program start _ _ _ _ (steps_on pairs machine steps output state before less done) = absurd (omega (arith, less))
stuck program start _ _ _ _ (returns pairs machine steps output call answer before less called known plain) = absurd (omega (arith, less))
stuck program start _ _ _ _ (prints pairs machine steps output call addr bytes before less called known) = absurd (omega (arith, less))

-- ---- what is asked

pub load_asked : Asks a32 loading 1 (thread_at 0 0 8 0 0) [] (Load word)
load_asked = asks_access [] (thread_at 0 0 8 0 0) 0 [] (Load word) begins (lit< tt) load_next

pub store_asked : Asks a32 storing 1 (thread_at 0 7 8 0 0) [] (Store word 7)
store_asked = asks_access [] (thread_at 0 7 8 0 0) 0 [] (Store word 7) begins (lit< tt) store_next

pub store_exclusive_asked : Asks a32 storing_exclusively 1 (thread_at 0 7 8 0 0) [] (StoreEx word 7)
store_exclusive_asked = asks_access [] (thread_at 0 7 8 0 0) 0 [] (StoreEx word 7) begins (lit< tt) store_exclusive_next

pub first_byte_asked : Asks a32 calling 1 (thread_at 0 1 8 2 4) [] (byte_load 8)
first_byte_asked = asks_byte [] (thread_at 0 1 8 2 4) 0 [] (call 4 1 8 2) 8 2 [] begins (lit< tt) (call_next 1 8 2 4) refl (lit< tt)

pub second_byte_asked : Asks a32 calling 1 (thread_at 0 1 8 2 4) ((byte_load 8, 104) ∷ []) (byte_load 9)
second_byte_asked = asks_byte [] (thread_at 0 1 8 2 4) 0 [] (call 4 1 8 2) 8 2 (104 ∷ []) begins (lit< tt) (call_next 1 8 2 4) refl (lit< tt)

-- ---- ends at a limit

pub store_refused : EndsOn a32 storing 1 (thread_at 0 7 8 0 0) [] (TagLimit 8) 0 []
store_refused = by_limit [] (thread_at 0 7 8 0 0) 0 [] word 7 begins (lit< tt) store_next

-- a thread that asks for an access ends there only where that is a store
pub refused_at : (program : Program) (budget : ℕ) (start : Machine) (pairs : List Pair) (ask : Ask) (stop : Stop) (steps : ℕ) (output : List ℕ)
    → Asks a32 program budget start pairs ask → EndsOn a32 program budget start pairs stop steps output
    → (place : Place) × (value : ℕ) × (ask ≡ Store place value)
refused_at program budget start _ ask _ _ _ asked (by_itself pairs stop steps output ends) =
    absurd (asks_or_ends a32 program budget start pairs ask stop steps output asked ends)
refused_at program budget start _ ask _ _ _ asked (by_limit pairs machine steps output place value reached less stored) = (
  place,
  value,
  one_ask a32 program budget start pairs ask (Store place value) asked
      (asks_access pairs machine steps output (Store place value) reached less stored),
)
