-- A thread that loads one word again and again.
use Rattle.std.proofs.Common.{◌≡◌, ℕ, zero, suc, ◌+◌, ◌*◌, ◌<◌, ◌≤◌, ◌∙◌, List, [], ◌∷◌, ◌++◌, false, length, ap, arith, refl, subst, sym}
use Rattle.std.proofs.lemmas.List.{length-append}
use Rattle.llsc_base.specs.Memory.{number_of}
use Rattle.history.specs.Monitor.{at_rest_by, accessed}
use Rattle.history.specs.Accesses.{entry_of}
use Rattle.history.specs.declared.entry.Access.{Access}
use Rattle.a32_instr.specs.Branch.{target_of}
use Rattle.a32_instr.specs.Condition.{passes}
use Rattle.a32_instr.specs.Fields.{index_fits, index_of, signed24, word_unpredictable}
use Rattle.a32_instr.specs.Table.{meaning}
use Rattle.llsc_base.specs.declared.outside.Ask.TheVariants.{Load}
use Rattle.llsc_base.specs.declared.outside.Stop.TheVariants.{Budget}
use Rattle.a32_step.specs.Machine.{Machine, a32}
use Rattle.guest_core.specs.Machine.{between}
use Rattle.guest_calls.specs.Pairs.{pairs_in}
use Rattle.guest_calls.specs.Run.{Pair, asks_access, accesses, begins, spends, steps_on, Ends, Reaches, Asks}
use Rattle.guest_thread.specs.Accesses.{access_by, monitor_of}
use Rattle.guest_thread.specs.Start.{thread_start}
use Rattle.guest_thread.proofs.Pushed.{monitor_push, own_push}
use Rattle.run_record.specs.Limits.{most_accesses}
use Rattle.guest_machine.specs.Turns.{Takes, drawn, makes, stops, IsTooLong, IsTrace}
use Rattle.guest_machine.specs.Turns as turns
use Rattle.guest_machine.specs.Worked.{first_word}
use Rattle.a32_runs.specs.Turns.{load_by, looping, small_machine}
use Rattle.guest_machine.proofs.OneThread.{only}
use Rattle.guest_machine.proofs.OneTrace.{not_too_long}

-- the first word, as a number
abbrev word : ℕ
word = 0xE5942000

-- the thread between two rounds, with a number in r2
abbrev at_round : ℕ → Machine
at_round x = between (record {
  regs = 0 ∷ 1 ∷ x ∷ 0 ∷ 0 ∷ 0 ∷ 0 ∷ 0 ∷ 0 ∷ 0 ∷ 0 ∷ 0 ∷ 0 ∷ 65536 ∷ 0 ∷ [];
  flags = record { n = false; z = false; c = false; v = false };
  pc = 0;
})

abbrev start : Machine
start = thread_start a32 looping (small_machine 1) 1 0

-- so many loads, as pairs and as accesses
pairs : ℕ → List Pair
pairs zero = []
pairs (suc n) = pairs n ++ (Load first_word, word) ∷ []

loads : ℕ → List Access
loads zero = []
loads (suc n) = loads n ++ load_by 0 word ∷ []

-- one round
round : (budget steps x : ℕ) (early : List Pair) → steps + 1 < budget → Reaches a32 looping budget start early (at_round x) steps []
    → Reaches a32 looping budget start (early ++ (Load first_word, word) ∷ []) (at_round word) (steps + 1 + 1) []
unfolding number_of passes index_fits index_of word_unpredictable signed24 target_of meaning
round budget steps x early more came =
    let first : steps < budget = omega (arith, more) in
    steps_on _ _ (steps + 1) [] _ (steps_on _ _ steps [] _ (accesses early _ steps [] _ word came first refl) first refl) more refl

-- so many rounds
rounds : (budget n : ℕ) → 2 * n < budget + 1 → (x : ℕ) × Reaches a32 looping budget start (pairs n) (at_round x) (2 * n) []
unfolding pairs
rounds budget zero few = (0, begins)
rounds budget (suc n) few =
    let was = rounds budget n (omega (arith, few)) in
    let came = round budget (2 * n) was.0 (pairs n) (omega (arith, few)) was.1 in
    (word, subst (λ k. Reaches a32 looping budget start (pairs n ++ (Load first_word, word) ∷ []) (at_round word) k []) (let same : 2 * n + 1 + 1 ≡ 2 * suc n = omega arith in same) came)

asks_on : (budget n : ℕ) → 2 * n < budget → Asks a32 looping budget start (pairs n) (Load first_word)
unfolding number_of passes index_fits index_of word_unpredictable signed24 target_of meaning
asks_on budget n few =
    let was = rounds budget n (omega (arith, few)) in
    asks_access (pairs n) (at_round was.0) (2 * n) [] (Load first_word) was.1 few refl

-- the loads as pairs
pairs_are : (n : ℕ) → pairs_in 0 (loads n) ≡ pairs n
unfolding pairs loads
pairs_are zero = refl
pairs_are (suc n) = own_push (loads n) (load_by 0 word) ∙ ap (λ (l : List Pair). l ++ (Load first_word, word) ∷ []) (pairs_are n)

-- and memory as it was
memory_stays : (n : ℕ) → monitor_of looping (small_machine 1) (loads n) ≡ at_rest_by 0 looping.bytes 1
unfolding loads
memory_stays zero = refl
memory_stays (suc n) =
    monitor_push looping (small_machine 1) (loads n) (load_by 0 word) ∙ ap (λ m. accessed m (entry_of (load_by 0 word))) (memory_stays n)

loaded : (n : ℕ) → access_by (monitor_of looping (small_machine 1) (loads n)) 0 (Load first_word) ≡ load_by 0 word
unfolding number_of
loaded n = ap (λ m. access_by m 0 (Load first_word)) (memory_stays n)

length_is : (n : ℕ) → length (loads n) ≡ n
unfolding loads
length_is zero = refl
length_is (suc n) = length-append (loads n) (load_by 0 word ∷ []) ∙ (let same : length (loads n) + 1 ≡ suc n = omega (arith, length_is n) in same)

-- so many turns
taken : (budget n : ℕ) → 2 * n < budget + 2 → (x : ℕ) × Takes a32 looping (small_machine 1) 0 budget x (0 ∷ []) (loads n)
unfolding loads
taken budget zero few = (0, turns.begins)
taken budget (suc n) few =
    let was = taken budget n (omega (arith, few)) in
    let asks = subst (λ (l : List Pair). Asks a32 looping budget start l (Load first_word)) (sym (pairs_are n)) (asks_on budget n (omega (arith, few))) in
    let next = makes was.0 (0 ∷ []) (loads n) 0 (Load first_word) was.1 (only (drawn was.0)) asks in
    (drawn was.0, subst (λ a. Takes a32 looping (small_machine 1) 0 budget (drawn was.0) (0 ∷ []) (loads n ++ a ∷ [])) (loaded n) next)

-- more loads than a record may have
pub too_many : (budget n : ℕ) → 2 * n < budget + 2 → most_accesses < n → IsTooLong a32 looping (small_machine 1) 0 budget
too_many budget n few many =
    let was = taken budget n few in
    (was.0, 0 ∷ [], loads n, (was.1, subst (λ k. most_accesses < k) (sym (length_is n)) many))

-- where the steps are spent behind so many rounds, these are all loads
all_taken : (n : ℕ) → IsTrace a32 looping (small_machine 1) 0 (2 * n) (loads n)
all_taken n =
    let was = taken (2 * n) n (omega arith) in
    let came = rounds (2 * n) n (omega arith) in
    let ends = subst (λ (l : List Pair). Ends a32 looping (2 * n) start l Budget (2 * n) []) (sym (pairs_are n)) (spends (pairs n) (at_round came.0) [] came.1) in
    (drawn was.0, stops was.0 (0 ∷ []) (loads n) 0 Budget (2 * n) [] was.1 (only (drawn was.0)) ends)

pub not_too_many : (n : ℕ) → n ≤ most_accesses → IsTooLong a32 looping (small_machine 1) 0 (2 * n) → ⊥
not_too_many n few =
    not_too_long a32 looping (small_machine 1) 0 (2 * n) (loads n) (all_taken n) (subst (λ k. k ≤ most_accesses) (sym (length_is n)) few)
