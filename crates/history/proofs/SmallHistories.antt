-- Parts of the worked histories that are legal, or not.
use Rattle.std.proofs.Common.{◌≡◌, ◌==◌, ℕ, zero, suc, Bool, true, false, List, [], ◌∷◌, ◌++◌, refl, subst, arith, inl, inr, ◌⊎◌, nat_lt}
use Rattle.std.specs.List.{flat_map, list_all}
use Rattle.std.proofs.lemmas.Bool.{and_parts, ltb-true}
use Rattle.llsc_base.specs.Sizes.{Numbers}
use Rattle.llsc_base.specs.declared.access.Place.{Place}
use Rattle.history.specs.Cause.{HasCause}
use Rattle.history.specs.Entry.{thread_of}
use Rattle.history.specs.Operation.{Operation, load, load_watched, load_missed, store, fail, clear, start, entries_of_operation, AreFinished, AreOperations}
use Rattle.history.specs.Parts.{entries_of}
use Rattle.history.specs.Started.{AreBorn}
use Rattle.history.specs.Worked.{word}
use Rattle.history.specs.declared.entry.Entry.{Entry}
use Rattle.history.specs.declared.entry.Entry.TheVariants.{Read, Write, Fail, Clear, Watch, Miss, Begin, End, Start}
use Rattle.history.proofs.Born.{is_start, may-stand}

-- a load-exclusive of thread 0 and its store-exclusive that succeeds
abbrev pub pair : List Entry
pair = Watch 0 word ∷ Read 0 word 0 true ∷ Begin 0 word ∷ Write 0 word 9 true ∷ End 0 word ∷ []

-- its entries are operations of thread 0, and no other thread has any
pub pair_operations : (thread : ℕ) → AreOperations thread (entries_of thread pair)
pair_operations zero = record { missing = []; finished = record { operations = load_watched word 0 ∷ store word 9 true ∷ []; are = refl } }
pair_operations (suc thread) =
    let another : (0 == suc thread) ≡ false = grind arith in
    record { missing = []; finished = record { operations = []; are = rw another refl } }

-- an entry that needs no cause, and starts no thread
abbrev pub is_quiet : Entry → Bool
is_quiet (Fail thread place value cause) = false
is_quiet (Miss thread place) = false
is_quiet (Start thread child entry arg) = false
is_quiet entry = true

quiet_cause : (size : Numbers) (past : List Entry) (entry : Entry) → is_quiet entry ≡ true → HasCause size past entry
quiet_cause size past (Read thread place value ex) quiet = tt
quiet_cause size past (Write thread place value ex) quiet = tt
quiet_cause size past (Fail thread place value cause) quiet = absurd (let f : ⊥ = cc in f)
quiet_cause size past (Clear thread) quiet = tt
quiet_cause size past (Watch thread place) quiet = tt
quiet_cause size past (Miss thread place) quiet = absurd (let f : ⊥ = cc in f)
quiet_cause size past (Begin thread place) quiet = tt
quiet_cause size past (End thread place) quiet = tt
quiet_cause size past (Start thread child entry arg) quiet = tt

-- what holds of all entries holds of each
pub in_all : (test : Entry → Bool) (past : List Entry) (entry : Entry) (rest : List Entry) → list_all test (past ++ (entry ∷ rest)) ≡ true → test entry ≡ true
in_all test [] entry rest all = (and_parts _ _ all).0
in_all test (first ∷ past) entry rest all = in_all test past entry rest (and_parts _ _ all).1

-- where no entry needs a cause, each has it
pub quiet_causes : (size : Numbers) (history : List Entry) → list_all is_quiet history ≡ true
    → (past : List Entry) (entry : Entry) (rest : List Entry) → history ≡ past ++ (entry ∷ rest) → HasCause size past entry
quiet_causes size history all past entry rest parts =
    quiet_cause size past entry (in_all is_quiet past entry rest (subst (λ h. list_all is_quiet h ≡ true) parts all))

quiet_plain : (entry : Entry) → is_quiet entry ≡ true → is_start entry ≡ false
quiet_plain (Read thread place value ex) quiet = refl
quiet_plain (Write thread place value ex) quiet = refl
quiet_plain (Fail thread place value cause) quiet = refl
quiet_plain (Clear thread) quiet = refl
quiet_plain (Watch thread place) quiet = refl
quiet_plain (Miss thread place) quiet = refl
quiet_plain (Begin thread place) quiet = refl
quiet_plain (End thread place) quiet = refl
quiet_plain (Start thread child entry arg) quiet = absurd (let f : ⊥ = cc in f)

-- an entry of a thread that begins by itself
abbrev pub is_of_first : ℕ → Entry → Bool
is_of_first first entry = nat_lt (thread_of entry) first

-- where no thread is started, and all entries are of threads that begin by themselves, each may stand where it does
pub quiet_born : (first spare : ℕ) (history : List Entry) → list_all is_quiet history ≡ true → list_all (is_of_first first) history ≡ true
    → AreBorn first spare history
quiet_born first spare history all below past entry rest parts =
    let quiet = quiet_plain entry (in_all is_quiet past entry rest (subst (λ h. list_all is_quiet h ≡ true) parts all)) in
    let own = in_all (is_of_first first) past entry rest (subst (λ h. list_all (is_of_first first) h ≡ true) parts below) in
    may-stand first spare past entry quiet (inl (ltb-true (thread_of entry) first own))

-- no operations begin with a write that has not begun
pub not_begun : (thread : ℕ) (place : Place) (value : ℕ) (ex : Bool) (rest : List Entry) (operations : List Operation)
    → Write thread place value ex ∷ rest ≡ flat_map (entries_of_operation thread) operations → ⊥
not_begun thread place value ex rest [] same = cc
not_begun thread place value ex rest (load at n ∷ operations) same = cc
not_begun thread place value ex rest (load_watched at n ∷ operations) same = cc
not_begun thread place value ex rest (load_missed at n ∷ operations) same = cc
not_begun thread place value ex rest (store at n e ∷ operations) same = cc
not_begun thread place value ex rest (fail at n cause ∷ operations) same = cc
not_begun thread place value ex rest (clear ∷ operations) same = cc
not_begun thread place value ex rest (start child entry arg ∷ operations) same = cc

-- the entry of a list of one, and what stands behind it
pub is_of_one : (only entry : Entry) (before later : List Entry) → only ∷ [] ≡ before ++ (entry ∷ later) → (entry ≡ only) × (later ≡ [])
is_of_one only entry [] later same = (cc, cc)
is_of_one only entry (first ∷ []) later same = absurd (let f : ⊥ = cc in f)
is_of_one only entry (first ∷ next ∷ before) later same = absurd (let f : ⊥ = cc in f)

-- an entry of a list of two is the first, and the other stands behind it, or it is the last
pub is_of_two : (one two entry : Entry) (before later : List Entry) → one ∷ two ∷ [] ≡ before ++ (entry ∷ later)
    → ((entry ≡ one) × (later ≡ two ∷ [])) ⊎ (entry ≡ two)
is_of_two one two entry [] later same = inl (cc, cc)
is_of_two one two entry (first ∷ before) later same = inr (is_of_one two entry before later cc).0

-- no operations of thread 0 begin with a CLREX of thread 1
pub not_anothers : (rest : List Entry) (operations : List Operation) → Clear 1 ∷ rest ≡ flat_map (entries_of_operation 0) operations → ⊥
not_anothers rest [] same = cc
not_anothers rest (load at n ∷ operations) same = cc
not_anothers rest (load_watched at n ∷ operations) same = cc
not_anothers rest (load_missed at n ∷ operations) same = cc
not_anothers rest (store at n e ∷ operations) same = cc
not_anothers rest (fail at n cause ∷ operations) same = cc
not_anothers rest (clear ∷ operations) same = let wrong : Clear 1 ≡ Clear 0 = cc in cc
not_anothers rest (start child entry arg ∷ operations) same = cc

-- the pair is complete
pub pair_complete : (thread : ℕ) → AreFinished thread (entries_of thread pair)
pair_complete zero = record { operations = load_watched word 0 ∷ store word 9 true ∷ []; are = refl }
pair_complete (suc thread) =
    let another : (0 == suc thread) ≡ false = grind arith in
    record { operations = []; are = rw another refl }
