-- Histories of the worked cases: those that are legal from a small memory's first bytes on, and where their entries stand.
use Rattle.std.proofs.Common.{◌≡◌, ◌==◌, ◌<◌, ◌≤◌, ℕ, zero, suc, ◌⊎◌, Bool, false, true, List, [], ◌∷◌, ◌++◌, length, replicate, refl, ap, sym, subst, arith, inl, inr, length-append}
use Rattle.std.specs.List.{list_all}
use Rattle.std.proofs.lemmas.Bool.{and_parts, cases_eq, ltb-true, ne_eqb}
use Rattle.history.specs.ArmLegal.{IsArmLegal}
use Rattle.history.specs.Cause.{HasCause}
use Rattle.history.specs.Entry.{thread_of}
use Rattle.history.specs.Legal.{IsLegal}
use Rattle.history.specs.Monitor.{at_rest}
use Rattle.history.specs.Operation.{AreOperations, load_watched, start}
use Rattle.history.specs.Parts.{accesses_of, entries_of}
use Rattle.history.specs.Worked.{small_machine, word}
use Rattle.history.specs.declared.entry.Entry.{Entry}
use Rattle.history.specs.declared.entry.Entry.TheVariants.{Read, Watch, Start}
use Rattle.history.proofs.SmallHistories.{is_of_first, is_quiet, quiet_born, quiet_causes}
use Rattle.shared_memory.specs.Origin.{IsLegalFrom}
use Rattle.shared_memory.specs.Seen.{IsFront}
use Rattle.shared_memory.specs.Worked.{made}

-- no entries are operations of any thread
pub nothing : (thread : ℕ) → AreOperations thread []
nothing thread = record { missing = []; finished = record { operations = []; are = refl } }

-- an entry of one of the two threads
abbrev pub is_of_both : Entry → Bool
is_of_both entry = is_of_first 2 entry

-- no other has any
of_others : (thread : ℕ) (history : List Entry) → list_all is_of_both history ≡ true → 2 ≤ thread → entries_of thread history ≡ []
of_others thread [] all above = refl
of_others thread (entry ∷ history) all above =
    let parts = and_parts _ _ all in
    let below : thread_of entry < 2 = ltb-true (thread_of entry) 2 parts.0 in
    let another : (thread_of entry == thread) ≡ false = ne_eqb (thread_of entry) thread (λ same. absurd (omega (arith, below, above, same))) in
    rw another (of_others thread history parts.1 above)

-- a history of the two threads is legal where Arm allows its accesses, the entries of each are operations, and none needs a cause
pub legal_from : (history : List Entry) → list_all is_of_both history ≡ true → list_all is_quiet history ≡ true
    → IsArmLegal (at_rest (replicate 32 0) 2) (accesses_of history) → AreOperations 0 (entries_of 0 history) → AreOperations 1 (entries_of 1 history)
    → IsLegalFrom (made (small_machine 1) true) history
legal_from history both quiet allowed zeroth first = record {
  legal = record { accesses = allowed; operations = operations; causes = quiet_causes (small_machine 1) history quiet };
  known = λ thread above. of_others thread history both above;
  born = quiet_born 2 0 history quiet both;
}
  where
    operations : (thread : ℕ) → AreOperations thread (entries_of thread history)
    operations zero = zeroth
    operations (suc zero) = first
    operations (suc (suc thread)) =
        subst (AreOperations (suc (suc thread))) (sym (of_others (suc (suc thread)) history both (omega arith))) (nothing (suc (suc thread)))

-- a load-exclusive of a third thread has begun, and nothing else has
abbrev pub watch_of_a_third : List Entry
watch_of_a_third = Watch 2 word ∷ []

-- it is legal, but for its thread
pub third_legal : IsLegal (small_machine 1) [] watch_of_a_third
third_legal = record { accesses = tt; operations = operations; causes = quiet_causes (small_machine 1) watch_of_a_third refl }
  where
    operations : (thread : ℕ) → AreOperations thread (entries_of thread watch_of_a_third)
    operations thread = elim (cases_eq 2 thread) [
      | inl same ↦ subst (λ t. AreOperations t (entries_of t watch_of_a_third)) same
          (record { missing = Read 2 word 0 true ∷ []; finished = record { operations = load_watched word 0 ∷ []; are = refl } })
      | inr other ↦ rw (ne_eqb 2 thread other) (nothing thread)
    ]

-- a thread of the two starts another, and nothing else has come
abbrev pub start_of_a_third : List Entry
start_of_a_third = Start 0 2 4096 7 ∷ []

-- it is legal, but for its having none to start
pub start_legal : IsLegal (small_machine 1) [] start_of_a_third
start_legal = record { accesses = tt; operations = operations; causes = causes }
  where
    operations : (thread : ℕ) → AreOperations thread (entries_of thread start_of_a_third)
    operations zero = record { missing = []; finished = record { operations = start 2 4096 7 ∷ []; are = refl } }
    operations (suc thread) = rw (ne_eqb 0 (suc thread) (λ same. let f : ⊥ = cc in f)) (nothing (suc thread))

    causes : (past : List Entry) (entry : Entry) (rest : List Entry) → start_of_a_third ≡ past ++ (entry ∷ rest) → HasCause (small_machine 1) past entry
    causes [] entry rest same = let is : Start 0 2 4096 7 ≡ entry = cc in subst (HasCause (small_machine 1) []) is tt
    causes (first ∷ []) entry rest same = absurd (let f : ⊥ = cc in f)
    causes (first ∷ next ∷ past) entry rest same = absurd (let f : ⊥ = cc in f)

-- ---- where an entry stands

pub at_one : (one entry : Entry) (past later : List Entry) → one ∷ [] ≡ past ++ (entry ∷ later) → (past ≡ []) × (entry ≡ one)
at_one one entry [] later same = (refl, cc)
at_one one entry (first ∷ []) later same = absurd (let f : ⊥ = cc in f)
at_one one entry (first ∷ next ∷ past) later same = absurd (let f : ⊥ = cc in f)

pub at_two : (one two entry : Entry) (past later : List Entry) → one ∷ two ∷ [] ≡ past ++ (entry ∷ later)
    → ((past ≡ []) × (entry ≡ one)) ⊎ ((past ≡ one ∷ []) × (entry ≡ two))
at_two one two entry [] later same = inl (refl, cc)
at_two one two entry (first ∷ past) later same =
    let at = at_one two entry past later cc in
    let is : first ≡ one = cc in
    let none = at.0 in
    inr (cc, at.1)

pub at_three : (one two three entry : Entry) (past later : List Entry) → one ∷ two ∷ three ∷ [] ≡ past ++ (entry ∷ later)
    → ((past ≡ []) × (entry ≡ one)) ⊎ (((past ≡ one ∷ []) × (entry ≡ two)) ⊎ ((past ≡ one ∷ two ∷ []) × (entry ≡ three)))
at_three one two three entry [] later same = inl (refl, cc)
at_three one two three entry (first ∷ past) later same =
    let is : first ≡ one = cc in
    inr (elim (at_two two three entry past later cc) [
      | inl at ↦ let none = at.0 in inl (cc, at.1)
      | inr at ↦ let rest = at.0 in inr (cc, at.1)
    ])

-- an entry doesn't stand behind all of a list that it stands in
pub not_behind_all : (all past later : List Entry) (entry : Entry) → IsFront all past → all ≡ past ++ (entry ∷ later) → ⊥
not_behind_all all past later entry front are =
    let whole = ap length are in
    let more = ap length front.1 in
    omega (arith, whole, more, length-append past (entry ∷ later), length-append all front.0)
