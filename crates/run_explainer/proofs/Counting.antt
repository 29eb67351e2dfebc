-- The store-exclusives among some events, and their tallies, by one event more.
use Rattle.std.proofs.Common.{◌≡◌, ℕ, ◌+◌, ◌^◌, ◌<◌, ◌≤◌, ◌==◌, Bool, true, false, cond, Option, Some, None, List, [], ◌∷◌, ◌++◌, length, refl, sym, ap, subst, ◌∙◌, append_assoc, append-nil, length-append, arith}
use Rattle.std.proofs.lemmas.List.{nil_from_length}
use Rattle.std.proofs.lemmas.List.Elements.{filter-append}
use Rattle.std.proofs.lemmas.List.Sums.{count_by-le-length, length-filter, sum_by-append}
use Rattle.history.specs.declared.entry.Deed.{Deed}
use Rattle.history.specs.declared.entry.Deed.TheVariants as deed
use Rattle.run_explainer.specs.Attempts.{attempt_in, attempts_at, attempts_from, attempts_of, count_of, has_come_back, is_otherwise, is_stored, is_without, is_written, outcome_by, outcome_of, tally_of}
use Rattle.run_explainer.specs.inner.Steps.{CanTally, counted, is_attempt, sum_of}
use Rattle.run_explainer.specs.declared.attempts.Attempt.{Attempt}
use Rattle.run_explainer.specs.declared.attempts.Outcome.{Outcome}
use Rattle.run_explainer.specs.declared.attempts.Outcome.TheVariants.{Stored, Failed}
use Rattle.run_explainer.specs.declared.events.Event.{Event}
use Rattle.run_explainer.specs.declared.reasons.Why.TheVariants.{NoLoadExclusive, AnotherRow, EndedItself, Written, Otherwise}
use Rattle.run_explainer.specs.declared.tallies.Tally.{Tally}

-- ---- attempts

-- those of some events and of others behind them
pub attempts_split : (granule : ℕ) (before events others : List Event)
    → attempts_from granule before (events ++ others) ≡ attempts_from granule before events ++ attempts_from granule (before ++ events) others
attempts_split granule before [] others = ap (λ b. attempts_from granule b others) (sym (append-nil before))
attempts_split granule before (first ∷ events) others =
    let here = attempt_in first (outcome_of granule before first) in
    let rest = attempts_from granule (before ++ first ∷ []) events in
    ap (λ l. here ++ l) (attempts_split granule (before ++ first ∷ []) events others)
    ∙ sym (append_assoc here rest (attempts_from granule ((before ++ first ∷ []) ++ events) others))
    ∙ ap (λ b. (here ++ rest) ++ attempts_from granule b others) (append_assoc before (first ∷ []) events)

-- those of one event more
pub attempts_more : (granule : ℕ) (seen : List Event) (event : Event)
    → attempts_of granule (seen ++ event ∷ []) ≡ attempts_of granule seen ++ attempt_in event (outcome_of granule seen event)
attempts_more granule seen event =
    attempts_split granule [] seen (event ∷ []) ∙ ap (λ l. attempts_of granule seen ++ l) (append-nil (attempt_in event (outcome_of granule seen event)))

-- an event that is no store-exclusive has no outcome
pub no_outcome : (granule : ℕ) (seen : List Event) (event : Event) → is_attempt event.access.deed ≡ false → outcome_of granule seen event ≡ None
no_outcome granule seen event other = by_deed event.access.deed other
  where
    by_deed : (made : Deed) → is_attempt made ≡ false → outcome_by granule seen event made ≡ None
    by_deed deed.Load other = refl
    by_deed deed.LoadEx other = refl
    by_deed deed.Store other = refl
    by_deed deed.StoreEx other = cc
    by_deed deed.StoreFail other = cc
    by_deed deed.Clear other = refl

attempt_few : (event : Event) (outcome : Option Outcome) → length (attempt_in event outcome) ≤ 1
attempt_few event None = omega arith
attempt_few event (Some outcome) = omega arith

attempts_few_from : (granule : ℕ) (before events : List Event) → length (attempts_from granule before events) ≤ length events
attempts_few_from granule before [] = omega arith
attempts_few_from granule before (event ∷ events) =
    let here = attempt_in event (outcome_of granule before event) in
    let one = attempt_few event (outcome_of granule before event) in
    let rest = attempts_few_from granule (before ++ event ∷ []) events in
    let both = length-append here (attempts_from granule (before ++ event ∷ []) events) in
    omega (arith, one, rest, both)

-- there are no more than events
pub attempts_few : (granule : ℕ) (seen : List Event) → length (attempts_of granule seen) ≤ length seen
attempts_few granule seen = attempts_few_from granule [] seen

-- ---- tallies

abbrev tally_by : (stored written without otherwise came_back : ℕ) → Tally
tally_by stored written without otherwise came_back =
    record { stored = stored; written = written; without = without; otherwise = otherwise; came_back = came_back }

count_more : (test : Outcome → Bool) (attempts : List Attempt) (attempt : Attempt)
    → count_of test (attempts ++ attempt ∷ []) ≡ count_of test attempts + cond (test attempt.outcome) 1 0
count_more test attempts attempt = sum_by-append (λ (a : Attempt). cond (test a.outcome) 1 0) attempts (attempt ∷ []) ∙ omega arith

count_first : (test : Outcome → Bool) (attempt : Attempt) (attempts : List Attempt)
    → count_of test (attempt ∷ attempts) ≡ cond (test attempt.outcome) 1 0 + count_of test attempts
count_first test attempt attempts = sum_by-append (λ (a : Attempt). cond (test a.outcome) 1 0) (attempt ∷ []) attempts ∙ omega arith

-- the tally of one attempt more
pub tally_more : (attempts : List Attempt) (attempt : Attempt) → tally_of (attempts ++ attempt ∷ []) ≡ counted (tally_of attempts) attempt.outcome
tally_more attempts attempt =
    same_tally (tally_of (attempts ++ attempt ∷ [])) (counted (tally_of attempts) attempt.outcome)
    (count_more is_stored attempts attempt) (count_more is_written attempts attempt) (count_more is_without attempts attempt)
    (count_more is_otherwise attempts attempt) (count_more has_come_back attempts attempt)
  where
    same_tally : (one other : Tally) → one.stored ≡ other.stored → one.written ≡ other.written → one.without ≡ other.without → one.otherwise ≡ other.otherwise
        → one.came_back ≡ other.came_back → one ≡ other
    same_tally one other stored written without otherwise came_back =
        ap (λ n. tally_by n one.written one.without one.otherwise one.came_back) stored
        ∙ ap (λ n. tally_by other.stored n one.without one.otherwise one.came_back) written
        ∙ ap (λ n. tally_by other.stored other.written n one.otherwise one.came_back) without
        ∙ ap (λ n. tally_by other.stored other.written other.without n one.came_back) otherwise
        ∙ ap (tally_by other.stored other.written other.without other.otherwise) came_back

-- of the instruction at an address
pub tally_at_more : (addr : ℕ) (attempts : List Attempt) (attempt : Attempt) (here : Bool) → (attempt.event.sighting.pc == addr) ≡ here
    → tally_of (attempts_at addr (attempts ++ attempt ∷ [])) ≡ cond here (counted (tally_of (attempts_at addr attempts)) attempt.outcome) (tally_of (attempts_at addr attempts))
tally_at_more addr attempts attempt here is =
    ap tally_of (filter-append (λ (a : Attempt). a.event.sighting.pc == addr) attempts (attempt ∷ []))
    ∙ by_test (attempt.event.sighting.pc == addr) here is
  where
    by_test : (test here : Bool) → test ≡ here
        → tally_of (attempts_at addr attempts ++ cond test (attempt ∷ []) []) ≡ cond here (counted (tally_of (attempts_at addr attempts)) attempt.outcome) (tally_of (attempts_at addr attempts))
    by_test true true same = tally_more (attempts_at addr attempts) attempt
    by_test false false same = ap tally_of (append-nil (attempts_at addr attempts))
    by_test true false same = cc
    by_test false true same = cc

-- each attempt counts once
once : (outcome : Outcome) → cond (is_stored outcome) 1 0 + cond (is_written outcome) 1 0 + cond (is_without outcome) 1 0 + cond (is_otherwise outcome) 1 0 ≡ 1
once Stored = refl
once (Failed NoLoadExclusive) = refl
once (Failed (AnotherRow load)) = refl
once (Failed (EndedItself load own)) = refl
once (Failed (Written load writes came_back)) = refl
once (Failed (Otherwise load)) = refl

-- as many as were counted
pub sum_is : (attempts : List Attempt) → sum_of (tally_of attempts) ≡ length attempts
sum_is attempts = counts_are attempts
  where
    counts_are : (attempts : List Attempt)
        → count_of is_stored attempts + (count_of is_written attempts + count_of is_without attempts + count_of is_otherwise attempts) ≡ length attempts
    counts_are [] = refl
    counts_are (attempt ∷ attempts) =
        let one = once attempt.outcome in
        let rest = counts_are attempts in
        let stored = count_first is_stored attempt attempts in
        let written = count_first is_written attempt attempts in
        let without = count_first is_without attempt attempts in
        let otherwise = count_first is_otherwise attempt attempts in
        omega (arith, one, rest, stored, written, without, otherwise)

-- where so few were made, one more can be counted
pub can_tally : (attempts : List Attempt) → length attempts < 1000000 → CanTally (tally_of attempts)
can_tally attempts few = record {
  stored = fewer is_stored;
  written = fewer is_written;
  without = fewer is_without;
  otherwise = fewer is_otherwise;
  came_back = fewer has_come_back;
}
  where
    fewer : (test : Outcome → Bool) → count_of test attempts + 1 < 2 ^ 32
    fewer test = let most = count_by-le-length (λ (a : Attempt). test a.outcome) attempts in omega (arith, most, few)

-- those of one instruction are no more than all
pub at_few : (addr : ℕ) (attempts : List Attempt) → length (attempts_at addr attempts) ≤ length attempts
at_few addr attempts =
    let at = λ (a : Attempt). a.event.sighting.pc == addr in
    subst (λ n. n ≤ length attempts) (sym (length-filter at attempts)) (count_by-le-length at attempts)

-- where none was counted, none was made
pub none_made : (attempts : List Attempt) → sum_of (tally_of attempts) ≡ 0 → attempts ≡ []
none_made attempts none = nil_from_length attempts (sym (sum_is attempts) ∙ none)
