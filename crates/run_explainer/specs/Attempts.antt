-- The store-exclusives of a record, each with what came of it, and how many of them came out in which way.
use Rattle.std.specs.Prelude.{ℕ, ◌==◌, Bool, true, false, Option, Some, None, List, [], ◌∷◌, ◌++◌}
use Rattle.std.specs.List.{count_by, filter}
use Rattle.history.specs.declared.entry.Deed.{Deed}
use Rattle.history.specs.declared.entry.Deed.TheVariants as deed
use Rattle.run_explainer.specs.Reasons.{why_of}
use Rattle.run_explainer.specs.declared.events.Event.{Event}
use Rattle.run_explainer.specs.declared.attempts.Attempt.{Attempt}
use Rattle.run_explainer.specs.declared.attempts.Outcome.{Outcome}
use Rattle.run_explainer.specs.declared.attempts.Outcome.TheVariants.{Stored, Failed}
use Rattle.run_explainer.specs.declared.reasons.Why.{Why}
use Rattle.run_explainer.specs.declared.reasons.Why.TheVariants.{NoLoadExclusive, AnotherRow, EndedItself, Written, Otherwise}
use Rattle.run_explainer.specs.declared.tallies.Tally.{Tally}

-- the outcome of an event that is a store-exclusive, by the events before it
abbrev pub outcome_by : (granule : ℕ) → List Event → Event → Deed → Option Outcome
outcome_by granule before event deed.StoreEx = Some Stored
outcome_by granule before event deed.StoreFail = Some (Failed (why_of granule before event))
outcome_by granule before event _ = None

abbrev pub outcome_of : (granule : ℕ) → List Event → Event → Option Outcome
outcome_of granule before event = outcome_by granule before event event.access.deed

-- an attempt, where an event is one
abbrev pub attempt_in : Event → Option Outcome → List Attempt
attempt_in event None = []
attempt_in event (Some outcome) = record { event = event; outcome = outcome } ∷ []

-- the attempts among some events, behind those before them
abbrev pub attempts_from : (granule : ℕ) → List Event → List Event → List Attempt
attempts_from granule before [] = []
attempts_from granule before (event ∷ events) =
    attempt_in event (outcome_of granule before event) ++ attempts_from granule (before ++ event ∷ []) events

-- those of all events
abbrev pub attempts_of : (granule : ℕ) → List Event → List Attempt
attempts_of granule events = attempts_from granule [] events

-- ---- how many came out in which way

abbrev pub is_stored : Outcome → Bool
is_stored Stored = true
is_stored (Failed why) = false

-- failed to others' writes
abbrev pub is_written_by : Why → Bool
is_written_by (Written load writes came_back) = true
is_written_by _ = false

abbrev pub is_written : Outcome → Bool
is_written Stored = false
is_written (Failed why) = is_written_by why

-- failed where its thread had no reservation of the row, or had ended it itself
abbrev pub is_without_by : Why → Bool
is_without_by NoLoadExclusive = true
is_without_by (AnotherRow load) = true
is_without_by (EndedItself load own) = true
is_without_by _ = false

abbrev pub is_without : Outcome → Bool
is_without Stored = false
is_without (Failed why) = is_without_by why

abbrev pub is_otherwise_by : Why → Bool
is_otherwise_by (Otherwise load) = true
is_otherwise_by _ = false

abbrev pub is_otherwise : Outcome → Bool
is_otherwise Stored = false
is_otherwise (Failed why) = is_otherwise_by why

-- failed to others' writes, where a comparison of values would have let it succeed
abbrev pub has_come_back_by : Why → Bool
has_come_back_by (Written load writes came_back) = came_back
has_come_back_by _ = false

abbrev pub has_come_back : Outcome → Bool
has_come_back Stored = false
has_come_back (Failed why) = has_come_back_by why

-- the attempts whose outcome passes a test
abbrev pub count_of : (Outcome → Bool) → List Attempt → ℕ
count_of test attempts = count_by (λ attempt. test attempt.outcome) attempts

abbrev pub tally_of : List Attempt → Tally
tally_of attempts = record {
  stored = count_of is_stored attempts;
  written = count_of is_written attempts;
  without = count_of is_without attempts;
  otherwise = count_of is_otherwise attempts;
  came_back = count_of has_come_back attempts;
}

-- those made by the instruction at an address
abbrev pub attempts_at : ℕ → List Attempt → List Attempt
attempts_at addr attempts = filter (λ attempt. attempt.event.sighting.pc == addr) attempts
