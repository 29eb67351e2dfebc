-- What is known of the events that accesses and their sightings make.
use Rattle.std.proofs.Common.{ℕ, ◌+◌, ◌<◌, ◌≤◌, All, List, [], ◌∷◌, length, refl, arith}
use Rattle.std.proofs.lemmas.List.Elements.{All-head, All-rest, All-cons}
use Rattle.history.specs.declared.entry.Access.{Access}
use Rattle.run_checker.specs.declared.sightings.Sighting.{Sighting}
use Rattle.run_explainer.specs.Events.{events_from}
use Rattle.run_explainer.specs.declared.events.Event.{Event}

-- there are no more than accesses
pub events_few : (index : ℕ) (accesses : List Access) (sightings : List Sighting) → length (events_from index accesses sightings) ≤ length accesses
events_few index [] sightings = omega arith
events_few index (access ∷ accesses) [] = omega arith
events_few index (access ∷ accesses) (sighting ∷ sightings) = let rest = events_few (index + 1) accesses sightings in omega (arith, rest)

-- their threads are those of the accesses
pub events_known : (threads index : ℕ) (accesses : List Access) (sightings : List Sighting) → All (λ (access : Access). access.thread < threads) accesses
    → All (λ (event : Event). event.access.thread < threads) (events_from index accesses sightings)
events_known threads index [] sightings known = λ k d less. absurd (omega (arith, less))
events_known threads index (access ∷ accesses) [] known = λ k d less. absurd (omega (arith, less))
events_known threads index (access ∷ accesses) (sighting ∷ sightings) known =
    let P : Event → Type 0 = λ event. event.access.thread < threads in
    let Q : Access → Type 0 = λ a. a.thread < threads in
    All-cons P _ (events_from (index + 1) accesses sightings) (All-head Q access accesses known)
    (events_known threads (index + 1) accesses sightings (All-rest Q access accesses (access ∷ accesses) refl known))
