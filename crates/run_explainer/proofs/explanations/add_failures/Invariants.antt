use Rattle.std.proofs.Common.{◌≡◌, ◌<◌, All, length}
use Rattle.run_explainer.specs.declared.events.Event.{Event}
use Rattle.run_explainer.proofs.Paged.{IsAmid}
use Rattle.run_explainer.proofs.explanations.add_failures.Given as goal

-- some of the events were taken in, and what is said of them stands where it is to
abbrev pub invariant-loop-event : goal.invariant-loop-event
invariant-loop-event g l = record {
  amid : IsAmid g.H.Host l.initial.host l.host l.fn.shown l.fn.explainer.granule l.fn.page l.page l.fn.events l.events l.explainer;
  program : l.shown ≡ l.fn.shown;
  granule : l.explainer.granule ≡ l.fn.explainer.granule;
  numbers : length l.explainer.reservations.items ≡ length l.fn.explainer.reservations.items;
  words : length l.explainer.tallies.items ≡ length l.fn.explainer.tallies.items;
  threads : All (λ (event : Event). event.access.thread < length l.fn.explainer.reservations.items) l.events;
}

abbrev pub decreases-loop-event : goal.decreases-loop-event
decreases-loop-event g l = length l.events
