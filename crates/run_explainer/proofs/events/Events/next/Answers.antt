use Rattle.std.proofs.Common.{◌%◌, ◌≡◌, arith}
use Rattle.std.proofs.lemmas.List.Elements.{All-rest}
use Rattle.run_checker.specs.declared.sightings.Sighting.{Sighting}
use Rattle.run_explainer.proofs.events.Events.next.Goals as goal

pub invariant_of-self : goal.invariant_of-self
invariant_of-self c =
    let few = c.self.invariant.0 in
    let shorter = c.in_ok-access.ensures.cases.1 in (
      omega (arith, few, shorter),
      All-rest (λ (sighting : Sighting). sighting.pc % 4 ≡ 0) c.in_ok-sighting.sighting.now c.in_ok-sighting.sightings.now c.self.inside.sightings.now c.in_ok-sighting.ensures.cases.0 c.self.invariant.1,
    )
