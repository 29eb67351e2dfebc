use Rattle.std.proofs.Common.{ap, ◌∙◌}
use Rattle.run_explainer.specs.Text.{explanation}
use Rattle.run_explainer.proofs.explanations.Explanation.new.Goals as goal

pub returns : goal.returns
returns c =
    ap (λ program. explanation c.in_ok-explainer.explainer.granule program c.args.run.accesses c.args.sightings) c.in_ok-shown.ensures
    ∙ ap (λ granule. explanation granule c.args.image c.args.run.accesses c.args.sightings) c.in_ok-explainer.ensures.granule
