use Rattle.std.proofs.Common.{◌++◌}
use Rattle.llsc_host.proofs.Kept.{broke_first}
use Rattle.run_explainer.specs.Text.{outcome_text}
use Rattle.run_explainer.proofs.Paged.{goes_stopped}
use Rattle.run_explainer.proofs.explanations.add_failure.Goals as goal

pub returns-in_err-make_room-clause-text : goal.returns-in_err-make_room-clause-text
returns-in_err-make_room-clause-text g c =
    let said = outcome_text c.args.shown.now c.args.event.now c.args.outcome.now in
    goes_stopped g.H.Host c.args.host.now c.make_room.new.host c.make_room.new.page (c.args.page.now ++ said) c.from_residual.result _ c.from_residual.ensures.1
    (broke_first g.H.Host c.args.host.now c.make_room.new.host c.args.page.now said c.in_err-make_room.ensures.pages)
