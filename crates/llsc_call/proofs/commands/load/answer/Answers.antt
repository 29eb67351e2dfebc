use Rattle.std.proofs.Common.{inr, Some}
use Rattle.version_memory.specs.Memory.{story_history}
use Rattle.llsc_call.specs.Load.{TellsLoad, load_refusal}
use Rattle.llsc_call.proofs.Outcomes.{one_as, run_clean, run_refused}
use Rattle.llsc_call.proofs.commands.load.answer.Goals as goal

pub returns-in-Err : goal.returns-in-Err
returns-in-Err g c =
    let n = c.args.numbers in
    run_refused (load_refusal n.threads n.rounds) (λ story. TellsLoad story n.seed n.threads n.rounds n.budget)
    c.from.result (c.from-in-Err).result.outcome (c.from-in-Err).result.story c.in-Err.refusal (c.from-in-Err).ensures.outcome (c.from-in-Err).ensures.story c.from.ensures c.in-Err.ensures.refused

pub returns : goal.returns
returns g c =
    let n = c.args.numbers in
    let history = story_history c.in-Ok-run_beside.done.story in
    inr (one_as c.outcome_of.result
    (λ s text tells. run_clean (load_refusal n.threads n.rounds) (λ story. TellsLoad story n.seed n.threads n.rounds n.budget) (Some history) s text c.in-Ok.ensures.loaded.sound tells)
    (c.outcome_of.ensures history (rw (c.in-Ok.ensures.loaded.image, c.in-Ok.ensures.loaded.sized) at c.in-Ok-run_beside.ensures)))
