use Rattle.std.proofs.lemmas.Result.{IfOk-weaker}
use Rattle.version_memory.specs.Memory.{story_history}
use Rattle.a32_step.specs.Machine.{a32}
use Rattle.llsc_call.specs.Beside.{HaveRun, HaveRunFrom}
use Rattle.llsc_call.proofs.Closed.{unstarted}
use Rattle.llsc_call.proofs.commands.run.run_threads.Goals as goal

pub returns-then-spare-eq0 : goal.returns-then-spare-eq0
returns-then-spare-eq0 g c =
    let program = c.args.image.now in
    let size = c.args.size.now in
    IfOk-weaker c.run_beside.result
    (λ done. HaveRun a32 program size c.args.budget (story_history done.story) done.ends.items done.rows)
    (λ done. HaveRunFrom program size c.args.first c.args.spare c.args.budget (story_history done.story) done.ends.items done.rows)
    (λ done ran. unstarted program size c.args.budget c.args.first c.args.spare (story_history done.story) done.ends.items done.rows c.if-spare-eq0.true c.requires.all ran)
    c.run_beside.ensures
