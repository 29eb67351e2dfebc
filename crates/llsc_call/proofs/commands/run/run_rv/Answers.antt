use Rattle.std.proofs.Common.{inr, subst, sym}
use Rattle.version_memory.specs.Memory.{story_history}
use Rattle.llsc_words.specs.declared.sets.SetName.TheVariants.{Rv32}
use Rattle.llsc_call.specs.inner.Outcome.{GivesBy}
use Rattle.llsc_call.specs.Run.{ReportsRun}
use Rattle.llsc_call.proofs.RunAnswers.{reported_rv}
use Rattle.llsc_call.proofs.Statuses.{all_done}
use Rattle.llsc_call.proofs.commands.run.run_rv.Goals as goal

pub returns : goal.returns
returns g c first spare =
    let done = c.in-Ok.done in
    let ran = c.in-Ok.ensures in
    subst (λ a. GivesBy (λ story. ReportsRun Rv32 story c.args.image.now c.args.size.now first spare c.args.budget) a.outcome a.story) (sym c.of_threads.ensures) (inr (record {
      sayable = ran.sums;
      done = all_done done.ends.items;
      is = reported_rv c.args.image.now c.args.size.now first spare c.args.budget (story_history done.story) done.ends.items done.rows ran;
    }))
