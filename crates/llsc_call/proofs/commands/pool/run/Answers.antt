use Rattle.std.proofs.Common.{inr, subst, sym, refl}
use Rattle.std.proofs.Math.Nat.{mul-one}
use Rattle.version_memory.specs.Memory.{story_history}
use Rattle.llsc_call.proofs.Closed.{unstarted}
use Rattle.llsc_words.specs.declared.sets.SetName.TheVariants.{A32}
use Rattle.llsc_call.specs.inner.Outcome.{GivesBy}
use Rattle.llsc_call.specs.Run.{ReportsRun}
use Rattle.llsc_call.proofs.RunAnswers.{reported}
use Rattle.llsc_call.proofs.Statuses.{all_done}
use Rattle.llsc_call.proofs.commands.pool.run.Goals as goal

pub returns : goal.returns
returns g c =
    let program = c.args.image.now in
    let size = c.args.size.now in
    let budget = c.args.budget in
    let done = c.in-Ok.done in
    let history = story_history done.story in
    let ran = c.in-Ok.ensures in
    subst (λ a. GivesBy (λ story. ReportsRun A32 story program size size.threads 0 budget) a.outcome a.story) (sym c.of_threads.ensures) (inr (record {
      sayable = ran.sums;
      done = all_done done.ends.items;
      is = reported program size size.threads 0 budget history done.ends.items done.rows
          (unstarted program size budget size.threads 0 history done.ends.items done.rows refl (mul-one size.threads) ran);
    }))
