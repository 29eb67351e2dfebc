use Rattle.std.proofs.Common.{length}
use Rattle.guest_trials.proofs.tests.guests.ended.Goals as goal

pub loop-ask-preserved : goal.loop-ask-preserved
loop-ask-preserved c = c.give.ensures.ready (length c.args.image.now.bytes) c.args.budget c.in-Asks.ensures.pending.waiting
