use Rattle.history.proofs.Kept.{store_keeps}
use Rattle.history.proofs.laws.successful_stores_are_undisturbed.Goals as goal

pub returns : goal.returns
returns c = store_keeps c.args.granule c.args.bytes.now c.args.threads c.args.thread c.args.place c.args.value c.args.front.now c.args.back.now c.requires
