use Rattle.history.proofs.Held.{store_finds}
use Rattle.history.proofs.laws.successful_stores_find_what_was_read.Goals as goal

pub returns : goal.returns
returns c = store_finds c.args.granule c.args.bytes.now c.args.threads c.args.thread c.args.place c.args.value c.args.front.now c.args.back.now c.requires
