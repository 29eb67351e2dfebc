use Rattle.history.proofs.Steps.{reservation_of-standing}
use Rattle.history.proofs.laws.reservation_is_the_fold.Goals as goal

pub returns : goal.returns
returns c = λ size. reservation_of-standing size c.args.thread c.args.bytes.now c.args.history.now
