use Rattle.history.proofs.Flags.{overtaken-standing, passed-standing, stirred-standing}
use Rattle.history.proofs.laws.causes_are_the_fold.Goals as goal

pub returns-clause-passed : goal.returns-clause-passed
returns-clause-passed c = λ size reserved. passed-standing size c.args.thread c.args.row c.args.bytes.now c.args.history.now reserved

pub returns-clause-overtaken : goal.returns-clause-overtaken
returns-clause-overtaken c = λ size reserved. overtaken-standing size c.args.thread c.args.row c.args.bytes.now c.args.history.now reserved

pub returns-clause-stirred : goal.returns-clause-stirred
returns-clause-stirred c = λ size reserved. stirred-standing size c.args.thread c.args.row c.args.bytes.now c.args.history.now reserved
