use Rattle.std.proofs.Common.{sym}
use Rattle.history.proofs.Classes.{edges_of-standing, holder-standing, name-standing}
use Rattle.history.proofs.Flags.{writes_in_class-standing}
use Rattle.history.proofs.laws.classes_are_the_fold.Goals as goal

pub returns-clause-writes : goal.returns-clause-writes
returns-clause-writes c = λ size. sym (writes_in_class-standing size c.args.row c.args.bytes.now c.args.history.now)

pub returns-clause-edges : goal.returns-clause-edges
returns-clause-edges c = λ size. sym (edges_of-standing size c.args.row c.args.bytes.now c.args.history.now)

pub returns-clause-holder : goal.returns-clause-holder
returns-clause-holder c = λ size. sym (holder-standing size c.args.row c.args.bytes.now c.args.history.now)

pub returns-clause-name : goal.returns-clause-name
returns-clause-name c = λ size. sym (name-standing size c.args.row c.args.bytes.now c.args.history.now)
