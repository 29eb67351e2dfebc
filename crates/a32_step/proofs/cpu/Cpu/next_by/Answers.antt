use Rattle.a32_step.proofs.Follows.{next_follows}
use Rattle.a32_step.proofs.Tested.{next_tested}
use Rattle.a32_step.proofs.cpu.Cpu.next_by.Goals as goal

pub returns-clause-follows : goal.returns-clause-follows
returns-clause-follows c = next_follows c.args.image.now c.args.self.now c.go_on.result c.go_on.new.self c.requires c.go_on.ensures.wanted c.go_on.ensures.state

pub returns-clause-tested : goal.returns-clause-tested
returns-clause-tested c = next_tested c.args.image.now c.args.self.now c.go_on.result c.go_on.ensures.words c.go_on.ensures.begins c.requires c.go_on.ensures.wanted
