use Rattle.guest_core.proofs.Follows.{follows_of}
use Rattle.rv32_guest.specs.Machine.{rv32}
use Rattle.rv32_guest.proofs.cpu.RvCpu.next.Goals as goal

pub returns-clause-follows : goal.returns-clause-follows
returns-clause-follows c = follows_of rv32 c.args.image.now c.args.self.now c.go_on.result c.go_on.new.self c.requires c.go_on.ensures.wanted c.go_on.ensures.state
