-- The registers that are left get their replies.
use Rattle.std.proofs.Common.{◌≡◌, ◌-◌}
use Rattle.a32_instr.specs.Block.{registers_of, loaded}
use Rattle.a32_compute.specs.Lists.{AreLeft, highest}
use Rattle.a32_step.proofs.execution.Execution.set_listed.Given as goal

abbrev pub invariant-loop-r : goal.invariant-loop-r
invariant-loop-r l =
    (loaded (highest l.list (16 - l.r)) l.list l.initial.self.replies l.self.state.regs ≡ loaded (registers_of l.list) l.list l.initial.self.replies l.initial.self.state.regs)
    × (l.self ≡ record l.initial.self { state = record l.initial.self.state { regs = l.self.state.regs } })
    × AreLeft l.list l.r l.number
