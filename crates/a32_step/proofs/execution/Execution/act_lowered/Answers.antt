-- The row of an instruction does what that does.
use Rattle.a32_instr.specs.Effect.{acts}
use Rattle.a32_step.specs.declared.phases.Came.TheVariants.{Held}
use Rattle.a32_step.proofs.Acting.{acted_same}
use Rattle.a32_step.proofs.CameOf.{come_complete, come_held, come_neither}
use Rattle.std.proofs.Common.{refl, sym}
use Rattle.a32_step.proofs.execution.Execution.act_lowered.Goals as goal

pub unreachable-requires : goal.unreachable-requires
unreachable-requires g c = come_neither c.come.result c.come.new.self c.come.new.source c.requires.right.whole c.come.ensures.came c.in-Unmet.is

pub returns-in-Next-clause-acted : goal.returns-in-Next-clause-acted
returns-in-Next-clause-acted g c =
    acted_same (λ had. acts c.args.lowered.now.instr c.args.image.now had c.args.self.now.state) (λ had. sym (c.requires.right.does c.args.image.now had c.args.self.now.state))
    (come_complete c.come.result c.come.new.self c.come.new.source c.come.ensures.came c.in-Next.is)

pub returns-in-Held-clause-acted : goal.returns-in-Held-clause-acted
returns-in-Held-clause-acted g c =
    acted_same (λ had. acts c.args.lowered.now.instr c.args.image.now had c.args.self.now.state) (λ had. sym (c.requires.right.does c.args.image.now had c.args.self.now.state))
    (come_held Held c.come.new.self c.come.new.source c.in-Held.ensures.came refl).1
