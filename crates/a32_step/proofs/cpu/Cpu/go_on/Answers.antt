use Rattle.std.proofs.Common.{sym, ap}
use Rattle.a32_instr.specs.Effect.{acts}
use Rattle.a32_step.specs.declared.lowered.Lowered.{Lowered}
use Rattle.a32_step.proofs.Acting.{acted_alone}
use Rattle.a32_step.proofs.ExecutionStates.{acted_stands, acted_wants}
use Rattle.a32_step.proofs.cpu.Cpu.go_on.Goals as goal

pub returns-clause-wanted : goal.returns-clause-wanted
returns-clause-wanted c =
    let alone = acted_alone (λ had. acts c.lowered-lowered.result.now.instr c.args.image.now had c.self.inside.execution.state) c.act_lowered-progress.ensures.acted in
    acted_wants c.args.image.now c.args.self.now c.begin.new.self c.self.inside.held.lowered.instr c.lowered-lowered.result.now.instr c.self.inside.execution c.act_lowered-progress.new.self c.act_lowered-progress.result c.settle.result
    (sym c.self.view_is) c.in_default.ensures.begun (ap (λ (l : Lowered). l.instr) c.lowered-lowered.ensures.lowered) alone.came alone.wants c.settle.ensures.wanted

pub returns-clause-state : goal.returns-clause-state
returns-clause-state c =
    let alone = acted_alone (λ had. acts c.lowered-lowered.result.now.instr c.args.image.now had c.self.inside.execution.state) c.act_lowered-progress.ensures.acted in
    acted_stands c.args.image.now c.args.self.now c.begin.new.self c.self.inside.held.lowered.instr c.lowered-lowered.result.now.instr c.self.inside.execution c.act_lowered-progress.new.self c.settle.new.self c.act_lowered-progress.result
    (sym c.self.view_is) c.in_default.ensures.begun (ap (λ (l : Lowered). l.instr) c.lowered-lowered.ensures.lowered) alone.came alone.stands c.settle.ensures.state
