use Rattle.std.proofs.Common.{◌≡◌, sym, ap, ◌∙◌, rules}
use Rattle.a32_instr.specs.declared.arithmetic.Computed.{Computed}
use Rattle.a32_instr.specs.DataProcessing.{computed}
use Rattle.a32_step.specs.RowActs.{x_in}
use Rattle.a32_step.specs.inner.Progress.{progress_of}
use Rattle.a32_step.specs.inner.ExecutionState.{moves}
use Rattle.a32_step.proofs.RowDone.{data_done}
use Rattle.a32_step.proofs.execution.Execution.data.Goals as goal

pub returns-clause-full : goal.returns-clause-full
returns-clause-full c =
    let all : Computed = computed c.args.op (x_in c.args.kept.now c.args.self.now.state) c.args.y c.args.self.now.state.flags in
    let is : c.value_of-value.result ≡ all.value = search rules in
    ap progress_of (data_done c.args.op c.args.kept.now.d all c.args.self.now.state c.value_of-value.result c.requires c.put.ensures.low is)

pub returns-clause-state : goal.returns-clause-state
returns-clause-state c =
    let all : Computed = computed c.args.op (x_in c.args.kept.now c.args.self.now.state) c.args.y c.args.self.now.state.flags in
    let is : c.value_of-value.result ≡ all.value = search rules in
    c.put.ensures.state ∙ ap (moves c.args.self.now) (sym (data_done c.args.op c.args.kept.now.d all c.args.self.now.state c.value_of-value.result c.requires c.put.ensures.low is))
