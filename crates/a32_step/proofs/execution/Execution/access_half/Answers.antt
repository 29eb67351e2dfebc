use Rattle.std.proofs.Common.{rules, ◌%◌, ◌^◌, ap, ◌∙◌}
use Rattle.a32_instr.specs.LoadStore.{half, written_back}
use Rattle.a32_step.proofs.Acting.{acted_same}
use Rattle.a32_step.proofs.Places.{half_is, strh_is, ldrh_is}
use Rattle.a32_step.proofs.execution.Execution.access_half.Goals as goal

pub returns-then-eq-clause-acted : goal.returns-then-eq-clause-acted
returns-then-eq-clause-acted g c =
    acted_same (λ had. half c.args.image.now c.args.kind c.args.index c.args.rn c.args.rt c.args.offset.now had c.args.self.now.state)
    (λ had. half_is c.args.image.now c.args.self.now.state c.args.index c.args.rn c.args.rt c.args.offset.now c.aim-addr.result.addr c.aim-addr.result.moved
    c.aim-addr.ensures.moved c.aim-addr.ensures.addr had c.args.kind
    ∙ strh_is c.args.image.now c.args.kind c.aim-addr.result.addr c.args.rt c.size_of_half.result c.half_stored-value.result (written_back c.args.index c.args.rn c.aim-addr.result.moved c.args.self.now.state) had c.args.self.now.state
    (search rules) c.size_of_half.ensures (c.half_stored-value.ensures ∙ ap (λ v. v % 2 ^ 16) c.operand.ensures))
    c.store.ensures.acted

pub returns-clause-acted : goal.returns-clause-acted
returns-clause-acted g c =
    acted_same (λ had. half c.args.image.now c.args.kind c.args.index c.args.rn c.args.rt c.args.offset.now had c.args.self.now.state)
    (λ had. half_is c.args.image.now c.args.self.now.state c.args.index c.args.rn c.args.rt c.args.offset.now c.aim-addr.result.addr c.aim-addr.result.moved
    c.aim-addr.ensures.moved c.aim-addr.ensures.addr had c.args.kind
    ∙ ldrh_is c.args.image.now c.args.kind c.aim-addr.result.addr c.args.rt c.size_of_half.result (written_back c.args.index c.args.rn c.aim-addr.result.moved c.args.self.now.state) had c.args.self.now.state (λ e. search rules) c.size_of_half.ensures)
    c.load_half.ensures.acted
