use Rattle.std.proofs.Common.{true, false, sym, ap, ◌∙◌}
use Rattle.llsc_base.specs.declared.access.Size.TheVariants.{B1, B4}
use Rattle.a32_instr.specs.LoadStore.{part_of, stores, word, written_back}
use Rattle.a32_step.proofs.Acting.{acted_same}
use Rattle.a32_step.proofs.Places.{word_is}
use Rattle.a32_step.proofs.execution.Execution.access_word.Goals as goal

pub returns-then-byte-clause-acted : goal.returns-then-byte-clause-acted
returns-then-byte-clause-acted g c =
    acted_same (λ had. word c.args.image.now c.args.load c.args.byte c.args.index c.args.rn c.args.rt c.args.offset.now had c.args.self.now.state)
    (λ had. word_is c.args.image.now c.args.self.now.state c.args.index c.args.rn c.args.rt c.args.offset.now c.aim-addr.result.addr c.aim-addr.result.moved
    c.aim-addr.ensures.moved c.aim-addr.ensures.addr had c.args.load c.args.byte true true c.if-load.true c.if-byte.true)
    c.load.ensures.acted

pub returns-then-load-clause-acted : goal.returns-then-load-clause-acted
returns-then-load-clause-acted g c =
    acted_same (λ had. word c.args.image.now c.args.load c.args.byte c.args.index c.args.rn c.args.rt c.args.offset.now had c.args.self.now.state)
    (λ had. word_is c.args.image.now c.args.self.now.state c.args.index c.args.rn c.args.rt c.args.offset.now c.aim-addr.result.addr c.aim-addr.result.moved
    c.aim-addr.ensures.moved c.aim-addr.ensures.addr had c.args.load c.args.byte true false c.if-load.true c.if-byte.false)
    c.load-then-load.ensures.acted

pub returns-then-byte-2-clause-acted : goal.returns-then-byte-2-clause-acted
returns-then-byte-2-clause-acted g c =
    acted_same (λ had. word c.args.image.now c.args.load c.args.byte c.args.index c.args.rn c.args.rt c.args.offset.now had c.args.self.now.state)
    (λ had. word_is c.args.image.now c.args.self.now.state c.args.index c.args.rn c.args.rt c.args.offset.now c.aim-addr.result.addr c.aim-addr.result.moved
    c.aim-addr.ensures.moved c.aim-addr.ensures.addr had c.args.load c.args.byte false true c.if-load.false c.if-byte-2.true
    ∙ ap (λ v. stores c.args.image.now (record { addr = c.aim-addr.result.addr; size = B1 }) (written_back c.args.index c.args.rn c.aim-addr.result.moved c.args.self.now.state) v had c.args.self.now.state) (sym (c.part_stored.ensures.part ∙ ap (part_of true) c.operand-value.ensures)))
    c.store.ensures.acted

pub returns-clause-acted : goal.returns-clause-acted
returns-clause-acted g c =
    acted_same (λ had. word c.args.image.now c.args.load c.args.byte c.args.index c.args.rn c.args.rt c.args.offset.now had c.args.self.now.state)
    (λ had. word_is c.args.image.now c.args.self.now.state c.args.index c.args.rn c.args.rt c.args.offset.now c.aim-addr.result.addr c.aim-addr.result.moved
    c.aim-addr.ensures.moved c.aim-addr.ensures.addr had c.args.load c.args.byte false false c.if-load.false c.if-byte-2.false
    ∙ ap (λ v. stores c.args.image.now (record { addr = c.aim-addr.result.addr; size = B4 }) (written_back c.args.index c.args.rn c.aim-addr.result.moved c.args.self.now.state) v had c.args.self.now.state) (sym (c.part_stored-2.ensures.part ∙ ap (part_of false) c.operand-value.ensures)))
    c.store-2.ensures.acted
