use Rattle.rv32_guest.proofs.OthersAskNothing.{others_ask_nothing}
use Rattle.rv32_guest.proofs.registers.Registers.access.Goals as goal

pub returns-in_default-clause-makes_none : goal.returns-in_default-clause-makes_none
returns-in_default-clause-makes_none c =
    let none = c.in_default in
    others_ask_nothing c.args.instr.now (record {
      not_lb = none.not-Lb;
      not_lh = none.not-Lh;
      not_lw = none.not-Lw;
      not_lbu = none.not-Lbu;
      not_lhu = none.not-Lhu;
      not_sb = none.not-Sb;
      not_sh = none.not-Sh;
      not_sw = none.not-Sw;
      not_lr_w = none.not-LrW;
      not_sc_w = none.not-ScW;
    })
