use Rattle.std.proofs.Common.{rules, ◌≡◌, refl}
use Rattle.a32_instr.specs.Branch.{branched}
use Rattle.a32_step.proofs.Acts.{acted, acted_now}
use Rattle.a32_step.proofs.execution.Execution.act.Goals as goal

pub returns-in-Alu : goal.returns-in-Alu
returns-in-Alu g c = record { acted = acted_now c.args.image.now c.args.self.now c.in-Alu.is c.alu.ensures.progress c.alu.ensures.state; mem = refl; counted = search rules }

pub returns-in-Movw : goal.returns-in-Movw
returns-in-Movw g c = record { acted = acted_now c.args.image.now c.args.self.now c.in-Movw.is c.move_wide.ensures.progress c.move_wide.ensures.state; mem = refl; counted = search rules }

pub returns-in-Movt : goal.returns-in-Movt
returns-in-Movt g c = record { acted = acted_now c.args.image.now c.args.self.now c.in-Movt.is c.move_top.ensures.progress c.move_top.ensures.state; mem = refl; counted = search rules }

pub returns-in-Nop : goal.returns-in-Nop
returns-in-Nop g c = record { acted = acted_now c.args.image.now c.args.self.now c.in-Nop.is c.advance.ensures.progress c.advance.ensures.state; mem = refl; counted = search rules }

pub returns-in-Yield : goal.returns-in-Yield
returns-in-Yield g c = record { acted = acted_now c.args.image.now c.args.self.now c.in-Yield.is c.advance-in-Yield.ensures.progress c.advance-in-Yield.ensures.state; mem = refl; counted = search rules }

pub returns-in-Barrier : goal.returns-in-Barrier
returns-in-Barrier g c = record { acted = acted_now c.args.image.now c.args.self.now c.in-Barrier.is c.advance-in-Barrier.ensures.progress c.advance-in-Barrier.ensures.state; mem = refl; counted = search rules }

pub returns-in-Mul : goal.returns-in-Mul
returns-in-Mul g c = record { acted = acted_now c.args.image.now c.args.self.now c.in-Mul.is c.multiply.ensures.progress c.multiply.ensures.state; mem = refl; counted = search rules }

pub returns-in-Mla : goal.returns-in-Mla
returns-in-Mla g c = record { acted = acted_now c.args.image.now c.args.self.now c.in-Mla.is c.multiply_and_add.ensures.progress c.multiply_and_add.ensures.state; mem = refl; counted = search rules }

pub returns-in-Mls : goal.returns-in-Mls
returns-in-Mls g c = record { acted = acted_now c.args.image.now c.args.self.now c.in-Mls.is c.multiply_and_subtract.ensures.progress c.multiply_and_subtract.ensures.state; mem = refl; counted = search rules }

pub returns-in-Long : goal.returns-in-Long
returns-in-Long g c = record { acted = acted_now c.args.image.now c.args.self.now c.in-Long.is c.multiply_long.ensures.progress c.multiply_long.ensures.state; mem = refl; counted = search rules }

pub returns-in-Clz : goal.returns-in-Clz
returns-in-Clz g c = record { acted = acted_now c.args.image.now c.args.self.now c.in-Clz.is c.count_zeros.ensures.progress c.count_zeros.ensures.state; mem = refl; counted = search rules }

pub returns-in-Extend : goal.returns-in-Extend
returns-in-Extend g c = record { acted = acted_now c.args.image.now c.args.self.now c.in-Extend.is c.extend.ensures.progress c.extend.ensures.state; mem = refl; counted = search rules }

pub returns-in-Rev : goal.returns-in-Rev
returns-in-Rev g c = record { acted = acted_now c.args.image.now c.args.self.now c.in-Rev.is c.reverse.ensures.progress c.reverse.ensures.state; mem = refl; counted = search rules }

pub returns-in-Word-clause-acted : goal.returns-in-Word-clause-acted
returns-in-Word-clause-acted g c = acted c.args.image.now c.args.self.now c.in-Word.is c.access_word.ensures.acted

pub returns-in-Half-clause-acted : goal.returns-in-Half-clause-acted
returns-in-Half-clause-acted g c = acted c.args.image.now c.args.self.now c.in-Half.is c.access_half.ensures.acted

pub returns-in-Block-clause-acted : goal.returns-in-Block-clause-acted
returns-in-Block-clause-acted g c = acted c.args.image.now c.args.self.now c.in-Block.is c.access_block.ensures.acted

pub returns-in-Branch : goal.returns-in-Branch
returns-in-Branch g c =
    let moved : c.branch-self.new.self ≡ record c.args.self.now { state = branched c.in-Branch.link c.in-Branch.words c.args.self.now.state } = search rules in
    record { acted = acted_now c.args.image.now c.args.self.now c.in-Branch.is c.branch-self.ensures.progress moved; mem = refl; counted = search rules }

pub returns-in-BranchReg : goal.returns-in-BranchReg
returns-in-BranchReg g c = record { acted = acted_now c.args.image.now c.args.self.now c.in-BranchReg.is c.branch_by_register.ensures.progress c.branch_by_register.ensures.state; mem = refl; counted = search rules }

pub returns-in-Svc : goal.returns-in-Svc
returns-in-Svc g c = record { acted = acted_now c.args.image.now c.args.self.now c.in-Svc.is c.call.ensures.progress c.call.ensures.state; mem = refl; counted = search rules }

pub returns-in-LoadEx-clause-acted : goal.returns-in-LoadEx-clause-acted
returns-in-LoadEx-clause-acted g c = acted c.args.image.now c.args.self.now c.in-LoadEx.is c.load_exclusive.ensures.acted

pub returns-in-StoreEx-clause-acted : goal.returns-in-StoreEx-clause-acted
returns-in-StoreEx-clause-acted g c = acted c.args.image.now c.args.self.now c.in-StoreEx.is c.store_exclusive.ensures.acted

pub returns-in-Clrex-clause-acted : goal.returns-in-Clrex-clause-acted
returns-in-Clrex-clause-acted g c = acted c.args.image.now c.args.self.now c.in-Clrex.is c.clear_exclusive.ensures.acted
