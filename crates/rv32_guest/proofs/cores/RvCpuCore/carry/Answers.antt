use Rattle.std.proofs.Common.{ap}
use Rattle.rv32_guest.specs.Kept.{is_met}
use Rattle.rv32_guest.proofs.CarriedOn.{carried_alone, carried_on, found, unmet_on, with_registers}
use Rattle.rv32_guest.proofs.cores.RvCpuCore.carry.Goals as goal

pub returns-in-Unmet-clause-carried : goal.returns-in-Unmet-clause-carried
returns-in-Unmet-clause-carried g c = unmet_on c.requires.rest

pub returns-in-Alone-clause-carried : goal.returns-in-Alone-clause-carried
returns-in-Alone-clause-carried g c =
    let it = found c.self.inside c.self.view_is c.requires.rest (c.requires.kept (ap is_met c.in-Alone.is)).0 in
    carried_on it (with_registers c.self.inside c.args.self.now c.args.self.now.state c.carry_alone.new.self c.self.view_is c.requires.rest) c.carry_alone.result
    (carried_alone _ _ _ _ c.args.kept.now.instr c.args.image.now c.carry_alone.result c.carry_alone.ensures.carried)

pub returns-in-Accesses-clause-carried : goal.returns-in-Accesses-clause-carried
returns-in-Accesses-clause-carried g c =
    let it = found c.self.inside c.self.view_is c.requires.rest (c.requires.kept (ap is_met c.in-Accesses.is)).0 in
    carried_on it (with_registers c.self.inside c.args.self.now c.args.self.now.state c.carry_access.new.self c.self.view_is c.requires.rest) c.carry_access.result c.carry_access.ensures.carried
