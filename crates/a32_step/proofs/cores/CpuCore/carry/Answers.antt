use Rattle.std.proofs.Common.{◌+◌, inl, inr, refl, sym, ap, subst, ◌∙◌, ◌≤◌, length, arith}
use Rattle.llsc_base.specs.Words.{low32}
use Rattle.a32_instr.specs.Effect.{effect_of}
use Rattle.a32_step.specs.Machine.{Machine}
use Rattle.a32_step.specs.inner.ExecutionState.{ExecutionState, machine_in}
use Rattle.a32_step.specs.RowActs.{is_met_row}
use Rattle.a32_step.proofs.Acting.{acted_same}
use Rattle.a32_step.proofs.CameOf.{come_held, come_jumped, come_next, come_unmet}
use Rattle.a32_step.proofs.CarriedOn.{found, unmet_on, whole_held, whole_through}
use Rattle.a32_step.proofs.cores.CpuCore.carry.Goals as goal

pub returns-in-Next-clause-carried : goal.returns-in-Next-clause-carried
returns-in-Next-clause-carried g c =
    let kept = c.args.kept.now in
    let instr = kept.lowered.instr in
    let program = c.args.image.now in
    let standing = c.self.inside.execution in
    let came = come_next c.come_kept.result c.come_kept.new.self c.come_kept.new.source c.come_kept.ensures.came c.in-Next.is in
    let right = c.requires.kept came.0 in
    let it = found c.self.inside.held.lowered.instr c.self.view_is c.requires.rest right.0 in
    let acted = acted_same (λ had. effect_of instr program had standing.state) (λ had. sym (right.1.does program had standing.state)) came.1 in
    (whole_through it c.self.inside.held.lowered.instr (inl refl) acted).0

pub returns-in-Next-clause-room : goal.returns-in-Next-clause-room
returns-in-Next-clause-room g c =
    let kept = c.args.kept.now in
    let instr = kept.lowered.instr in
    let program = c.args.image.now in
    let standing = c.self.inside.execution in
    let came = come_next c.come_kept.result c.come_kept.new.self c.come_kept.new.source c.come_kept.ensures.came c.in-Next.is in
    let right = c.requires.kept came.0 in
    let it = found c.self.inside.held.lowered.instr c.self.view_is c.requires.rest right.0 in
    let acted = acted_same (λ had. effect_of instr program had standing.state) (λ had. sym (right.1.does program had standing.state)) came.1 in
    subst (λ (s : ExecutionState). length s.replies ≤ 16) (sym (whole_through it c.self.inside.held.lowered.instr (inl refl) acted).1) (omega arith)

pub returns-in-Jumped-clause-carried : goal.returns-in-Jumped-clause-carried
returns-in-Jumped-clause-carried g c =
    let kept = c.args.kept.now in
    let instr = kept.lowered.instr in
    let program = c.args.image.now in
    let standing = c.self.inside.execution in
    let came = come_jumped c.come_kept.result c.come_kept.new.self c.come_kept.new.source c.come_kept.ensures.came c.in-Jumped.is in
    let right = c.requires.kept came.0 in
    let it = found c.self.inside.held.lowered.instr c.self.view_is c.requires.rest right.0 in
    let acted = acted_same (λ had. effect_of instr program had standing.state) (λ had. sym (right.1.does program had standing.state)) came.1 in
    (whole_through it c.self.inside.held.lowered.instr (inr refl) acted).0

pub returns-in-Jumped-clause-room : goal.returns-in-Jumped-clause-room
returns-in-Jumped-clause-room g c =
    let kept = c.args.kept.now in
    let instr = kept.lowered.instr in
    let program = c.args.image.now in
    let standing = c.self.inside.execution in
    let came = come_jumped c.come_kept.result c.come_kept.new.self c.come_kept.new.source c.come_kept.ensures.came c.in-Jumped.is in
    let right = c.requires.kept came.0 in
    let it = found c.self.inside.held.lowered.instr c.self.view_is c.requires.rest right.0 in
    let acted = acted_same (λ had. effect_of instr program had standing.state) (λ had. sym (right.1.does program had standing.state)) came.1 in
    subst (λ (s : ExecutionState). length s.replies ≤ 16) (sym (whole_through it c.self.inside.held.lowered.instr (inr refl) acted).1) (omega arith)

pub returns-in-Next-clause-next : goal.returns-in-Next-clause-next
returns-in-Next-clause-next g c = λ is.
    let came = come_next c.come_kept.result c.come_kept.new.self c.come_kept.new.source c.come_kept.ensures.came c.in-Next.is in
    came.2 ∙ ap (λ (m : Machine). low32 (m.state.pc + 4)) c.self.view_is

pub returns-in-Next-clause-met : goal.returns-in-Next-clause-met
returns-in-Next-clause-met g c = λ is. (come_next c.come_kept.result c.come_kept.new.self c.come_kept.new.source c.come_kept.ensures.came c.in-Next.is).0

pub put_back-requires : goal.put_back-requires
put_back-requires g c =
    let kept = c.args.kept.now in
    let instr = kept.lowered.instr in
    let program = c.args.image.now in
    let standing = c.self.inside.execution in
    let came = come_held c.come_kept.result c.come_kept.new.self c.come_kept.new.source c.come_kept.ensures.came c.in-Held.is in
    let right = c.requires.kept came.0 in
    let it = found c.self.inside.held.lowered.instr c.self.view_is c.requires.rest right.0 in
    let acted = acted_same (λ had. effect_of instr program had standing.state) (λ had. sym (right.1.does program had standing.state)) came.1 in
    (instr, (whole_held it acted).known)

pub returns-in-Held-clause-carried : goal.returns-in-Held-clause-carried
returns-in-Held-clause-carried g c =
    let kept = c.args.kept.now in
    let instr = kept.lowered.instr in
    let program = c.args.image.now in
    let standing = c.self.inside.execution in
    let came = come_held c.come_kept.result c.come_kept.new.self c.come_kept.new.source c.come_kept.ensures.came c.in-Held.is in
    let right = c.requires.kept came.0 in
    let it = found c.self.inside.held.lowered.instr c.self.view_is c.requires.rest right.0 in
    let acted = acted_same (λ had. effect_of instr program had standing.state) (λ had. sym (right.1.does program had standing.state)) came.1 in
    (whole_held it acted).carried c.put_back.ensures.passage c.put_back.ensures.machine

pub returns-in-Held-clause-held : goal.returns-in-Held-clause-held
returns-in-Held-clause-held g c = λ back.
    let kept = c.args.kept.now in
    let instr = kept.lowered.instr in
    let program = c.args.image.now in
    let standing = c.self.inside.execution in
    let came = come_held c.come_kept.result c.come_kept.new.self c.come_kept.new.source c.come_kept.ensures.came c.in-Held.is in
    let right = c.requires.kept came.0 in
    let it = found c.self.inside.held.lowered.instr c.self.view_is c.requires.rest right.0 in
    let acted = acted_same (λ had. effect_of instr program had standing.state) (λ had. sym (right.1.does program had standing.state)) came.1 in
    (whole_held it acted).next c.put_back.ensures.machine

pub returns-in-Unmet-clause-carried : goal.returns-in-Unmet-clause-carried
returns-in-Unmet-clause-carried g c =
    let came = come_unmet c.come_kept.result c.come_kept.new.self c.come_kept.new.source c.come_kept.ensures.came c.in-Unmet.is in
    unmet_on c.requires.rest (ap (machine_in c.self.inside.held.lowered.instr) came.1 ∙ c.self.view_is) came.2

pub returns-in-Unmet-clause-unmet : goal.returns-in-Unmet-clause-unmet
returns-in-Unmet-clause-unmet g c = λ is.
    let came = come_unmet c.come_kept.result c.come_kept.new.self c.come_kept.new.source c.come_kept.ensures.came c.in-Unmet.is in
    (ap is_met_row came.0, ap (machine_in c.self.inside.held.lowered.instr) came.1 ∙ c.self.view_is)

pub returns-in-Unmet-clause-room : goal.returns-in-Unmet-clause-room
returns-in-Unmet-clause-room g c =
    let came = come_unmet c.come_kept.result c.come_kept.new.self c.come_kept.new.source c.come_kept.ensures.came c.in-Unmet.is in
    subst (λ (m : Machine). length m.replies ≤ 16) (sym (ap (machine_in c.self.inside.held.lowered.instr) came.1 ∙ c.self.view_is ∙ c.requires.rest)) (omega arith)
