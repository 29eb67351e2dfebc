-- Each instruction leads on, whether it is complete or not.
use Rattle.std.proofs.Common.{rules, ◌≡◌, ◌+◌, ◌-◌, ◌<◌, ◌≤◌, ℕ, drop, refl, sym, ap, subst, arith, ◌∙◌}
use Rattle.llsc_base.specs.Images.{Program}
use Rattle.guest_core.specs.declared.phases.Passage.TheVariants.{Next, Jumped, Unmet}
use Rattle.guest_core.specs.Known.{AreRightFrom, EndsUnmet}
use Rattle.guest_core.specs.Passages.{IsCarriedOnOf}
use Rattle.guest_core.proofs.KeptOn.{ends_behind}
use Rattle.guest_thread.specs.inner.Ports.{IsAtRest}
use Rattle.guest_thread.specs.ThreadState.{ThreadOf, thread_in}
use Rattle.guest_thread.proofs.Carried.{at_rest_on, part_ends}
use Rattle.guest_thread.proofs.Walked.{HasRun, not_run, run_one, run_part, within_budget}
use Rattle.guest_thread.proofs.guests.Guest.walk.Goals.{in-Next, in-Jumped+in-Some-from}
use Rattle.guest_thread.proofs.guests.Guest.walk.Goals as goal

pub returns-in_default-clause-comes : goal.returns-in_default-clause-comes
returns-in_default-clause-comes g c =
    (not_run g.C.Core.set g.P.TryPort.replies g.P.TryPort.counted c.args.code.now.program c.args.budget (thread_in g.C.Core.machine c.args.self.now) c.args.port.now c.requires.running c.requires.counted).way

pub loop-left-init : goal.loop-left-init
loop-left-init g c =
    let seen = ap (thread_in g.C.Core.machine) (sym c.self.view_is) in
    let program : Program = c.args.code.now.program in
    let inside = c.self.inside in
    let start : ℕ → ThreadOf g.C.Core.Instr g.C.Core.State = λ steps. record { cpu = g.C.Core.machine inside.cpu; steps = steps; output = inside.output; printing = inside.printing } in
    let few : inside.steps ≤ c.args.budget = subst (λ (s : ThreadOf g.C.Core.Instr g.C.Core.State). s.steps ≤ c.args.budget) seen (within_budget (thread_in g.C.Core.machine c.args.self.now) c.requires.running c.requires.rest) in
    let same : inside.steps ≡ c.args.budget - (c.args.budget - inside.steps) = omega (arith, few) in
    record {
      run = subst (λ steps. HasRun g.C.Core.set g.P.TryPort.replies g.P.TryPort.counted program c.args.budget (thread_in g.C.Core.machine c.args.self.now) c.args.port.now (start steps) c.args.port.now) same
          (subst (λ s. HasRun g.C.Core.set g.P.TryPort.replies g.P.TryPort.counted program c.args.budget (thread_in g.C.Core.machine c.args.self.now) c.args.port.now s c.args.port.now) seen
          (not_run g.C.Core.set g.P.TryPort.replies g.P.TryPort.counted program c.args.budget (thread_in g.C.Core.machine c.args.self.now) c.args.port.now c.requires.running c.requires.counted));
      rest = subst (λ steps. IsAtRest (start steps)) same (subst IsAtRest seen c.requires.rest);
      right = subst (λ pc. AreRightFrom g.C.Ready.Ready.is_met g.C.Ready.Ready.found g.C.Ready.Ready.instr g.C.Ready.Ready.is_right program pc c.in-Some.kept.now) c.pc.ensures.pc c.in-Some.ensures.right;
      ends = c.in-Some.ensures.ends;
      most = omega arith;
      mem = refl;
    }

pub loop-left-preserved : goal.loop-left-preserved
loop-left-preserved g c =
    let inv = c.loop-left.invariant in
    let inside = c.loop-left.self-inside in
    let program : Program = c.args.code.now.program in
    let left : ℕ = c.loop-left.left in
    let some : 0 < left = search rules in
    let old : ThreadOf g.C.Core.Instr g.C.Core.State = record { cpu = g.C.Core.machine inside.cpu; steps = c.args.budget - left; output = inside.output; printing = inside.printing } in
    let new : ThreadOf g.C.Core.Instr g.C.Core.State = record { cpu = g.C.Core.machine c.carry.new.self; steps = c.args.budget - (left - 1); output = inside.output; printing = inside.printing } in
    let within : c.args.budget - left < c.args.budget = omega (arith, some, inv.most) in
    let more : c.args.budget - (left - 1) ≡ c.args.budget - left + 1 = omega (arith, some, inv.most) in
    let most : left - 1 ≤ c.args.budget = omega (arith, inv.most) in
    let mem = c.carry.ensures.mem ∙ inv.mem in
    elim c.match-carry.branch [
      | in-Next w ↦ (
          let carried : IsCarriedOnOf g.C.Core.set g.P.TryPort.replies program old.cpu c.loop-left.port Next new.cpu c.carry.new.port =
          subst (λ p. IsCarriedOnOf g.C.Core.set g.P.TryPort.replies p old.cpu c.loop-left.port Next new.cpu c.carry.new.port) c.image-image.ensures w.in-Next.ensures.carried in
          let right = subst (λ l. AreRightFrom g.C.Ready.Ready.is_met g.C.Ready.Ready.found g.C.Ready.Ready.instr g.C.Ready.Ready.is_right program (g.C.Core.set.pc_of old.cpu.state) l) c.first.ensures inv.right in
          record {
            run = run_one g.C.Core.set g.P.TryPort.replies g.P.TryPort.counted program c.args.budget (thread_in g.C.Core.machine c.args.self.now) c.args.port.now old new c.loop-left.port c.carry.new.port
                inv.rest within refl inv.rest.printing inv.run carried.machine carried.pairs carried.leads carried.comes c.carry.ensures.room carried.ends more c.carry.ensures.counted;
            rest = at_rest_on g.C.Core.set program carried.machine new inv.rest.printing carried.ends;
            right = rw (w.kept-is, w.behind-kept.ensures, w.in-Next.ensures.next refl) right.1;
            ends = rw (w.kept-is, w.behind-kept.ensures) (ends_behind g.C.Ready.Ready.is_met c.first.result.now (drop 1 c.loop-left.kept.now) (w.in-Next.ensures.met refl) (subst (EndsUnmet g.C.Ready.Ready.is_met) c.first.ensures inv.ends));
            most = most;
            mem = mem;
          })
      | in-Jumped+in-Some-from w ↦ (
          let carried : IsCarriedOnOf g.C.Core.set g.P.TryPort.replies program old.cpu c.loop-left.port Jumped new.cpu c.carry.new.port =
          subst (λ p. IsCarriedOnOf g.C.Core.set g.P.TryPort.replies p old.cpu c.loop-left.port Jumped new.cpu c.carry.new.port) c.image-image.ensures w.in-Jumped.ensures.carried in
          record {
            run = run_one g.C.Core.set g.P.TryPort.replies g.P.TryPort.counted program c.args.budget (thread_in g.C.Core.machine c.args.self.now) c.args.port.now old new c.loop-left.port c.carry.new.port
                inv.rest within refl inv.rest.printing inv.run carried.machine carried.pairs carried.leads carried.comes c.carry.ensures.room carried.ends more c.carry.ensures.counted;
            rest = at_rest_on g.C.Core.set program carried.machine new inv.rest.printing carried.ends;
            right = rw w.kept-is (subst (λ pc. AreRightFrom g.C.Ready.Ready.is_met g.C.Ready.Ready.found g.C.Ready.Ready.instr g.C.Ready.Ready.is_right program pc w.in-Some-from.there.now) w.pc-in-Jumped.ensures.pc w.in-Some-from.ensures.right);
            ends = rw w.kept-is w.in-Some-from.ensures.ends;
            most = most;
            mem = mem;
          })
    ]

pub returns-in_default-from : goal.returns-in_default-from
returns-in_default-from g c =
    let inv = c.loop-left.invariant in
    let inside = c.loop-left.self-inside in
    let program : Program = c.args.code.now.program in
    let left : ℕ = c.loop-left.left in
    let some : 0 < left = search rules in
    let old : ThreadOf g.C.Core.Instr g.C.Core.State = record { cpu = g.C.Core.machine inside.cpu; steps = c.args.budget - left; output = inside.output; printing = inside.printing } in
    let new : ThreadOf g.C.Core.Instr g.C.Core.State = record { cpu = g.C.Core.machine c.carry.new.self; steps = c.args.budget - left + 1; output = inside.output; printing = inside.printing } in
    let within : c.args.budget - left < c.args.budget = omega (arith, some, inv.most) in
    let carried : IsCarriedOnOf g.C.Core.set g.P.TryPort.replies program old.cpu c.loop-left.port Jumped new.cpu c.carry.new.port =
    subst (λ p. IsCarriedOnOf g.C.Core.set g.P.TryPort.replies p old.cpu c.loop-left.port Jumped new.cpu c.carry.new.port) c.image-image.ensures c.in-Jumped.ensures.carried in
    let run = run_one g.C.Core.set g.P.TryPort.replies g.P.TryPort.counted program c.args.budget (thread_in g.C.Core.machine c.args.self.now) c.args.port.now old new c.loop-left.port c.carry.new.port
    inv.rest within refl inv.rest.printing inv.run carried.machine carried.pairs carried.leads carried.comes c.carry.ensures.room carried.ends refl c.carry.ensures.counted in
    record { running = run.running; later = run.later; mem = c.carry.ensures.mem ∙ inv.mem; counted = run.counts; comes = run.way }

pub returns-in-AtStart : goal.returns-in-AtStart
returns-in-AtStart g c =
    let inv = c.loop-left.invariant in
    let inside = c.loop-left.self-inside in
    let program : Program = c.args.code.now.program in
    let left : ℕ = c.loop-left.left in
    let some : 0 < left = search rules in
    let old : ThreadOf g.C.Core.Instr g.C.Core.State = record { cpu = g.C.Core.machine inside.cpu; steps = c.args.budget - left; output = inside.output; printing = inside.printing } in
    let new : ThreadOf g.C.Core.Instr g.C.Core.State = record { cpu = g.C.Core.machine c.carry.new.self; steps = c.args.budget - left; output = inside.output; printing = inside.printing } in
    let within : c.args.budget - left < c.args.budget = omega (arith, some, inv.most) in
    let carried : IsCarriedOnOf g.C.Core.set g.P.TryPort.replies program old.cpu c.loop-left.port c.carry.result new.cpu c.carry.new.port =
    subst (λ p. IsCarriedOnOf g.C.Core.set g.P.TryPort.replies p old.cpu c.loop-left.port c.carry.result new.cpu c.carry.new.port) c.image-image.ensures c.carry.ensures.carried in
    let run = run_part g.C.Core.set g.P.TryPort.replies g.P.TryPort.counted program c.args.budget (thread_in g.C.Core.machine c.args.self.now) c.args.port.now old new c.loop-left.port c.carry.new.port
    inv.rest within refl inv.rest.printing inv.run carried.machine carried.pairs carried.leads carried.comes c.carry.ensures.room
    (part_ends g.C.Core.set program carried.machine new.cpu c.carry.result c.in-AtStart.is carried.ends) refl c.counts_one.ensures.one c.counts_one.ensures.none in
    record { running = run.running; later = run.later; mem = c.carry.ensures.mem ∙ inv.mem; counted = run.counts; comes = run.way }

pub returns-in-Unmet : goal.returns-in-Unmet
returns-in-Unmet g c =
    let inv = c.loop-left.invariant in
    let inside = c.loop-left.self-inside in
    let program : Program = c.args.code.now.program in
    let left : ℕ = c.loop-left.left in
    let some : 0 < left = search rules in
    let old : ThreadOf g.C.Core.Instr g.C.Core.State = record { cpu = g.C.Core.machine inside.cpu; steps = c.args.budget - left; output = inside.output; printing = inside.printing } in
    let new : ThreadOf g.C.Core.Instr g.C.Core.State = record { cpu = g.C.Core.machine c.carry.new.self; steps = c.args.budget - left; output = inside.output; printing = inside.printing } in
    let within : c.args.budget - left < c.args.budget = omega (arith, some, inv.most) in
    let carried : IsCarriedOnOf g.C.Core.set g.P.TryPort.replies program old.cpu c.loop-left.port Unmet new.cpu c.carry.new.port =
    subst (λ p. IsCarriedOnOf g.C.Core.set g.P.TryPort.replies p old.cpu c.loop-left.port Unmet new.cpu c.carry.new.port) c.image-image.ensures c.in-Unmet.ensures.carried in
    let run = run_part g.C.Core.set g.P.TryPort.replies g.P.TryPort.counted program c.args.budget (thread_in g.C.Core.machine c.args.self.now) c.args.port.now old new c.loop-left.port c.carry.new.port
    inv.rest within refl inv.rest.printing inv.run carried.machine carried.pairs carried.leads carried.comes c.carry.ensures.room
    carried.ends refl c.counts_one.ensures.one c.counts_one.ensures.none in
    record { running = run.running; later = run.later; mem = c.carry.ensures.mem ∙ inv.mem; counted = run.counts; comes = run.way }

pub returns : goal.returns
returns g c =
    let inv = c.loop-left.invariant in
    let inside = c.loop-left.self-inside in
    let program : Program = c.args.code.now.program in
    let done : c.args.budget - c.loop-left.left ≡ c.args.budget =
    (let none : c.loop-left.left ≡ 0 = search rules in omega (arith, none)) in
    let run : HasRun g.C.Core.set g.P.TryPort.replies g.P.TryPort.counted program c.args.budget (thread_in g.C.Core.machine c.args.self.now) c.args.port.now (record { cpu = g.C.Core.machine inside.cpu; steps = c.args.budget; output = inside.output; printing = inside.printing }) c.loop-left.port =
    subst (λ steps. HasRun g.C.Core.set g.P.TryPort.replies g.P.TryPort.counted program c.args.budget (thread_in g.C.Core.machine c.args.self.now) c.args.port.now (record { cpu = g.C.Core.machine inside.cpu; steps = steps; output = inside.output; printing = inside.printing }) c.loop-left.port) done inv.run in
    record { running = run.running; later = run.later; mem = inv.mem; counted = run.counts; comes = run.way }
