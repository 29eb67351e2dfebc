use Rattle.std.proofs.Common.{◌∙◌, refl, sym, subst}
use Rattle.history.specs.Started.{MayAct}
use Rattle.shared_memory.specs.Seen.{IsFront, IsSingle}
use Rattle.guest_thread.specs.Outcome.{IsEndOn}
use Rattle.guest_thread.specs.declared.ends.GuestEnd.{GuestEnd}
use Rattle.guest_thread.specs.inner.Sharing.{RefusesAt}
use Rattle.guest_thread.specs.ThreadState.{thread_in}
use Rattle.guest_thread.proofs.FewAccesses.{few_in_history}
use Rattle.guest_thread.proofs.Finishing.{at_start, end_on, ends_as, shared_from, spends_at}
use Rattle.guest_thread.proofs.running.run_thread.Goals as goal

pub new-sharing-requires-clause-may_act : goal.new-sharing-requires-clause-may_act
new-sharing-requires-clause-may_act g c κs within =
    let single = c.requires.single in
    subst (λ t. MayAct (g.M.SharedMemory.origin c.args.mem.now).first t (g.M.SharedMemory.seen c.args.pass))
    (c.thread-thread.ensures.only single.0 single.1.has) single.2

pub returns-clause-end : goal.returns-clause-end
returns-clause-end g c =
    let mem = c.args.mem.now in
    let origin = g.M.SharedMemory.origin mem in
    let t = c.thread-thread.result in
    let seen = g.M.SharedMemory.seen c.args.pass in
    let last = c.run-stop.new.port in
    let ran = c.run-stop.ensures.ends (g.C.Core.machine c.args.cpu) (c.new-guest.ensures.comes c.requires.empty c.args.code.program c.args.budget) in
    let none = c.requires.none t c.thread-thread.ensures in
    let shared = shared_from (g.M.SharedMemory.id mem) origin t seen c.new-sharing.result last ran.0 c.new-sharing.ensures.state ran.1.0 in
    let end : GuestEnd = record {
      thread = t;
      stop = c.run-stop.result;
      steps = c.steps.result;
      reads = c.counts-counts.result.reads;
      writes = c.counts-counts.result.writes;
      fails = c.counts-counts.result.fails;
      out = c.into_output.result;
    } in
    let ends = ends_as g.C.Core.set (RefusesAt last) c.args.code.program c.args.budget (g.C.Core.machine c.args.cpu) ran.0 c.run-stop.result c.steps.result c.into_output.result (thread_in g.C.Core.machine c.run-stop.new.self)
    c.steps.ensures c.into_output.ensures ran.1.1 in
    subst (λ s. IsEndOn g.C.Core.set c.args.code.program origin.size c.args.budget (g.C.Core.machine c.args.cpu) s end) (sym c.into_pass.ensures.seen)
    (end_on g.C.Core.set c.is_sound.ensures.passes c.is_sound.ensures.own c.args.code.program c.args.budget (g.C.Core.machine c.args.cpu) c.requires.between (at_start (g.M.SharedMemory.id mem) origin t seen) last ran.0 end shared none refl refl c.counts-counts.ensures ends)

pub returns-clause-spends : goal.returns-clause-spends
returns-clause-spends g c = λ addr is.
    let mem = c.args.mem.now in
    let origin = g.M.SharedMemory.origin mem in
    let t = c.thread-thread.result in
    let seen = g.M.SharedMemory.seen c.args.pass in
    let last = c.run-stop.new.port in
    let ran = c.run-stop.ensures.ends (g.C.Core.machine c.args.cpu) (c.new-guest.ensures.comes c.requires.empty c.args.code.program c.args.budget) in
    let shared = shared_from (g.M.SharedMemory.id mem) origin t seen c.new-sharing.result last ran.0 c.new-sharing.ensures.state ran.1.0 in
    spends_at g.C.Core.set c.is_sound.ensures.passes c.is_sound.ensures.own c.args.code.program c.args.budget (g.C.Core.machine c.args.cpu) c.requires.between (at_start (g.M.SharedMemory.id mem) origin t seen) last ran.0 c.run-stop.result
    c.run-stop.new.self.steps c.run-stop.new.self.output addr shared ran.1.1 is

pub returns-clause-single : goal.returns-clause-single
returns-clause-single g c =
    let mem = c.args.mem.now in
    let origin = g.M.SharedMemory.origin mem in
    let t = c.thread-thread.result in
    let seen = g.M.SharedMemory.seen c.args.pass in
    let last = c.run-stop.new.port in
    let ran = c.run-stop.ensures.ends (g.C.Core.machine c.args.cpu) (c.new-guest.ensures.comes c.requires.empty c.args.code.program c.args.budget) in
    let shared = shared_from (g.M.SharedMemory.id mem) origin t seen c.new-sharing.result last ran.0 c.new-sharing.ensures.state ran.1.0 in
    subst (λ n. IsSingle n (g.M.SharedMemory.numbers c.into_pass.result)) shared.goes_on.thread c.into_pass.ensures.single

pub returns-clause-begins : goal.returns-clause-begins
returns-clause-begins g c =
    let mem = c.args.mem.now in
    let origin = g.M.SharedMemory.origin mem in
    let t = c.thread-thread.result in
    let seen = g.M.SharedMemory.seen c.args.pass in
    let last = c.run-stop.new.port in
    let ran = c.run-stop.ensures.ends (g.C.Core.machine c.args.cpu) (c.new-guest.ensures.comes c.requires.empty c.args.code.program c.args.budget) in
    let shared = shared_from (g.M.SharedMemory.id mem) origin t seen c.new-sharing.result last ran.0 c.new-sharing.ensures.state ran.1.0 in
    subst (IsFront seen) (sym c.into_pass.ensures.seen) shared.goes_on.front

pub returns-clause-memory : goal.returns-clause-memory
returns-clause-memory g c =
    let mem = c.args.mem.now in
    let origin = g.M.SharedMemory.origin mem in
    let t = c.thread-thread.result in
    let seen = g.M.SharedMemory.seen c.args.pass in
    let last = c.run-stop.new.port in
    let ran = c.run-stop.ensures.ends (g.C.Core.machine c.args.cpu) (c.new-guest.ensures.comes c.requires.empty c.args.code.program c.args.budget) in
    let shared = shared_from (g.M.SharedMemory.id mem) origin t seen c.new-sharing.result last ran.0 c.new-sharing.ensures.state ran.1.0 in
    c.into_pass.ensures.memory ∙ shared.goes_on.memory ∙ sym c.requires.memory

pub returns-clause-few : goal.returns-clause-few
returns-clause-few g c =
    few_in_history g.C.Core.set c.is_sound.ensures.room c.args.code.program (g.M.SharedMemory.origin c.args.mem.now).size c.args.budget (g.C.Core.machine c.args.cpu)
    (g.M.SharedMemory.seen c.into_pass.result) _ c.requires.between (returns-clause-end g c)
