use Rattle.std.proofs.Common.{◌≡◌, ◌≤◌, [], length, refl, sym, subst, arith}
use Rattle.history.specs.Started.{MayAct}
use Rattle.guest_core.specs.Machine.{IsCalling}
use Rattle.guest_calls.specs.Calls.{most_output}
use Rattle.guest_calls.specs.Run.{begins}
use Rattle.guest_thread.specs.Pieces.{IsPiece}
use Rattle.guest_thread.specs.inner.Pieces.{part_at, point_of}
use Rattle.guest_thread.specs.inner.Ports.{RestsBy}
use Rattle.guest_thread.specs.inner.Sharing.{RefusesAt}
use Rattle.guest_thread.specs.ThreadState.{thread_in}
use Rattle.guest_thread.specs.Under.{HasComeFrom}
use Rattle.guest_thread.proofs.Answered.{calling_of, gone_by, rested_at}
use Rattle.guest_thread.proofs.pieces.go_on.Goals as goal

pub with-sharing-requires-clause-may_act : goal.with-sharing-requires-clause-may_act
with-sharing-requires-clause-may_act g c κs within =
    let single = c.requires.single in
    let first = (g.M.SharedMemory.origin c.args.mem.now).first in
    subst (λ p. MayAct first c.thread-thread.result (g.M.SharedMemory.seen p)) (sym c.into_guest-guest.ensures.pass)
    (subst (λ t. MayAct first t (g.M.SharedMemory.seen c.args.part.pass)) (c.thread-thread.ensures.only single.0 single.1.has) single.2)

pub rested-requires-clause-calling : goal.rested-requires-clause-calling
rested-requires-clause-calling g c κs within = λ is.
    let program = c.args.code.now.program in
    let upto = c.args.upto in
    let own = subst (λ s. HasComeFrom g.C.Core.set c.args.starts program upto (point_of g.C.Core.set g.C.Core.machine c.args.part) [] (thread_in g.C.Core.machine s)) (sym c.into_guest-guest.ensures.guest) begins in
    let ran = c.run_on-rest.ensures.comes (point_of g.C.Core.set g.C.Core.machine c.args.part) [] own in
    let stood = c.run_on-rest.new.self in
    let comes = subst (λ how. RestsBy g.C.Core.set c.args.starts (RefusesAt c.run_on-rest.new.port) program upto (point_of g.C.Core.set g.C.Core.machine c.args.part) ran.0 how (thread_in g.C.Core.machine stood)) is ran.1.1 in
    let calling = calling_of g.C.Core.set c.args.starts program upto (point_of g.C.Core.set g.C.Core.machine c.args.part) ran.0 (thread_in g.C.Core.machine stood) comes in
    subst IsCalling (sym calling) tt

pub returns-clause-piece : goal.returns-clause-piece
returns-clause-piece g c =
    λ t single.
    let mem = c.args.mem.now in
    let origin = g.M.SharedMemory.origin mem in
    let id = g.M.SharedMemory.id mem in
    let program = c.args.code.now.program in
    let part = c.args.part in
    let starts = c.args.starts in
    let own_t = c.thread-thread.result in
    let last = c.run_on-rest.new.port in
    let pass = c.into_pass-pass.result in
    let own = subst (λ s. HasComeFrom g.C.Core.set starts program c.args.upto (point_of g.C.Core.set g.C.Core.machine part) [] (thread_in g.C.Core.machine s)) (sym c.into_guest-guest.ensures.guest) begins in
    let ran = c.run_on-rest.ensures.comes (point_of g.C.Core.set g.C.Core.machine part) [] own in
    let begun = subst (λ p. c.with-sharing.result ≡ record { memory = id; origin = origin; thread = own_t; seen = g.M.SharedMemory.seen p; counts = c.counts-counts.result })
    c.into_guest-guest.ensures.pass c.with-sharing.ensures.state in
    let gone = gone_by g.C.Core.set g.C.Core.machine g.M.SharedMemory.home g.M.SharedMemory.numbers g.M.SharedMemory.seen id origin program starts c.args.upto c.args.budget own_t part
    pass c.with-sharing.result last ran.0 c.counts-counts.result begun c.counts-counts.ensures ran.1.0
    c.into_pass-pass.ensures.memory c.into_pass-pass.ensures.single c.into_pass-pass.ensures.seen in
    let may_act = subst (λ u. MayAct origin.first u (g.M.SharedMemory.seen part.pass)) (c.thread-thread.ensures.only c.requires.single.0 c.requires.single.1.has) c.requires.single.2 in
    let room = c.room_left-left.ensures in
    let short : length part.out ≤ most_output = omega (arith, room) in
    let made = c.rested.ensures in
    let piece = rested_at g.C.Core.set g.C.Core.machine g.M.SharedMemory.home g.M.SharedMemory.numbers g.M.SharedMemory.seen id origin program starts c.args.upto c.args.budget own_t part
    last ran.0 may_act c.requires.between short c.requires.upto.1 c.is_sound.ensures.passes c.is_sound.ensures.own c.is_sound.ensures.room c.run_on-rest.new.self pass c.counts-counts-2.result gone c.counts-counts-2.ensures
    c.run_on-rest.result (part_at c.run_on-rest.new.self pass c.counts-counts-2.result) c.rested.result refl made.stopped made.called made.pauses made.spent
    c.run_on-rest.ensures.starts c.run_on-rest.ensures.within c.run_on-rest.ensures.counted c.run_on-rest.ensures.bounded.replies ran.1.1 in
    subst (λ u. IsPiece g.C.Core.set g.C.Core.machine g.M.SharedMemory.home g.M.SharedMemory.numbers g.M.SharedMemory.seen id origin program starts c.args.upto c.args.budget u part c.rested.result)
    (sym (c.thread-thread.ensures.only t single.has)) piece
