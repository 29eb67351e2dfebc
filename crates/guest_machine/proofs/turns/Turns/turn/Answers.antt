use Rattle.std.proofs.Common.{◌≡◌, ◌<◌, Some, length, map, refl, sym, subst, inl, arith}
use Rattle.std.proofs.lemmas.List.{map-set}
use Rattle.run_record.specs.Limits.{most_accesses}
use Rattle.guest_thread.specs.ThreadState.{thread_in}
use Rattle.guest_machine.specs.inner.Seats.{HaveTurned, seat_in}
use Rattle.guest_machine.specs.Turns.{drawn}
use Rattle.guest_machine.specs.declared.seats.Seat.{Seat}
use Rattle.guest_machine.proofs.Seen.{read_in}
use Rattle.guest_machine.proofs.Seated.{turn_live, fewer}
use Rattle.guest_machine.proofs.Turning.{chosen, turn_is, turned_as, access_made, after_stop, too_long}
use Rattle.guest_machine.proofs.turns.Turns.turn.Goals as goal

pub next-requires-clause-ready : goal.next-requires-clause-ready
next-requires-clause-ready g c κs within =
    let turn = turn_is c.args.self.now.number c.drawn-self.result c.turn_of-t.result c.args.self.now.live.items c.deref.result.now c.drawn-self.ensures c.deref.ensures.value c.turn_of-t.ensures in
    (chosen g.C.Core.set _ _ _ _ _ _ _ _ _ _ _ c.requires.under_way turn (read_in g.C.Core.machine c.args.self.now.seats.items c.turn_of-t.result c.index_mut-seat.result.now c.index_mut-seat.ensures.value)).ready

pub returns-then-len-eq-MOST_ACCESSES-clause-fault : goal.returns-then-len-eq-MOST_ACCESSES-clause-fault
returns-then-len-eq-MOST_ACCESSES-clause-fault g c =
    let old = c.args.self.now in
    let turn = turn_is c.args.self.now.number c.drawn-self.result c.turn_of-t.result c.args.self.now.live.items c.deref.result.now c.drawn-self.ensures c.deref.ensures.value c.turn_of-t.ensures in
    let is = chosen g.C.Core.set _ _ _ _ _ _ _ _ _ _ _ c.requires.under_way turn (read_in g.C.Core.machine c.args.self.now.seats.items c.turn_of-t.result c.index_mut-seat.result.now c.index_mut-seat.ensures.value) in
    let full : length old.accesses.items ≡ most_accesses = omega (arith, old.accesses.ok.0, c.len.ensures, c.if-len-eq-MOST_ACCESSES.true) in
    inl (refl, too_long g.C.Core.set _ _ _ _ _ _ _ _ _ c.turn_of-t.result c.in-Asks.ask c.requires.under_way turn (c.in-Asks.ensures.comes _ _ is.come).0 full)

pub serve-access-requires-clause-known : goal.serve-access-requires-clause-known
serve-access-requires-clause-known g c =
    let turn = turn_is c.args.self.now.number c.drawn-self.result c.turn_of-t.result c.args.self.now.live.items c.deref.result.now c.drawn-self.ensures c.deref.ensures.value c.turn_of-t.ensures in
    let is = chosen g.C.Core.set _ _ _ _ _ _ _ _ _ _ _ c.requires.under_way turn (read_in g.C.Core.machine c.args.self.now.seats.items c.turn_of-t.result c.index_mut-seat.result.now c.index_mut-seat.ensures.value) in
    subst (λ n. c.turn_of-t.result < n) (sym c.requires.under_way.marks) is.known

pub returns-in-Ok-clause-goes_on : goal.returns-in-Ok-clause-goes_on
returns-in-Ok-clause-goes_on g c =
    let old = c.args.self.now in
    let turn = turn_is c.args.self.now.number c.drawn-self.result c.turn_of-t.result c.args.self.now.live.items c.deref.result.now c.drawn-self.ensures c.deref.ensures.value c.turn_of-t.ensures in
    let is = chosen g.C.Core.set _ _ _ _ _ _ _ _ _ _ _ c.requires.under_way turn (read_in g.C.Core.machine c.args.self.now.seats.items c.turn_of-t.result c.index_mut-seat.result.now c.index_mut-seat.ensures.value) in
    let comes = c.in-Asks.ensures.comes _ _ is.come in
    let seat = c.index_mut-seat.result.now in
    let replied : Seat g.row.C.Denot g.row.C-Ready.Denot = record { guest = c.give.new.self; stop = seat.stop } in
    let number = c.drawn-self.result in
    subst (λ s. HaveTurned g.C.Core.set c.args.plan.now.image.now c.args.plan.now.size.now c.args.plan.now.seed c.args.plan.now.budget number old.live.items s c.serve-access.new.memory c.push.new.self.items)
    (sym (map-set (seat_in g.C.Core.machine) old.seats.items c.turn_of-t.result replied))
    (access_made g.C.Core.set _ _ _ _ old.number number old.live.items (map (seat_in g.C.Core.machine) old.seats.items) old.memory c.serve-access.new.memory old.accesses.items c.push.new.self.items
    c.turn_of-t.result c.in-Asks.ask (seat_in g.C.Core.machine seat) (thread_in g.C.Core.machine c.next.new.self) (thread_in g.C.Core.machine c.give.new.self) c.serve-access.result c.reply_of.result
    c.requires.under_way turn (read_in g.C.Core.machine old.seats.items c.turn_of-t.result seat c.index_mut-seat.ensures.value) comes.0 comes.1 c.in-Asks.ensures.pending.waiting
    (λ full. let f : ⊥ = c.if-len-eq-MOST_ACCESSES.false (omega (arith, old.accesses.ok.0, c.len.ensures, full)) in f)
    c.drawn-self.ensures c.serve-access.ensures.access c.serve-access.ensures.memory c.in-Ok.ensures.items c.reply_of.ensures
    c.serve-access.ensures.size c.serve-access.ensures.may c.serve-access.ensures.sound
    (c.give.ensures.ready _ _)
    (c.give.ensures.comes _ _ _ _ _))

pub returns-in-Ended-clause-goes_on : goal.returns-in-Ended-clause-goes_on
returns-in-Ended-clause-goes_on g c =
    let old = c.args.self.now in
    let turn = turn_is c.args.self.now.number c.drawn-self.result c.turn_of-t.result c.args.self.now.live.items c.deref.result.now c.drawn-self.ensures c.deref.ensures.value c.turn_of-t.ensures in
    let is = chosen g.C.Core.set _ _ _ _ _ _ _ _ _ _ _ c.requires.under_way turn (read_in g.C.Core.machine c.args.self.now.seats.items c.turn_of-t.result c.index_mut-seat.result.now c.index_mut-seat.ensures.value) in
    let seat = c.index_mut-seat.result.now in
    let ended : Seat g.row.C.Denot g.row.C-Ready.Denot = record { guest = c.next.new.self; stop = Some c.in-Ended.stop } in
    subst (λ s. HaveTurned g.C.Core.set c.args.plan.now.image.now c.args.plan.now.size.now c.args.plan.now.seed c.args.plan.now.budget c.drawn-self.result c.take_out.new.threads.items s old.memory old.accesses.items)
    (sym (map-set (seat_in g.C.Core.machine) old.seats.items c.turn_of-t.result ended))
    (turned_as g.C.Core.set _ _ _ _ (drawn old.number) c.drawn-self.result _ _ _ _ _ _ _ c.drawn-self.ensures c.take_out.ensures refl refl
    (after_stop g.C.Core.set _ _ _ _ old.number old.live.items (map (seat_in g.C.Core.machine) old.seats.items) old.memory old.accesses.items c.turn_of-t.result c.in-Ended.stop (seat_in g.C.Core.machine seat) (thread_in g.C.Core.machine c.next.new.self)
    c.requires.under_way turn (read_in g.C.Core.machine old.seats.items c.turn_of-t.result seat c.index_mut-seat.ensures.value)
    (c.in-Ended.ensures.comes _ _ is.come)))

pub returns-in-Ended-clause-nearer : goal.returns-in-Ended-clause-nearer
returns-in-Ended-clause-nearer g c =
    let old = c.args.self.now in
    let turn = turn_is c.args.self.now.number c.drawn-self.result c.turn_of-t.result c.args.self.now.live.items c.deref.result.now c.drawn-self.ensures c.deref.ensures.value c.turn_of-t.ensures in
    let less : length c.take_out.new.threads.items < length old.live.items =
    subst (λ l. length l < length old.live.items) (sym c.take_out.ensures)
    (fewer c.turn_of-t.result old.live.items (turn_live (drawn old.number) c.turn_of-t.result old.live.items turn)) in
    omega (arith, less)
