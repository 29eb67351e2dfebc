use Rattle.std.proofs.Common.{◌≡◌, ◌++◌, [], ◌∷◌, None, arith, map, sym, ap, ◌∙◌, zero-add}
use Rattle.std.specs.List.{range_with_len}
use Rattle.std.proofs.lemmas.List.{map-append}
use Rattle.std.proofs.lemmas.List.FromFn.{map-range_with_len_more}
use Rattle.guest_machine.specs.inner.Seats.{first_seat, seat_in}
use Rattle.guest_machine.specs.declared.seats.Seat.{Seat}
use Rattle.guest_machine.proofs.seats.seats.Goals as goal

pub loop-t-preserved : goal.loop-t-preserved
loop-t-preserved g c =
    let see = seat_in g.C.Core.machine in
    let first = first_seat g.C.Core.set c.args.image.now c.args.size.now in
    let new : Seat g.row.C.Denot g.row.C-Ready.Denot = record { guest = c.in_ok-guest.guest; stop = None } in
    ap (map see) c.in_ok-push.ensures.items ∙ map-append see c.loop-t.seats.items (new ∷ [])
    ∙ ap (λ l. l ++ see new ∷ []) c.loop-t.invariant
    ∙ ap (λ s. map first (range_with_len 0 c.loop-t.t) ++ (record { guest = s; stop = None }) ∷ []) c.in_ok-guest.ensures.state
    ∙ sym (map-range_with_len_more first 0 c.loop-t.t c.loop-t.t (zero-add c.loop-t.t))

pub returns : goal.returns
returns g c =
    let all : c.loop-t.t ≡ c.args.size.now.threads = omega (arith, c.loop-t.auto.t-end, c.loop-t-test.false, c.threads-t-end.ensures.number) in
    c.loop-t.invariant ∙ ap (λ n. map (first_seat g.C.Core.set c.args.image.now c.args.size.now) (range_with_len 0 n)) all
