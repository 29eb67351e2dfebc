-- The threads of a trace as machines of their set.
use Rattle.std.proofs.Common.{◌≡◌, ℕ, List, [], Option, None, Some, false, IsSome, length, map, slice_index_or, sym, ◌∙◌, ap, arith, refl}
use Rattle.std.proofs.Math.ListN.{get_or-map}
use Rattle.std.proofs.lemmas.List.{length-map}
use Rattle.std.specs.Option.{is_none}
use Rattle.llsc_base.specs.Images.{Program}
use Rattle.llsc_base.specs.Sizes.{Numbers}
use Rattle.llsc_base.specs.declared.outside.Stop.{Stop}
use Rattle.history.specs.Monitor.{Monitor}
use Rattle.history.specs.declared.entry.Access.{Access}
use Rattle.guest_core.specs.Machine.{MachineOf, InstructionSet}
use Rattle.guest_machine.specs.inner.Seats.{HaveStopped, HaveTurned, seat_in}
use Rattle.guest_machine.specs.declared.seats.Seat.{Seat}

-- a thread that is read
pub read_in : {C R I S : Type 0} (machine : C → MachineOf I S) (seats : List (Seat C R)) (t : ℕ) (seat : Seat C R) → seat ≡ slice_index_or seats t seat
    → seat_in machine seat ≡ slice_index_or (map (seat_in machine) seats) t (seat_in machine seat)
read_in machine seats t seat read = ap (seat_in machine) read ∙ sym (get_or-map (seat_in machine) seats t seat)

some_stop : (stop : Option Stop) → is_none stop ≡ false → IsSome stop
some_stop None is = cc
some_stop (Some stop) is = refl

module _ {I S : Type 0} (set : InstructionSet I S) {C R : Type 0} (machine : C → MachineOf I S) where
  -- where none is left all have stopped
  pub all_stopped : (program : Program) (size : Numbers) (seed budget x : ℕ) (seats : List (Seat C R)) (monitor : Monitor) (accesses : List Access)
      → HaveTurned set program size seed budget x [] (map (seat_in machine) seats) monitor accesses → HaveStopped seats
  all_stopped program size seed budget x seats monitor accesses turned = λ t other inside.
      let many : length seats ≡ size.threads = sym (length-map seats (seat_in machine)) ∙ turned.many in
      let seated = turned.seats t (seat_in machine other) (omega (arith, inside, many)) in
      some_stop (slice_index_or seats t other).stop
      (ap (λ s. is_none s.stop) (sym (get_or-map (seat_in machine) seats t other)) ∙ sym seated.tells)
