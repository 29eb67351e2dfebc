-- The ends of threads that have all stopped.
use Rattle.std.proofs.Common.{◌≡◌, ℕ, zero, suc, ◌+◌, ◌<◌, ◌≤◌, List, [], ◌∷◌, ◌++◌, drop, take, get_or, length, Some, slice_index_or, slice_get, refl, sym, ◌∙◌, ap, subst, arith, map, zero-add}
use Rattle.std.proofs.lemmas.List.{drop_more, length-map, length_push, get_or_push, get_or-take, take_at, take-take}
use Rattle.llsc_base.specs.Images.{Program}
use Rattle.llsc_base.specs.Sizes.{Numbers}
use Rattle.history.specs.Monitor.{Monitor}
use Rattle.history.specs.declared.entry.Access.{Access}
use Rattle.guest_core.specs.Machine.{MachineOf, InstructionSet}
use Rattle.guest_calls.specs.Run.{Ends}
use Rattle.history.specs.Accesses.{history_of}
use Rattle.guest_calls.specs.Pairs.{pairs_in}
use Rattle.guest_thread.specs.Counting.{AreCounts, counts_in}
use Rattle.guest_thread.specs.End.{IsEndIn}
use Rattle.guest_thread.specs.Start.{thread_start}
use Rattle.guest_thread.specs.declared.ends.GuestEnd.{GuestEnd}
use Rattle.guest_machine.specs.inner.Seats.{StandsBy, IsSeated, HaveTurned, IsEndOfSeat, AreEndsOfSeats, seat_in}
use Rattle.guest_thread.specs.Ends.{AreEnds}
use Rattle.guest_thread.specs.ThreadState.{thread_in}
use Rattle.guest_machine.proofs.Seen.{read_in}
use Rattle.guest_machine.specs.declared.seats.Seat.{Seat}

module _ {C R : Type 0} where
  -- ---- the ends so far, from the last thread down

  -- the seat that is taken from the end of those that are left
  pub record IsTaken (all left rest : List (Seat C R)) (seat : Seat C R) : Type 0 where
    pub next : length left ≡ length rest + 1
    pub read : seat ≡ get_or all (length rest) seat
    pub front : rest ≡ take (length rest) all

  pub taken : (all left rest : List (Seat C R)) (seat : Seat C R) → left ≡ take (length left) all → left ≡ rest ++ seat ∷ [] → IsTaken all left rest seat
  taken all left rest seat front parts =
      let next : length left ≡ length rest + 1 = ap length parts ∙ length_push rest seat in
      let less : length rest < length left = omega (arith, next) in
      let here : get_or left (length rest) seat ≡ seat = ap (λ l. get_or l (length rest) seat) parts ∙ get_or_push rest seat seat (length rest) refl in
      let there : get_or left (length rest) seat ≡ get_or all (length rest) seat =
      ap (λ l. get_or l (length rest) seat) front ∙ get_or-take (length left) all (length rest) seat less in
      record {
        next = next;
        read = sym here ∙ there;
        front = sym (take_at rest (seat ∷ []) (length rest) refl)
            ∙ ap (take (length rest)) (sym parts ∙ front)
            ∙ take-take (length rest) (length left) all (omega (arith, less));
      }

  -- one more, of the thread before them
  pub one_more : (accesses : List Access) (n m : ℕ) (seats : List (Seat C R)) (seat : Seat C R) (end : GuestEnd) (ends : List GuestEnd)
      → n ≡ m + 1 → n ≤ length seats → seat ≡ get_or seats m seat → IsEndOfSeat accesses m seat end
      → AreEndsOfSeats accesses n (drop n seats) ends → AreEndsOfSeats accesses m (drop m seats) (end ∷ ends)
  one_more accesses n m seats seat end ends next inside read here before =
      let less : m < length seats = omega (arith, next, inside) in
      let split : drop m seats ≡ seat ∷ drop (m + 1) seats = drop_more seats m seat less ∙ ap (λ s. s ∷ drop (m + 1) seats) (sym read) in
      subst (λ l. AreEndsOfSeats accesses m l (end ∷ ends)) (sym split)
      (here, subst (λ k. AreEndsOfSeats accesses k (drop k seats) ends) next before)

  -- ---- the ends of all

  -- there are as many as threads
  as_many : (accesses : List Access) (n : ℕ) (seats : List (Seat C R)) (ends : List GuestEnd) → AreEndsOfSeats accesses n seats ends → length ends ≡ length seats
  as_many accesses n [] [] are = refl
  as_many accesses n [] (end ∷ ends) are = absurd are
  as_many accesses n (seat ∷ seats) [] are = absurd are
  as_many accesses n (seat ∷ seats) (end ∷ ends) are = ap suc (as_many accesses (n + 1) seats ends are.1)

  -- a thread, read from all, and its end
  record HasEnd (accesses : List Access) (n t : ℕ) (seats : List (Seat C R)) (end : GuestEnd) : Type 0 where
    seat : Seat C R
    read : seat ≡ slice_index_or seats t seat
    inside : t < length seats
    is : IsEndOfSeat accesses (n + t) seat end

  -- each is that of its thread
  end_at : (accesses : List Access) (n t : ℕ) (seats : List (Seat C R)) (ends : List GuestEnd) (end : GuestEnd)
      → AreEndsOfSeats accesses n seats ends → slice_get ends t ≡ Some end → HasEnd accesses n t seats end
  end_at accesses n t [] [] end are got = cc
  end_at accesses n t [] (first ∷ ends) end are got = absurd are
  end_at accesses n t (seat ∷ seats) [] end are got = absurd are
  end_at accesses n zero (seat ∷ seats) (first ∷ ends) end are got =
      let same : first ≡ end = cc in
      let number : n ≡ n + 0 = omega arith in
      record { seat = seat; read = refl; inside = omega arith; is = subst (λ k. IsEndOfSeat accesses k seat end) number (subst (IsEndOfSeat accesses n seat) same are.0) }
  end_at accesses n (suc t) (seat ∷ seats) (first ∷ ends) end are got =
      let rest = end_at accesses (n + 1) t seats ends end are.1 got in
      let number : n + 1 + t ≡ n + suc t = omega arith in
      let inside = rest.inside in
      record { seat = rest.seat; read = rest.read; inside = omega (arith, inside); is = subst (λ k. IsEndOfSeat accesses k rest.seat end) number rest.is }

module _ {I S : Type 0} (set : InstructionSet I S) {C R : Type 0} (machine : C → MachineOf I S) where
  -- a stopped thread's end is its end in the history
  end_in : (program : Program) (size : Numbers) (budget : ℕ) (accesses : List Access) (live : List ℕ) (t : ℕ) (seat : Seat C R) (end : GuestEnd)
      → IsSeated set program size budget accesses live t (seat_in machine seat) → IsEndOfSeat accesses t seat end
      → IsEndIn set program budget (thread_start set program size size.threads t) (history_of accesses) end
  end_in program size budget accesses live t seat end seated is =
      let start : MachineOf I S = thread_start set program size size.threads t in
      let stopped : StandsBy set program budget start (pairs_in t accesses) (thread_in machine seat.guest) (Some end.stop) =
      subst (StandsBy set program budget start (pairs_in t accesses) (thread_in machine seat.guest)) is.stopped seated.stands in
      let ends : Ends set program budget start (pairs_in t accesses) end.stop end.steps end.out =
      subst (λ n. Ends set program budget start (pairs_in t accesses) end.stop n end.out) (sym is.steps)
      (subst (λ o. Ends set program budget start (pairs_in t accesses) end.stop seat.guest.steps o) (sym is.output) stopped) in
      record {
        ends = subst (λ u. Ends set program budget start (pairs_in u accesses) end.stop end.steps end.out) (sym is.thread) ends;
        counts = subst (λ u. AreCounts u (history_of accesses) (counts_in end)) (sym is.thread) is.counts;
      }

  pub are_ends : (program : Program) (size : Numbers) (seed budget x : ℕ) (live : List ℕ) (seats : List (Seat C R)) (memory : Monitor) (accesses : List Access) (ends : List GuestEnd)
      → HaveTurned set program size seed budget x live (map (seat_in machine) seats) memory accesses → AreEndsOfSeats accesses 0 seats ends
      → AreEnds set program size budget (history_of accesses) ends
  are_ends program size seed budget x live seats memory accesses ends turned are = record {
    many = as_many accesses 0 seats ends are ∙ many;
    numbers = λ t end got. (end_at accesses 0 t seats ends end are got).is.thread ∙ zero-add t;
    each = λ t end got.
        let here = end_at accesses 0 t seats ends end are got in
        let inside = here.inside in
        let seated = turned.seats t (seat_in machine here.seat) (omega (arith, inside, many)) in
        end_in program size budget accesses live t here.seat end
        (subst (IsSeated set program size budget accesses live t) (sym (read_in machine seats t here.seat here.read)) seated)
        (subst (λ k. IsEndOfSeat accesses k here.seat end) (zero-add t) here.is);
  }
    where
      many : length seats ≡ size.threads
      many = sym (length-map seats (seat_in machine)) ∙ turned.many
