-- What holds of every outcome of the stack guest.
use Rattle.std.proofs.Common.{◌≡◌, ◌⊎◌, ℕ, ◌+◌, ◌*◌, Some, List, [], ◌++◌, slice_get, refl, subst, sym, ap, arith, append-nil}
use Rattle.std.proofs.lemmas.List.{length-replicate}
use Rattle.std.proofs.lemmas.Option.{slice_get_within}
use Rattle.llsc_base.specs.Sizes.{Numbers, room_of}
use Rattle.llsc_base.specs.declared.outside.Stop.{Stop}
use Rattle.llsc_base.specs.declared.outside.Stop.TheVariants.{Exit}
use Rattle.history.specs.Monitor.{monitor_after}
use Rattle.history.specs.Parts.{accesses_of}
use Rattle.history.specs.declared.entry.Entry.{Entry}
use Rattle.guest_calls.specs.Run.{Pair}
use Rattle.guest_calls.proofs.Protocols.{IsKept, at_each_point}
use Rattle.guest_thread.specs.Outcome.{HaveLeft, IsOutcome}
use Rattle.guest_thread.specs.Start.{thread_start}
use Rattle.guest_thread.specs.declared.ends.GuestEnd.{GuestEnd}
use Rattle.a32_step.specs.Machine.{a32}
use Rattle.a32_guests.specs.Cuts.{MayCut}
use Rattle.a32_guests.proofs.Onward.{RunsOn}
use Rattle.a32_guests.proofs.ThreadRuns.{each_makes, stop_by, stops_left, stops_of}
use Rattle.stack_runs.specs.Guest.{AreInRange, stack_image}
use Rattle.stack_runs.specs.Hands.{EachIsSomewhere}
use Rattle.stack_runs.proofs.AtFirst.{first_stack, first_stands}
use Rattle.stack_runs.proofs.EachPoint.{Ended, Ending, StandsBehind, Stood, each_keeps, ended, ended_well, somewhere}
use Rattle.stack_runs.proofs.Free.{free}
use Rattle.stack_runs.proofs.Invariant.{setup_of, start_of}
use Rattle.stack_runs.proofs.Protocol.{Does, Point, Step, idle}
use Rattle.stack_runs.proofs.Rounds.{starts_so}
use Rattle.stack_runs.proofs.States.{StackGuest}

-- A thread that goes on from its start goes by the protocol.
goes_from_start : (nodes rounds : ℕ) (size : Numbers) → AreInRange nodes rounds size → (t : ℕ) (stop : Stop) (pairs : List Pair)
    → RunsOn (stack_image nodes rounds size) stop (thread_start a32 (stack_image nodes rounds size) size size.threads t) pairs
    → Does (stack_image nodes rounds size) stop (idle rounds) pairs
goes_from_start nodes rounds size range t stop pairs on =
    let g : StackGuest = record {
      nodes = nodes;
      rounds = rounds;
      size = size;
      t = t;
      n = size.threads;
      sp = room_of size + 4096 * (t + 1);
      stop = stop;
      room = range.room;
      few = range.few_rounds;
    } in
    starts_so g pairs range.some_rounds on

-- Each access keeps how things stand.
pub keeps : (nodes rounds : ℕ) (size : Numbers) (range : AreInRange nodes rounds size) (ends : List GuestEnd)
    → IsKept Point Step (Ending (stack_image nodes rounds size) (stops_of ends)) (start_of nodes rounds size) size.threads
    (StandsBehind (setup_of nodes rounds size range) (start_of nodes rounds size))
keeps nodes rounds size range ends =
    each_keeps (setup_of nodes rounds size range) (stack_image nodes rounds size) (stops_of ends) (start_of nodes rounds size) (length-replicate size.threads _)

module _ (nodes rounds budget : ℕ) (size : Numbers) (history : List Entry) (ends : List GuestEnd) (range : AreInRange nodes rounds size)
    (outcome : IsOutcome a32 (stack_image nodes rounds size) size budget history ends) where
  -- how things stand behind a front of the accesses
  pub stands_behind : (front back : List Entry) → accesses_of history ≡ front ++ back
      → Stood (setup_of nodes rounds size range) (stack_image nodes rounds size) (stops_of ends) (start_of nodes rounds size) front back
  stands_behind front back are =
      let program = stack_image nodes rounds size in
      let start = start_of nodes rounds size in
      at_each_point Point Step (Ending program (stops_of ends)) start size.threads (StandsBehind (setup_of nodes rounds size range) start)
      (keeps nodes rounds size range ends) history outcome.legal.accesses (λ t. idle rounds)
      (record { stack = first_stack nodes; stands = first_stands nodes rounds size range; hands = λ t member. refl })
      (each_makes program size budget history ends (λ t stop. Does program stop (idle rounds)) (goes_from_start nodes rounds size range) outcome)
      front back are

  pub all_somewhere : (front back : List Entry) → accesses_of history ≡ front ++ back
      → EachIsSomewhere nodes size.threads (monitor_after (start_of nodes rounds size) front).memory front
  all_somewhere front back are =
      somewhere (setup_of nodes rounds size range) (stack_image nodes rounds size) (stops_of ends) (start_of nodes rounds size) front back
      (stands_behind front back are)

  -- behind all of them
  stands_at_end : Stood (setup_of nodes rounds size range) (stack_image nodes rounds size) (stops_of ends) (start_of nodes rounds size) (accesses_of history) []
  stands_at_end = stands_behind (accesses_of history) [] (sym (append-nil (accesses_of history)))

  pub all_stop_well : (t : ℕ) (end : GuestEnd) → slice_get ends t ≡ Some end → (end.stop ≡ Exit 0) ⊎ MayCut end.stop
  all_stop_well t end got =
      let many = outcome.ends.many in
      let below = slice_get_within ends t end got in
      subst (λ stop. (stop ≡ Exit 0) ⊎ MayCut stop) (ap stop_by got)
      (ended_well (setup_of nodes rounds size range) (stack_image nodes rounds size) (stops_of ends) (start_of nodes rounds size) (accesses_of history)
      stands_at_end (free nodes rounds size range.few_nodes range.room) t (omega (arith, below, many)))

  pub all_ended : HaveLeft ends → Ended (setup_of nodes rounds size range) (monitor_after (start_of nodes rounds size) (accesses_of history)).memory
  all_ended left =
      ended (setup_of nodes rounds size range) (stack_image nodes rounds size) (stops_of ends) (start_of nodes rounds size) (accesses_of history)
      stands_at_end (λ t member. stops_left ends left t)
