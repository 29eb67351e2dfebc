-- The stops of a run.
use Rattle.std.proofs.Common.{ℕ, List, false}
use Rattle.llsc_base.specs.Images.{Program}
use Rattle.llsc_base.specs.declared.outside.Stop.{Stop}
use Rattle.guest_core.specs.Machine.{GoesOn}
use Rattle.guest_calls.specs.Run.{Pair, Ends, first_point, halts, leaves, spends}
use Rattle.guest_thread.proofs.Placed.{reached_goes}
use Rattle.rv32_guest.specs.Machine.{Machine, rv32}
use Rattle.rv32_guest.specs.Stops.{IsStop}
use Rattle.rv32_guest.proofs.Sound.{next_own, next_passes, next_stops}

pub ends_stop : (program : Program) (budget : ℕ) (start : Machine) (pairs : List Pair) (stop : Stop) (steps : ℕ) (output : List ℕ) → GoesOn start.phase
    → Ends rv32 program budget start pairs stop steps output → IsStop stop
ends_stop program budget start _ _ _ _ goes (halts pairs machine steps output stop reached less is) =
    next_stops program machine stop (reached_goes rv32 next_passes next_own false program budget (first_point start) goes pairs machine steps output reached) is
ends_stop program budget start _ _ _ _ goes (leaves pairs machine steps output call code reached less is known) = tt
ends_stop program budget start _ _ _ _ goes (spends pairs machine output reached) = tt
