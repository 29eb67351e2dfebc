-- How a machine stands after what it does next.
use Rattle.std.proofs.Common.{◌≡◌}
use Rattle.llsc_base.specs.Images.{Program}
use Rattle.guest_core.specs.declared.phases.Wanted.{Wanted}
use Rattle.guest_core.specs.Machine.{wanted_of, AwaitsNothing, Follows}
use Rattle.guest_core.proofs.Follows.{follows_of}
use Rattle.a32_step.specs.Machine.{Machine, a32, next_effect, after_next}

-- the same of A32
pub next_follows : (program : Program) (machine : Machine) (w : Wanted) (n : Machine) → AwaitsNothing machine.phase
    → w ≡ wanted_of (next_effect program machine) → n ≡ after_next program machine → Follows machine w n
next_follows = follows_of a32
