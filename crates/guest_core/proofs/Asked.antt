-- What an instruction of one access does first, by what bars that.
use Rattle.std.proofs.Common.{◌≡◌, ℕ, true, false, Option, Some, None, refl, ap}
use Rattle.llsc_base.specs.Images.{Program, bar_of}
use Rattle.llsc_base.specs.declared.access.Bar.{Bar}
use Rattle.llsc_base.specs.declared.outside.Ask.{Ask}
use Rattle.llsc_base.specs.declared.outside.Ask.TheVariants.{Load, LoadEx, Store, StoreEx, Clear}
use Rattle.llsc_base.specs.declared.outside.Stop.{Stop}
use Rattle.llsc_base.specs.Effects.{asks, stops, asks_unless}
use Rattle.guest_core.specs.Asking.{stop_at_bar, stop_of}
use Rattle.guest_core.specs.Machine.{PassesTests, IsHeld}
use Rattle.guest_core.specs.inner.Asking.{asked_first}

module _ {S : Type 0} where
  -- an access that nothing bars is asked for
  pub asked_passed : (program : Program) (ask : Ask) → PassesTests program ask → asked_first {S = S} program ask ≡ asks ask
  asked_passed program (Load place) passed = ap (λ b. asks_unless b place.addr (Load place)) passed
  asked_passed program (LoadEx place) passed = ap (λ b. asks_unless b place.addr (LoadEx place)) passed
  asked_passed program (Store place value) passed = ap (λ b. asks_unless b place.addr (Store place value)) passed
  asked_passed program (StoreEx place value) passed = ap (λ b. asks_unless b place.addr (StoreEx place value)) passed
  asked_passed program Clear passed = refl

  unless_stopped : (found : Option Bar) (addr : ℕ) (ask : Ask) (stop : Stop) → stop_at_bar found addr ≡ Some stop → asks_unless {S = S} found addr ask ≡ stops stop
  unless_stopped None addr ask stop is = absurd (cc (is))
  unless_stopped (Some bar) addr ask stop is = ap stops (cc (is))

  -- a barred one stops the thread
  pub asked_stopped : (program : Program) (ask : Ask) (stop : Stop) → stop_of program ask ≡ Some stop → asked_first {S = S} program ask ≡ stops stop
  asked_stopped program (Load place) stop is = unless_stopped (bar_of program place false) place.addr (Load place) stop is
  asked_stopped program (LoadEx place) stop is = unless_stopped (bar_of program place false) place.addr (LoadEx place) stop is
  asked_stopped program (Store place value) stop is = unless_stopped (bar_of program place true) place.addr (Store place value) stop is
  asked_stopped program (StoreEx place value) stop is = unless_stopped (bar_of program place true) place.addr (StoreEx place value) stop is
  asked_stopped program Clear stop is = absurd (cc (is))

unless_held : (S : Type 0) (found : Option Bar) (addr : ℕ) (ask : Ask) → IsHeld (asks_unless {S = S} found addr ask)
unless_held S None addr ask = tt
unless_held S (Some bar) addr ask = tt

-- either way the instruction isn't complete
pub asked_held : (S : Type 0) (program : Program) (ask : Ask) → IsHeld (asked_first {S = S} program ask)
asked_held S program (Load place) = unless_held S (bar_of program place false) place.addr (Load place)
asked_held S program (LoadEx place) = unless_held S (bar_of program place false) place.addr (LoadEx place)
asked_held S program (Store place value) = unless_held S (bar_of program place true) place.addr (Store place value)
asked_held S program (StoreEx place value) = unless_held S (bar_of program place true) place.addr (StoreEx place value)
asked_held S program Clear = tt
