-- What bars an access that an instruction is to ask for.
use Rattle.std.specs.Prelude.{ℕ, true, false, Option, Some, None}
use Rattle.llsc_base.specs.Images.{Program, bar_of}
use Rattle.llsc_base.specs.declared.access.Bar.{Bar}
use Rattle.llsc_base.specs.declared.outside.Ask.{Ask}
use Rattle.llsc_base.specs.declared.outside.Ask.TheVariants.{Load, LoadEx, Store, StoreEx, Clear}
use Rattle.llsc_base.specs.declared.outside.Stop.{Stop}
use Rattle.llsc_base.specs.Effects.{barred}

-- the stop of a thread against whose access at an address something may stand
abbrev pub stop_at_bar : Option Bar → ℕ → Option Stop
stop_at_bar None addr = None
stop_at_bar (Some bar) addr = Some (barred bar addr)

-- the stop of a thread whose access is barred, if anything bars it
abbrev pub stop_of : Program → Ask → Option Stop
stop_of program (Load place) = stop_at_bar (bar_of program place false) place.addr
stop_of program (LoadEx place) = stop_at_bar (bar_of program place false) place.addr
stop_of program (Store place value) = stop_at_bar (bar_of program place true) place.addr
stop_of program (StoreEx place value) = stop_at_bar (bar_of program place true) place.addr
stop_of program Clear = None
