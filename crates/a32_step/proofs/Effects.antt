-- What is so of an instruction's effect behind so many replies.
use Rattle.std.proofs.Common.{ℕ, ◌%◌, ◌<◌, ◌==◌, if◌then◌else◌, Bool, true, false, List, length}
use Rattle.llsc_base.specs.Images.{Program}
use Rattle.llsc_base.specs.declared.access.Bar.{Bar}
use Rattle.llsc_base.specs.declared.access.Bar.TheVariants as bar
use Rattle.llsc_base.specs.declared.outside.Ask.{Ask}
use Rattle.a32_instr.specs.State.{State, Effect, jumps, writes}
use Rattle.llsc_base.specs.Effects.{asks, calls, completes, stops, barred}
pub use Rattle.guest_core.specs.Machine.{IsOwn}
use Rattle.guest_core.specs.Machine.{wanted_of, IsTested, PassesTests, ValueFits}

-- an access that is asked for: it has passed its tests, fewer than 16 came before it, and where registers are words its value fits
pub record IsSound (words : Type 0) (program : Program) (replies : List ℕ) (ask : Ask) : Type 0 where
  pub passes : PassesTests program ask
  pub room : length replies < 16
  pub fits : words → ValueFits ask

-- an access that an effect asks for is sound, and its stop is an instruction's
abbrev pub Stands : Type 0 → Program → List ℕ → Effect → Type 0
Stands words program replies (asks ask) = IsSound words program replies ask
Stands words program replies (calls call) = Unit {0}
Stands words program replies (completes state) = Unit {0}
Stands words program replies (stops stop) = IsOwn stop

pub barred_own : (bar : Bar) (addr : ℕ) → IsOwn (barred bar addr)
barred_own bar.Alignment addr = tt
barred_own bar.Outside addr = tt
barred_own bar.ReadOnly addr = tt

-- such an access may be asked for
pub allowed : (words : Type 0) (program : Program) (replies : List ℕ) (effect : Effect) → words → Stands words program replies effect → IsTested program replies (wanted_of effect)
allowed words program replies (asks ask) are stands = record { passes = stands.passes; fits = stands.fits are; room = stands.room }
allowed words program replies (calls call) are stands = tt
allowed words program replies (completes state) are stands = tt
allowed words program replies (stops stop) are stands = tt

module _ (words : Type 0) (program : Program) (replies : List ℕ) where
  -- of two effects that stand, the chosen one does
  pub chosen : (b : Bool) (x y : Effect) → Stands words program replies x → Stands words program replies y → Stands words program replies (if b then x else y)
  chosen true x y p q = p
  chosen false x y p q = q

  pub jumps_stands : (state : State) (value : ℕ) → Stands words program replies (jumps state value)
  jumps_stands state value = chosen (value % 2 == 1) _ _ tt (chosen (value % 4 == 2) _ _ tt tt)

  pub writes_stands : (state : State) (r value : ℕ) → Stands words program replies (writes state r value)
  writes_stands state r value = chosen (r == 15) _ _ (jumps_stands state value) tt
