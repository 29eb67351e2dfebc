-- Only proofs and inner contracts need these words beside those of `specs/Asking`.
use Rattle.std.specs.Prelude.{true, false}
use Rattle.llsc_base.specs.Images.{Program, bar_of}
use Rattle.llsc_base.specs.declared.outside.Ask.{Ask}
use Rattle.llsc_base.specs.declared.outside.Ask.TheVariants.{Load, LoadEx, Store, StoreEx, Clear}
use Rattle.llsc_base.specs.Effects.{EffectOf, asks, asks_unless}

-- what an instruction of this access does before it has had the reply
abbrev pub asked_first : {S : Type 0} → Program → Ask → EffectOf S
asked_first program (Load place) = asks_unless (bar_of program place false) place.addr (Load place)
asked_first program (LoadEx place) = asks_unless (bar_of program place false) place.addr (LoadEx place)
asked_first program (Store place value) = asks_unless (bar_of program place true) place.addr (Store place value)
asked_first program (StoreEx place value) = asks_unless (bar_of program place true) place.addr (StoreEx place value)
asked_first program Clear = asks Clear
