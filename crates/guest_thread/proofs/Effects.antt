-- What is wanted names the effect.
use Rattle.std.proofs.Common.{◌≡◌, refl}
use Rattle.llsc_base.specs.declared.outside.Ask.{Ask}
use Rattle.llsc_base.specs.declared.outside.CallAsk.{CallAsk}
use Rattle.llsc_base.specs.declared.outside.Stop.{Stop}
use Rattle.llsc_base.specs.Effects.{EffectOf, asks, calls, completes, stops}
use Rattle.guest_core.specs.declared.phases.Wanted.TheVariants as wanted
use Rattle.guest_core.specs.Machine.{wanted_of}

pub effect_asks : {S : Type 0} (effect : EffectOf S) (ask : Ask) → wanted.Access ask ≡ wanted_of effect → effect ≡ asks ask
effect_asks (asks other) ask e = cc
effect_asks (calls call) ask e = cc
effect_asks (completes state) ask e = cc
effect_asks (stops stop) ask e = cc

pub effect_calls : {S : Type 0} (effect : EffectOf S) (call : CallAsk) → wanted.Call call ≡ wanted_of effect → effect ≡ calls call
effect_calls (asks ask) call e = cc
effect_calls (calls other) call e = cc
effect_calls (completes state) call e = cc
effect_calls (stops stop) call e = cc

pub effect_stops : {S : Type 0} (effect : EffectOf S) (stop : Stop) → wanted.Stopped stop ≡ wanted_of effect → effect ≡ stops stop
effect_stops (asks ask) stop e = cc
effect_stops (calls call) stop e = cc
effect_stops (completes state) stop e = cc
effect_stops (stops other) stop e = cc

pub effect_completes : {S : Type 0} (effect : EffectOf S) → wanted.Done ≡ wanted_of effect → (state : S) × (effect ≡ completes state)
effect_completes (asks ask) e = cc
effect_completes (calls call) e = cc
effect_completes (completes state) e = (state, refl)
effect_completes (stops stop) e = cc
