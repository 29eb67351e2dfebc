use Rattle.std.proofs.Common.{refl}
use Rattle.llsc_base.specs.declared.outside.Stop.TheVariants.{Exit}
use Rattle.a32_guests.specs.Cuts.{at_budget, at_limit}
use Rattle.a32_guests.proofs.Onward.{never_cut}
use Rattle.a32_guests.proofs.laws.stops_that_cut_off.Goals as goal

pub returns : goal.returns
returns c = record { steps = at_budget; limit = at_limit; exit = λ code may. never_cut (Exit code) code may refl }
