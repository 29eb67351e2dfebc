-- Only proofs and inner contracts need these words beside those of `specs/Hands`.
use Rattle.std.specs.Prelude.{◌==◌, if◌then◌else◌}
use Rattle.shared_memory.specs.declared.views.View.{View}
use Rattle.version_rule.specs.declared.hands.Reserve.{Reserve}
use Rattle.version_rule.specs.declared.hands.Reserve.TheVariants.{Nothing, Several}
use Rattle.version_rule.specs.declared.hands.Hand.{Hand}

-- the reservation of a seat that has taken in another: of several threads it isn't known
abbrev pub reserve_joined : View Hand → View Hand → Reserve
reserve_joined one other = if one.lead == other.lead then Nothing else Several
