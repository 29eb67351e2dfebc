-- What becomes of a thread's reservation. This project's own.
use Rattle.std.specs.Prelude.{ℕ, ◌==◌, if◌then◌else◌}
use Rattle.llsc_base.specs.Memory.{class_of, row_of}
use Rattle.llsc_base.specs.Sizes.{Numbers}
use Rattle.llsc_base.specs.declared.access.Place.{Place}
use Rattle.version_rule.specs.declared.hands.Doing.{Doing}
use Rattle.version_rule.specs.declared.hands.Reserve.{Reserve}
use Rattle.version_rule.specs.declared.hands.Reserve.TheVariants.{Nothing, Row, Several}
use Rattle.version_rule.specs.declared.hands.Hand.{Hand}

abbrev pub hand : Doing → Reserve → Hand
hand doing reserve = record { doing = doing; reserve = reserve }

-- the class of a place
abbrev pub class_at : Numbers → Place → ℕ
class_at size place = class_of size.classes (row_of size.granule place)

-- a reservation after the thread's own store to a place, which ends it where it falls into the class
abbrev pub reserve_after : Numbers → Place → Reserve → Reserve
reserve_after size place Nothing = Nothing
reserve_after size place Several = Several
reserve_after size place (Row row version) = if class_at size place == class_of size.classes row then Nothing else Row row version
