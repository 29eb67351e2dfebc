-- Only proofs and inner contracts need these words beside those of `specs/Passes`.
use Rattle.std.specs.Prelude.{◌≡◌}
use Rattle.atomic_table.specs.Seated.{TableId}
use Rattle.atomic_table.specs.declared.shared.Seat.{Seat}
use Rattle.atomic_table.specs.declared.shared.Shared.{Shared}
use Rattle.shared_memory.specs.Passes.{marked}
use Rattle.shared_memory.specs.Seen.{IsSingle}
use Rattle.shared_memory.specs.declared.plans.Plan.{Plan}
use Rattle.shared_memory.specs.declared.views.View.{View}
use Rattle.hst_memory.specs.declared.hands.Hand.{Hand}
use Rattle.hst_memory.specs.declared.plans.HstRule.{HstRule}
use Rattle.hst_memory.specs.Told.{Mine}
use Rattle.hst_memory.specs.Passes.{IsMade}

-- a seat of the table that has one number may make a step
pub record IsReady (plan : Plan) (table home : TableId) (me : Mine) : Type 0 where
  pub made : IsMade plan table
  pub home_is : home ≡ table
  pub single : IsSingle me.0.lead (marked me.0.numbers)

-- a seat may make a step on the table
abbrev pub MayStep : Shared (Unit {0}) (View Hand) Plan HstRule → Seat (Unit {0}) (View Hand) → Type 0
MayStep shared seat = IsReady shared.key shared.table_id seat.table_id seat.me
