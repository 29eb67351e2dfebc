-- Only proofs and inner contracts need these words beside those of `specs/Passes`.
use Rattle.std.specs.Prelude.{◌≡◌, ◌≤◌, ◌==◌, if◌then◌else◌, Option, Some, None}
use Rattle.llsc_base.specs.Memory.{class_of}
use Rattle.llsc_base.specs.Sizes.{Numbers}
use Rattle.llsc_base.specs.declared.access.Place.{Place}
use Rattle.history.specs.Started.{MayAct}
use Rattle.atomic_table.specs.Seated.{TableId}
use Rattle.atomic_table.specs.declared.shared.Seat.{Seat}
use Rattle.atomic_table.specs.declared.shared.Shared.{Shared}
use Rattle.shared_memory.specs.Passes.{marked}
use Rattle.shared_memory.specs.Seen.{IsSingle}
use Rattle.shared_memory.specs.declared.plans.Plan.{Plan}
use Rattle.shared_memory.specs.declared.views.View.{View}
use Rattle.version_rule.specs.declared.hands.Hand.{Hand}
use Rattle.version_rule.specs.declared.plans.VersionRule.{VersionRule}
use Rattle.version_rule.specs.Hands.{class_at}
use Rattle.version_rule.specs.Told.{Mine}
use Rattle.version_memory.specs.declared.passes.Reserved.{Reserved}
use Rattle.version_memory.specs.Passes.{IsMade}

-- a seat of the table that has one number may make a step, where its thread may act by what it has seen
pub record IsReady (plan : Plan) (table home : TableId) (me : Mine) : Type 0 where
  pub made : IsMade plan table
  pub home_is : home ≡ table
  pub single : IsSingle me.0.lead (marked me.0.numbers)
  pub acts : MayAct plan.first me.0.lead me.0.seen

-- a seat may make a step on the table
abbrev pub MayStep : Shared (Unit {0}) (View Hand) Plan VersionRule → Seat (Unit {0}) (View Hand) → Type 0
MayStep shared seat = IsReady shared.key shared.table_id seat.table_id seat.me

-- a seat of the table that has one number, of a thread that doesn't begin by itself, may look whether it was started
pub record IsAwaiting (plan : Plan) (table home : TableId) (me : Mine) : Type 0 where
  pub made : IsMade plan table
  pub home_is : home ≡ table
  pub single : IsSingle me.0.lead (marked me.0.numbers)
  pub from : plan.first ≤ me.0.lead

-- a seat may look on the table whether its thread was started
abbrev pub MayAwait : Shared (Unit {0}) (View Hand) Plan VersionRule → Seat (Unit {0}) (View Hand) → Type 0
MayAwait shared seat = IsAwaiting shared.key shared.table_id seat.table_id seat.me

-- a reservation after the thread's own store to a place, which ends it where it falls into the class
abbrev pub reserved_after : Numbers → Place → Option Reserved → Option Reserved
reserved_after size place None = None
reserved_after size place (Some reserved) = if class_at size place == class_of size.classes reserved.row then None else Some reserved
