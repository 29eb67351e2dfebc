-- What holds of a pass between two calls, and of a seat in a call. This project's own.
use Rattle.std.specs.Prelude.{◌≡◌, ◌%◌, ◌<◌, ◌≤◌, ℕ, Bool, Option, Some, None, List, []}
use Rattle.atomic_table.specs.Seated.{TableId}
use Rattle.shared_memory.specs.Passes.{marked, nobody}
use Rattle.shared_memory.specs.Seen.{IsOneOf, IsSingle}
use Rattle.hst_memory.specs.declared.hands.Doing.TheVariants.{Rest}
use Rattle.hst_memory.specs.declared.hands.Reserve.{Reserve}
use Rattle.hst_memory.specs.declared.hands.Reserve.TheVariants.{Nothing, Row, Several}
use Rattle.shared_memory.specs.declared.plans.Plan.{Plan}
use Rattle.shared_memory.specs.Layout.{words_of}
use Rattle.hst_memory.specs.Told.{Mine}

-- the table of a memory of this plan
pub record IsMade (plan : Plan) (table : TableId) : Type 0 where
  pub sized : table.words ≡ words_of plan.size
  pub slotless : table.slots ≡ 0
  pub few : plan.size.threads ≤ 16
  pub some_class : 0 < plan.size.classes
  pub whole : plan.size.mem % 8 ≡ 0

-- the row that a pass keeps of a reservation
abbrev pub row_of_reserve : Reserve → Option ℕ
row_of_reserve Nothing = None
row_of_reserve (Row row) = Some row
row_of_reserve Several = None

-- between two calls: the marks and the number are the seat's, no call is in flight, and the reservation is known where the
-- pass has one number
pub record IsBetween (me : Mine) (has : List Bool) (number : ℕ) (reserved : Option ℕ) : Type 0 where
  pub numbers : (t : ℕ) → marked me.0.numbers t ≡ marked has t
  pub lead : me.0.lead ≡ number
  pub holds_it : IsOneOf number (marked has)
  pub left : me.0.left ≡ nobody
  pub right : me.0.right ≡ nobody
  pub rest : me.0.doing.doing ≡ Rest
  pub tied : row_of_reserve me.0.doing.reserve ≡ reserved
  pub several : me.0.doing.reserve ≡ Several → (t : ℕ) → IsSingle t (marked me.0.numbers) → ⊥
  pub slots : me.1 ≡ []
