-- What holds of a pass between two calls, and of a seat in a call. This project's own.
use Rattle.std.specs.Prelude.{◌≡◌, ◌+◌, ◌*◌, ◌%◌, ◌^◌, ◌<◌, ◌≤◌, ℕ, Bool, Option, Some, None, List, []}
use Rattle.history.specs.Started.{starts_of}
use Rattle.atomic_table.specs.Seated.{TableId}
use Rattle.shared_memory.specs.Passes.{marked, nobody}
use Rattle.shared_memory.specs.Seen.{IsOneOf, IsSingle}
use Rattle.version_rule.specs.declared.hands.Doing.TheVariants.{Rest}
use Rattle.version_rule.specs.declared.hands.Reserve.{Reserve}
use Rattle.version_rule.specs.declared.hands.Reserve.TheVariants.{Nothing, Row, Several}
use Rattle.shared_memory.specs.declared.plans.Plan.{Plan}
use Rattle.version_rule.specs.StartWords.{all_words}
use Rattle.version_rule.specs.Told.{Mine}
use Rattle.version_memory.specs.declared.passes.Reserved.{Reserved}

-- the table of a memory of this plan
pub record IsMade (plan : Plan) (table : TableId) : Type 0 where
  pub sized : table.words ≡ all_words plan
  pub slotless : table.slots ≡ 0
  pub few : plan.size.threads ≤ 16
  pub some_first : 1 ≤ plan.first
  pub all : plan.first * (1 + plan.spare) ≡ plan.size.threads
  pub some_class : 0 < plan.size.classes
  pub whole : plan.size.mem % 8 ≡ 0
  pub short : plan.size.limit ≤ 2 ^ 62

-- what a pass keeps of a reservation
abbrev pub reserved_of : Reserve → Option Reserved
reserved_of Nothing = None
reserved_of (Row row version) = Some (record { row = row; version = version })
reserved_of Several = None

-- between two calls: the marks and the number are the seat's, no call is in flight, and the reservation is known where the
-- pass has one number
pub record IsBetween (me : Mine) (has : List Bool) (number : ℕ) (reserved : Option Reserved) : Type 0 where
  pub numbers : (t : ℕ) → marked me.0.numbers t ≡ marked has t
  pub lead : me.0.lead ≡ number
  pub holds_it : IsOneOf number (marked has)
  pub left : me.0.left ≡ nobody
  pub right : me.0.right ≡ nobody
  pub rest : me.0.doing.doing ≡ Rest
  pub tied : reserved_of me.0.doing.reserve ≡ reserved
  pub short : (row version : ℕ) → me.0.doing.reserve ≡ Row row version → version ≤ 2 ^ 63
  pub several : me.0.doing.reserve ≡ Several → (t : ℕ) → IsSingle t (marked me.0.numbers) → ⊥
  pub slots : me.1 ≡ []

-- and it is known how many threads its thread has started, where the pass has one number
pub record HasStarted (me : Mine) (started : ℕ) : Type 0 where
  pub counts : (t : ℕ) → IsSingle t (marked me.0.numbers) → starts_of t me.0.seen ≡ started
