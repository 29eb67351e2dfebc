-- What a memory that is kept by versions keeps between any two of its steps. This project's own.
use Rattle.std.specs.Prelude.{◌≡◌, ◌*◌, ◌/◌, ◌%◌, ◌<◌, ◌≤◌, ℕ, List, length, slice_index, true}
use Rattle.llsc_base.specs.Sizes.{Numbers}
use Rattle.history.specs.Standing.{Standing}
use Rattle.history.specs.Started.{AreBorn}
use Rattle.history.specs.Steady.{AreSteady}
use Rattle.history.specs.declared.entry.Entry.{Entry}
use Rattle.atomic_table.specs.Table.{State}
use Rattle.shared_memory.specs.declared.views.View.{View}
use Rattle.shared_memory.specs.Origin.{Origin}
use Rattle.shared_memory.specs.Rule.{Tells}
use Rattle.shared_memory.specs.Layout.{cell_word, tag_word, words_of}
use Rattle.version_rule.specs.declared.hands.Hand.{Hand}
use Rattle.shared_memory.specs.declared.plans.Plan.{Plan}
use Rattle.version_rule.specs.Knowledge.{Flies, Knows}
use Rattle.version_rule.specs.StartWords.{AreStarts}

-- the words are those of how things stand: each tag says how many writes of its class have begun, and are over, and each cell
-- is memory's
pub record IsLaid (size : Numbers) (words : List ℕ) (s : Standing) : Type 0 where
  pub long : words_of size ≤ length words
  pub first : slice_index words 0 ≡ 0
  pub tags : (class : ℕ) → class < size.classes → slice_index words (tag_word class) ≡ s.edges class
  pub cells : (cell : ℕ) → cell < size.mem / 8 → slice_index words (cell_word size cell) ≡ s.cells cell

-- of each class: where its tag is odd one write is in flight, that of the thread which last began one, and else none is, and
-- the tag is twice its writes. It has no more writes than it may have
pub record AreClasses (size : Numbers) (s : Standing) : Type 0 where
  pub busy : (class : ℕ) → s.edges class % 2 ≡ 1 → Flies size s (s.holder class) class
  pub lone : (thread class : ℕ) → Flies size s thread class → (s.edges class % 2 ≡ 1) × (s.holder class ≡ thread)
  pub quiet : (class : ℕ) → s.edges class % 2 ≡ 0 → 2 * s.writes class ≡ s.edges class
  pub most : (class : ℕ) → s.edges class ≤ 2 * size.limit

-- what is kept
pub record Kept (plan : Plan) (words : List ℕ) (views : List (View Hand)) : Type 0 where
  pub history : List Entry
  pub standing : Standing
  pub born : AreBorn plan.first plan.spare history
  pub steady : AreSteady plan.size history
  pub tells : Tells (Knows plan.size) plan.size plan.image.value.bytes views history standing
  pub laid : IsLaid plan.size words standing
  pub starts : AreStarts plan words history
  pub classes : AreClasses plan.size standing

abbrev pub KeptBy : Plan → State (Unit {0}) (View Hand) → Type 0
KeptBy plan state = Kept plan state.words state.views

-- what such a memory was made with
abbrev pub origin_of : Plan → Origin
origin_of plan = record { size = plan.size; first = plan.first; spare = plan.spare; bytes = plan.image.value.bytes; spends = true; steady = true }
