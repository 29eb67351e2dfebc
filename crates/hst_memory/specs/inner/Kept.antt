-- Only proofs and inner contracts need these words beside those of `specs/Kept`.
-- What a memory that is kept by names and a section keeps between any two of its steps. This project's own.
use Rattle.std.specs.Prelude.{◌≡◌, ◌⊎◌, ◌/◌, ◌<◌, ◌≤◌, ℕ, List, length, slice_index}
use mathlib.Core.Option.{some}
use lib.ListN.{get_elem?}
use Rattle.llsc_base.specs.Sizes.{Numbers}
use Rattle.history.specs.Standing.{Standing}
use Rattle.history.specs.Started.{AreBorn}
use Rattle.history.specs.declared.entry.Entry.{Entry}
use Rattle.atomic_table.specs.Table.{State}
use Rattle.shared_memory.specs.declared.views.View.{View}
use Rattle.shared_memory.specs.Rule.{Tells}
use Rattle.shared_memory.specs.Layout.{cell_word, tag_word, words_of}
use Rattle.hst_memory.specs.declared.hands.Hand.{Hand}
use Rattle.shared_memory.specs.declared.plans.Plan.{Plan}
use Rattle.hst_memory.specs.inner.Hands.{alone_word, total_of, weight_of}
use Rattle.hst_memory.specs.inner.Knowledge.{Knows}

-- one thread is inside alone
pub record HasOneAlone (views : List (View Hand)) : Type 0 where
  pub seat : ℕ
  pub view : View Hand
  pub at : get_elem? views seat ≡ some view
  pub heavy : weight_of view.doing.doing ≡ alone_word
  pub only : total_of views ≡ alone_word

-- the section's word is the number of stores inside, at most that of the threads, or says that one thread is inside alone
pub record IsSection (threads word : ℕ) (views : List (View Hand)) : Type 0 where
  pub counts : word ≡ total_of views
  pub few : (total_of views ≤ threads) ⊎ HasOneAlone views

-- the words are those of how things stand: each tag is the name of its class, and each cell is memory's
pub record IsLaid (size : Numbers) (words : List ℕ) (s : Standing) : Type 0 where
  pub long : length words ≡ words_of size
  pub tags : (class : ℕ) → class < size.classes → slice_index words (tag_word class) ≡ s.name class
  pub cells : (cell : ℕ) → cell < size.mem / 8 → slice_index words (cell_word size cell) ≡ s.cells cell

-- what is kept
pub record Kept (plan : Plan) (words : List ℕ) (views : List (View Hand)) : Type 0 where
  pub history : List Entry
  pub standing : Standing
  pub born : AreBorn plan.size.threads 0 history
  pub tells : Tells (Knows plan.size) plan.size plan.image.value.bytes views history standing
  pub laid : IsLaid plan.size words standing
  pub section : IsSection plan.size.threads (slice_index words 0) views

abbrev pub KeptBy : Plan → State (Unit {0}) (View Hand) → Type 0
KeptBy plan state = Kept plan state.words state.views
