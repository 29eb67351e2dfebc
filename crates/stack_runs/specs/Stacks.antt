-- What stands on the stack in a memory, and what the nodes count.
use Rattle.std.specs.Prelude.{◌≡◌, ℕ, zero, suc, ◌+◌, ◌<◌, ◌==◌, if◌then◌else◌, List, [], ◌∷◌}
use Rattle.llsc_base.specs.Memory.{value_at}
use Rattle.stack_runs.specs.Guest.{count_of, link_of, node_at, top}

-- the address of the first of these nodes, and 0 where there is none
abbrev pub first_of : List ℕ → ℕ
first_of [] = 0
first_of (node ∷ rest) = node

-- the link of each of these nodes is to the next one, and that of the last to none
abbrev pub AreLinked : List ℕ → List ℕ → Type 0
AreLinked memory [] = Unit {0}
AreLinked memory (node ∷ rest) = (value_at memory (link_of node) ≡ first_of rest) × AreLinked memory rest

-- the nodes at these addresses are those of the stack, from its top down
pub record IsStack (memory addresses : List ℕ) : Type 0 where
  pub first : value_at memory top ≡ first_of addresses
  pub linked : AreLinked memory addresses

-- how often a number stands in a list
abbrev pub times : ℕ → List ℕ → ℕ
times number [] = 0
times number (other ∷ rest) = (if other == number then 1 else 0) + times number rest

-- a number is the address of one of so many nodes
pub record IsNode (nodes address : ℕ) : Type 0 where
  pub index : ℕ
  pub known : index < nodes
  pub at : address ≡ node_at index

abbrev pub AreNodes : (nodes : ℕ) → List ℕ → Type 0
AreNodes nodes [] = Unit {0}
AreNodes nodes (address ∷ rest) = IsNode nodes address × AreNodes nodes rest

-- The stack holds every one of so many nodes once, and nothing else: none is lost, and none is there twice.
pub record HoldsEachOnce (nodes : ℕ) (memory : List ℕ) : Type 0 where
  pub addresses : List ℕ
  pub stack : IsStack memory addresses
  pub all : AreNodes nodes addresses
  pub once : (index : ℕ) → index < nodes → times (node_at index) addresses ≡ 1

-- the sum of what so many nodes count
abbrev pub counts_below : List ℕ → (nodes : ℕ) → ℕ
counts_below memory zero = 0
counts_below memory (suc index) = counts_below memory index + value_at memory (count_of (node_at index))
