-- What each thread has in its hands, by its own accesses in a history; and that each node is on the stack or in somebody's hands.
use Rattle.std.specs.Prelude.{◌≡◌, ◌⊎◌, ℕ, zero, suc, ◌+◌, ◌<◌, ◌==◌, true, if◌then◌else◌, List, [], ◌∷◌}
use Rattle.history.specs.Parts.{entries_of}
use Rattle.history.specs.declared.entry.Entry.{Entry}
use Rattle.history.specs.declared.entry.Entry.TheVariants.{Read, Write}
use Rattle.llsc_base.specs.declared.access.Place.{Place}
use Rattle.stack_runs.specs.Guest.{count_of, link_of, node_at}
use Rattle.stack_runs.specs.Stacks.{AreNodes, IsNode, IsStack, times}

-- what the last load-exclusive of a thread read, and the node that it has taken off the stack and not put back, which is 0 where there
-- is none
pub record Hand : Type 0 where
  pub read : ℕ
  pub node : ℕ

abbrev pub empty_hand : Hand
empty_hand = record { read = 0; node = 0 }

-- After one more access: a store-exclusive that succeeds takes off what the last load-exclusive read, where the hand is empty, and puts
-- back what it has else.
abbrev pub hand_after : Hand → Entry → Hand
hand_after hand (Read thread place value true) = record { read = value; node = hand.node }
hand_after hand (Write thread place value true) = record { read = hand.read; node = if hand.node == 0 then hand.read else 0 }
hand_after hand _ = hand

-- after a list of them
abbrev pub hand_behind : Hand → List Entry → Hand
hand_behind hand [] = hand
hand_behind hand (entry ∷ entries) = hand_behind (hand_after hand entry) entries

-- a thread's, after a list of all threads' accesses
abbrev pub hand_of : ℕ → List Entry → Hand
hand_of thread accesses = hand_behind empty_hand (entries_of thread accesses)

-- how many of the threads below a number have this node in hand
abbrev pub hands_with : (node : ℕ) (accesses : List Entry) → ℕ → ℕ
hands_with node accesses zero = 0
hands_with node accesses (suc thread) =
    hands_with node accesses thread + (if (hand_of thread accesses).node == node then 1 else 0)

-- In this memory, which so many threads left by these accesses, each of so many nodes is once on the stack and in no hand, or else in the
-- hand of one thread and not on the stack; and nothing else is on the stack.
pub record EachIsSomewhere (nodes threads : ℕ) (memory : List ℕ) (accesses : List Entry) : Type 0 where
  pub addresses : List ℕ
  pub stack : IsStack memory addresses
  pub all : AreNodes nodes addresses
  pub once : (index : ℕ) → index < nodes → times (node_at index) addresses + hands_with (node_at index) accesses threads ≡ 1

-- a place is a word of the node, one of so many, that is in a hand
pub record IsInHand (nodes : ℕ) (hand : Hand) (place : Place) : Type 0 where
  pub node : IsNode nodes hand.node
  pub at : (place ≡ link_of hand.node) ⊎ (place ≡ count_of hand.node)
