-- Only proofs and inner contracts need these words.
-- What holds of a memory that is tried, and of its passes.
use Rattle.std.specs.Prelude.{◌≡◌, ◌+◌, ◌<◌, ◌≤◌, ℕ, All, Bool, IsTrue, List, length}
use Rattle.std.specs.List.{list_any}
use Rattle.llsc_base.specs.Memory.{is_aligned, size_bytes}
use Rattle.llsc_base.specs.declared.access.Place.{Place}
use Rattle.atomic_table.specs.Seated.{TableId}
use Rattle.history.specs.Monitor.{Monitor}
use Rattle.shared_memory.specs.Origin.{Origin}
use Rattle.shared_memory.specs.Seen.{IsOneOf, IsSingle, joint}

-- a machine of 65,536 bytes and so many threads, which all begin by themselves
pub record IsOf (threads : ℕ) (origin : Origin) : Type 0 where
  pub mem : origin.size.mem ≡ 65536
  pub threads_are : origin.size.threads ≡ threads
  pub first : origin.first ≡ threads

-- a machine of 65,536 bytes and three threads, of which the first may start the others
pub record IsFamily (origin : Origin) : Type 0 where
  pub mem : origin.size.mem ≡ 65536
  pub first : origin.first ≡ 1
  pub spare : origin.spare ≡ 2

-- two places that may be accessed there
pub record AreWords (one other : Place) : Type 0 where
  pub one_aligned : IsTrue (is_aligned one)
  pub one_inside : one.addr + size_bytes one.size ≤ 65536
  pub other_aligned : IsTrue (is_aligned other)
  pub other_inside : other.addr + size_bytes other.size ≤ 65536

-- what a memory says of a pass: which memory made it, and which numbers it holds
module _ {P : Type 0} (home : P → TableId) (numbers : P → ℕ → Bool) where
  -- the pass of one thread
  pub record IsPassOf (mem : TableId) (thread : ℕ) (pass : P) : Type 0 where
    pub home_is : home pass ≡ mem
    pub single : IsSingle thread (numbers pass)

  -- a pass of one of a memory's threads, which may make accesses there
  pub record MayLog (mem : TableId) (origin : Origin) (pass : P) : Type 0 where
    pub thread : ℕ
    pub below : thread < origin.first
    pub has : IsPassOf mem thread pass

  -- each of these is, beside its log
  abbrev pub MayAllLog : {L : Type 0} → TableId → Origin → List (L × P) → Type 0
  MayAllLog mem origin logged = All (λ one. MayLog mem origin one.1) logged

-- the numbers of all of these passes
abbrev pub numbers_of : {L P : Type 0} → (P → ℕ → Bool) → List (L × P) → ℕ → Bool
numbers_of numbers logged = λ thread. list_any (λ one. numbers one.1 thread) logged

-- a pass has the numbers of one and of all of these
abbrev pub HasAll : {L P : Type 0} → (P → ℕ → Bool) → P → List (L × P) → P → Type 0
HasAll numbers first logged all = (thread : ℕ) → IsOneOf thread (joint (numbers first) (numbers_of numbers logged)) → IsOneOf thread (numbers all)

-- Arm's memory and monitors for a machine of so many threads
pub record IsFor (threads : ℕ) (monitor : Monitor) : Type 0 where
  pub bytes : length monitor.memory ≡ 65536
  pub threads_are : length monitor.marks ≡ threads
