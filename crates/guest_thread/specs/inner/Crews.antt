-- Only proofs and inner contracts need these words beside those of `specs/Crews`.
use Rattle.std.specs.Prelude.{◌≡◌, All, ℕ, ◌<◌, ◌^◌, Bool, true, List, [], ◌∷◌}
use Rattle.atomic_table.specs.Seated.{TableId}
use Rattle.llsc_base.specs.Images.{Program}
use Rattle.history.specs.declared.entry.Entry.{Entry}
use Rattle.shared_memory.specs.Origin.{Origin}
use Rattle.shared_memory.specs.Seen.{IsOneOf}
use Rattle.llsc_base.specs.declared.outside.Stop.TheVariants.{TagLimit}
use Rattle.guest_core.specs.Machine.{InstructionSet}
use Rattle.guest_thread.specs.Counting.{accesses_counted, counts_in}
use Rattle.guest_thread.specs.Outcome.{IsEndOn}
use Rattle.guest_thread.specs.Start.{thread_start}
use Rattle.guest_thread.specs.declared.ends.GuestEnd.{GuestEnd}
use Rattle.guest_thread.specs.declared.gathering.Ran.{Ran}

module _ {I S : Type 0} (set : InstructionSet I S) where
  -- how a thread ended that began by itself, in a history; where it was stopped at a store, the memory counts a class's writes
  pub record IsEndOf (program : Program) (origin : Origin) (budget : ℕ) (history : List Entry) (t : ℕ) (end : GuestEnd) : Type 0 where
    pub thread : end.thread ≡ t
    pub end_on : IsEndOn set program origin.size budget (thread_start set program origin.size origin.first t) history end
    pub spends : (addr : ℕ) → end.stop ≡ TagLimit addr → origin.spends ≡ true
    pub few : accesses_counted (counts_in end) < 2 ^ 45

  -- the ends of these threads, one of each, in this order
  abbrev pub AreEndsOf : Program → Origin → ℕ → List Entry → List ℕ → List GuestEnd → Type 0
  AreEndsOf program origin budget history [] [] = Unit {0}
  AreEndsOf program origin budget history [] (end ∷ ends) = ⊥
  AreEndsOf program origin budget history (t ∷ ts) [] = ⊥
  AreEndsOf program origin budget history (t ∷ ts) (end ∷ ends) = IsEndOf program origin budget history t end × AreEndsOf program origin budget history ts ends

-- each of these numbers is one that a test takes
abbrev pub AreTaken : (ℕ → Bool) → List ℕ → Type 0
AreTaken numbers ts = All (λ t. IsOneOf t numbers) ts

module _ {I S : Type 0} (set : InstructionSet I S) {P : Type 0} (home : P → TableId) (numbers : P → ℕ → Bool) (seen : P → List Entry) where
  -- the threads of these numbers were run: the pass is the memory's and holds all of their numbers, and by what it has seen they have
  -- these ends
  pub record HaveEnded (mem : TableId) (origin : Origin) (program : Program) (budget : ℕ) (threads : List ℕ) (ran : Ran P) : Type 0 where
    pub memory : home ran.pass ≡ mem
    pub taken : AreTaken (numbers ran.pass) threads
    pub ends : AreEndsOf set program origin budget (seen ran.pass) threads ran.ends.items
