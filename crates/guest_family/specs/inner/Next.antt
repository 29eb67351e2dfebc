-- Only proofs and inner contracts need these words.
-- What a thread comes to next: its end, or a call that starts another.
use Rattle.std.specs.Prelude.{◌≡◌, ℕ, ◌+◌, ◌%◌, ◌≤◌, ◌==◌, not, if◌then◌else◌, Bool, Option, Some, None, List, length}
use Rattle.atomic_table.specs.Seated.{TableId}
use Rattle.llsc_base.specs.Images.{Program}
use Rattle.history.specs.declared.entry.Entry.{Entry}
use Rattle.shared_memory.specs.Origin.{Origin}
use Rattle.a32_step.specs.Machine.{Machine, a32}
use Rattle.guest_core.specs.Machine.{returned_of}
use Rattle.history.specs.Starts.{Started}
use Rattle.guest_thread.specs.StockRun.{Stock, bad_entry, none_left}
use Rattle.guest_thread.specs.declared.pieces.Part.{Part}
use Rattle.guest_family.specs.inner.UnderWay.{HasCalled, HasReachedEnd}
use Rattle.guest_family.specs.declared.running.Next.{Next}
use Rattle.guest_family.specs.declared.running.Next.TheVariants.{Ended, Calls}

-- a thread has no number left for those that it starts
abbrev pub HasNoneLeft : Option Stock → List Started → Type 0
HasNoneLeft None starts = Unit {0}
HasNoneLeft (Some stock) starts = stock.count ≤ length starts

-- what a call is answered that starts no thread
abbrev pub refusal_of : ℕ → ℕ
refusal_of entry = if not (entry % 4 == 0) then bad_entry else none_left

-- a thread whose call was answered, which is a step
abbrev pub after_answer : {P : Type 0} → Part P Machine → ℕ → Part P Machine
after_answer part value = record part { cpu = returned_of a32 part.cpu value; steps = part.steps + 1 }

-- where it calls, it does so for a thread that begins at a word
abbrev pub IsAligned : {P : Type 0} → Next P → Type 0
IsAligned (Ended done) = Unit {0}
IsAligned (Calls part entry arg) = entry % 4 ≡ 0

module _ {P : Type 0} (home : P → TableId) (numbers : P → ℕ → Bool) (seen : P → List Entry) where
  -- from where it stood with that pass and so many steps
  abbrev pub IsNext : TableId → Origin → Program → (budget t : ℕ) → Machine → (old : P) → (steps : ℕ) → Next P → Type 0
  IsNext mem origin program budget t start old steps (Ended done) = HasReachedEnd home numbers seen mem origin program budget t start old done
  IsNext mem origin program budget t start old steps (Calls part entry arg) =
      HasCalled home numbers seen mem origin program budget t start old part entry arg × (steps ≤ part.steps)
