-- What a shared memory was made with, and which histories are legal of it: this project's own.
use Rattle.std.specs.Prelude.{◌≡◌, ℕ, ◌≤◌, Bool, List, []}
use Rattle.llsc_base.specs.Sizes.{Numbers}
use Rattle.history.specs.Parts.{entries_of}
use Rattle.history.specs.Legal.{IsLegal}
use Rattle.history.specs.Started.{AreBorn}
use Rattle.history.specs.declared.entry.Entry.{Entry}

-- the machine's numbers, how many threads begin by themselves, how many each of those may start, the bytes of memory at
-- first, whether a store may be refused because its class has had all of its writes, and whether a store-exclusive loses to
-- nothing but writes of other threads
pub record Origin : Type 0 where
  pub size : Numbers
  pub first : ℕ
  pub spare : ℕ
  pub bytes : List ℕ
  pub spends : Bool
  pub steady : Bool

-- a history of such a memory: it is legal, no thread that the machine doesn't have stands in it, and each that stands in it
-- begins by itself or was started before
pub record IsLegalFrom (origin : Origin) (history : List Entry) : Type 0 where
  pub legal : IsLegal origin.size origin.bytes history
  pub known : (thread : ℕ) → origin.size.threads ≤ thread → entries_of thread history ≡ []
  pub born : AreBorn origin.first origin.spare history
