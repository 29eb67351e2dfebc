-- Loads and stores ("Load and Store Instructions"), and load-reserved and store-conditional ("Zalrsc"). What becomes of a
-- reservation is memory's matter: here they only ask.
use Rattle.std.specs.Prelude.{ℕ, ◌*◌, ◌%◌, ◌^◌, if◌then◌else◌, Bool, true, false, List, [], ◌∷◌}
use Rattle.llsc_base.specs.Memory.{size_bytes}
use Rattle.llsc_base.specs.Images.{Program, bar_of}
use Rattle.llsc_base.specs.declared.access.Place.{Place}
use Rattle.llsc_base.specs.declared.access.Size.{Size}
use Rattle.llsc_base.specs.declared.access.Size.TheVariants.{B4}
use Rattle.llsc_base.specs.declared.outside.Ask.TheVariants.{Load, Store, LoadEx, StoreEx}
use Rattle.llsc_base.specs.Effects.{asks_unless, completes, loaded_part}
use Rattle.llsc_base.specs.Words.{low32}
use Rattle.rv32_guest.specs.State.{RvState, Effect, advanced, writes}
use Rattle.rv32_guest.specs.Computing.{sign_extended}

-- what a load takes of its reply, as 32 bits: with its sign above it, or with zeros
abbrev pub loaded : (with_sign : Bool) → Size → ℕ → ℕ
loaded with_sign size reply =
    if with_sign then sign_extended (8 * size_bytes size) (loaded_part size reply) else loaded_part size reply

-- a load asks for its place, and writes what it takes of the reply to its register
abbrev pub loads : Program → Place → (with_sign : Bool) → ℕ → List ℕ → RvState → Effect
loads program place with_sign rd [] state = asks_unless (bar_of program place false) place.addr (Load place)
loads program place with_sign rd (reply ∷ _) state = writes state rd (loaded with_sign place.size reply)

-- a store asks for its place with the low part of a register, and is complete with the reply
abbrev pub stores : Program → Place → ℕ → List ℕ → RvState → Effect
stores program place value [] state = asks_unless (bar_of program place true) place.addr (Store place (value % 256 ^ size_bytes place.size))
stores program place value (_ ∷ _) state = completes (advanced state)

abbrev pub place_of : Size → ℕ → Place
place_of size addr = record { addr = addr; size = size }

-- a load-reserved asks for its word, and writes what it takes of the reply to its register
abbrev pub reserves : Program → ℕ → ℕ → List ℕ → RvState → Effect
reserves program addr rd [] state = asks_unless (bar_of program (place_of B4 addr) false) addr (LoadEx (place_of B4 addr))
reserves program addr rd (reply ∷ _) state = writes state rd (loaded_part B4 reply)

-- a store-conditional asks for its word with a value, and writes the reply, 0 where it stored and 1 where not, to its register
abbrev pub stores_conditionally : Program → ℕ → ℕ → ℕ → List ℕ → RvState → Effect
stores_conditionally program addr value rd [] state = asks_unless (bar_of program (place_of B4 addr) true) addr (StoreEx (place_of B4 addr) value)
stores_conditionally program addr value rd (reply ∷ _) state = writes state rd (low32 reply)
