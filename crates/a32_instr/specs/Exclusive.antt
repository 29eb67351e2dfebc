-- Load-exclusive, store-exclusive and clear-exclusive (DDI 0406C A3.4, A8.8.32, A8.8.75 to A8.8.78, A8.8.212 to
-- A8.8.215). What a monitor makes of them is memory's matter: here they only ask.
use Rattle.std.specs.Prelude.{ℕ, ◌+◌, ◌*◌, ◌/◌, ◌%◌, ◌^◌, true, false, List, [], ◌∷◌}
use Rattle.llsc_base.specs.declared.access.Size.{Size}
use Rattle.llsc_base.specs.declared.access.Size.TheVariants.{B1, B2, B4, B8}
use Rattle.llsc_base.specs.declared.access.Place.{Place}
use Rattle.llsc_base.specs.Images.{Program, bar_of}
use Rattle.llsc_base.specs.declared.outside.Ask.TheVariants.{LoadEx, StoreEx, Clear}
use Rattle.a32_instr.specs.State.{State, Effect, register, advanced, with_register}
use Rattle.llsc_base.specs.Effects.{asks, asks_unless, completes, loaded_part}
use Rattle.llsc_base.specs.Words.{low32}

-- the place of a size at the address that a register has
abbrev pub place_at : Size → ℕ → State → Place
place_at size rn state = record { addr = register state rn; size = size }

-- the second register of a doubleword is the next one
abbrev pub next_register : ℕ → ℕ
next_register rt = (rt + 1) % 16

-- a loaded value in its register, with zeros above it; a doubleword has its low word in the first of two registers
abbrev pub with_loaded : Size → ℕ → ℕ → State → State
with_loaded B1 rt value state = with_register state rt value
with_loaded B2 rt value state = with_register state rt value
with_loaded B4 rt value state = with_register state rt value
with_loaded B8 rt value state =
    with_register (with_register state rt (low32 value)) (next_register rt) (value / 2 ^ 32)

-- the value that is stored: the low part of a register, or two registers together
abbrev pub stored_part : Size → ℕ → State → ℕ
stored_part B1 rt state = register state rt % 2 ^ 8
stored_part B2 rt state = register state rt % 2 ^ 16
stored_part B4 rt state = register state rt
stored_part B8 rt state = register state (next_register rt) * 2 ^ 32 + register state rt

-- a load-exclusive asks for its place, and writes what it takes of the reply to its register
abbrev pub loads_exclusive : Size → Program → Place → ℕ → List ℕ → State → Effect
loads_exclusive size program place rt [] state = asks_unless (bar_of program place false) place.addr (LoadEx place)
loads_exclusive size program place rt (reply ∷ _) state = completes (advanced (with_loaded size rt (loaded_part size reply) state))

-- a store-exclusive asks for its place with a value, and writes the reply, 0 where it stored, to its status register
abbrev pub stores_exclusive : Program → Place → ℕ → ℕ → List ℕ → State → Effect
stores_exclusive program place value rd [] state = asks_unless (bar_of program place true) place.addr (StoreEx place value)
stores_exclusive program place value rd (reply ∷ _) state = completes (advanced (with_register state rd (low32 reply)))

abbrev pub load_exclusive : Size → ℕ → ℕ → Program → List ℕ → State → Effect
load_exclusive size rn rt program replies state = loads_exclusive size program (place_at size rn state) rt replies state

abbrev pub store_exclusive : Size → ℕ → ℕ → ℕ → Program → List ℕ → State → Effect
store_exclusive size rn rd rt program replies state =
    stores_exclusive program (place_at size rn state) (stored_part size rt state) rd replies state

-- a clear-exclusive asks for the clear
abbrev pub clear_exclusive : List ℕ → State → Effect
clear_exclusive [] state = asks Clear
clear_exclusive (_ ∷ _) state = completes (advanced state)
