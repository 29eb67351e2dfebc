-- Loads and stores of a block of registers (DDI 0406C A5.5, A8.8.58 to A8.8.61, A8.8.199 to A8.8.202).
use Rattle.std.specs.Prelude.{ℕ, zero, suc, ◌+◌, ◌-◌, ◌*◌, ◌/◌, ◌%◌, ◌^◌, ◌==◌, not, nat_lt, if◌then◌else◌, Bool, true, false, Option, Some, None, List, [], ◌∷◌, filter, length, slice_index, slice_set}
use Rattle.llsc_base.specs.Images.{Program, first_barred, word_place}
use Rattle.llsc_base.specs.declared.access.BarredWord.{BarredWord}
use Rattle.llsc_base.specs.declared.access.Place.{Place}
use Rattle.llsc_base.specs.declared.outside.Ask.{Ask}
use Rattle.llsc_base.specs.declared.outside.Ask.TheVariants.{Load, Store}
use Rattle.a32_instr.specs.State.{State, Effect, register, advanced, jumps}
use Rattle.llsc_base.specs.Effects.{asks, completes, stops, barred}
use Rattle.llsc_base.specs.Words.{low32}
use Rattle.a32_instr.specs.LoadStore.{moved}

-- register r stands in a list where bit r is set
abbrev pub is_listed : ℕ → ℕ → Bool
is_listed list r = list / 2 ^ r % 2 == 1

-- the registers of a list, from the lowest up
unfoldable pub registers_of : ℕ → List ℕ
registers_of list = filter (is_listed list) (0 ∷ 1 ∷ 2 ∷ 3 ∷ 4 ∷ 5 ∷ 6 ∷ 7 ∷ 8 ∷ 9 ∷ 10 ∷ 11 ∷ 12 ∷ 13 ∷ 14 ∷ 15 ∷ [])

-- how many registers a list has, and how many bytes their words have
abbrev pub count_of : ℕ → ℕ
count_of list = length (registers_of list)

abbrev pub block_size : ℕ → ℕ
block_size list = 4 * count_of list

-- how many registers of a list are below r
unfoldable pub below : ℕ → ℕ → ℕ
below list zero = 0
below list (suc r) = if is_listed list r then below list r + 1 else below list r

-- The address of the lowest word of so many bytes, by the mode: increment after (IA) begins at the base, increment before (IB)
-- a word above it, decrement after (DA) ends at the base, and decrement before (DB) a word below it.
abbrev pub lowest_address : (up before : Bool) → ℕ → ℕ → ℕ
lowest_address true false base bytes = base
lowest_address true true base bytes = low32 (base + 4)
lowest_address false false base bytes = low32 (base + (2 ^ 32 - bytes) + 4)
lowest_address false true base bytes = low32 (base + (2 ^ 32 - bytes))

-- the registers with the moved base, where it is written back
abbrev pub base_regs : Bool → ℕ → ℕ → List ℕ → List ℕ
base_regs wback rn moved regs = if wback then slice_set regs rn moved else regs

-- the state with the base moved past so many bytes, where it is written back
abbrev pub block_back : Bool → Bool → ℕ → ℕ → State → State
block_back wback up rn bytes state =
    record state { regs = base_regs wback rn (moved (register state rn) up bytes) state.regs }

-- where the word of a register of a list is: above the lowest by the words of those below
abbrev pub listed_place : ℕ → ℕ → ℕ → Place
listed_place lowest list r = word_place (lowest + 4 * below list r)

-- the access of one of the registers
abbrev pub block_ask : Bool → ℕ → ℕ → State → ℕ → Ask
block_ask true lowest list state r = Load (listed_place lowest list r)
block_ask false lowest list state r = Store (listed_place lowest list r) (register state r)

-- the value of a register of a list, by the words of the block from the lowest up
abbrev pub listed_value : ℕ → List ℕ → ℕ → ℕ
listed_value list words r = low32 (slice_index words (below list r))

-- r0 to r14 where each of these registers of a list has its value (the PC is none of r0 to r14)
unfoldable pub loaded : List ℕ → ℕ → List ℕ → List ℕ → List ℕ
loaded [] list words regs = regs
loaded (r ∷ registers) list words regs = loaded registers list words (slice_set regs r (listed_value list words r))

abbrev pub with_block : ℕ → List ℕ → State → State
with_block list words state = record state { regs = loaded (registers_of list) list words state.regs }

-- the load of a block is complete: a listed PC is written last
abbrev pub block_loaded : ℕ → List ℕ → State → Effect
block_loaded list words back =
    if is_listed list 15
    then jumps (with_block list words back) (listed_value list words 15)
    else completes (advanced (with_block list words back))

abbrev pub block_done : Bool → ℕ → List ℕ → State → Effect
block_done load list replies back = if load then block_loaded list replies back else completes (advanced back)

-- the accesses one after another, from the lowest register up, and then the end
abbrev pub block_next : Bool → ℕ → ℕ → State → List ℕ → State → Effect
block_next load lowest list back replies state =
    if nat_lt (length replies) (count_of list)
    then asks (block_ask load lowest list state (slice_index (registers_of list) (length replies)))
    else block_done load list replies back

abbrev pub unless_barred : Option BarredWord → Effect → Effect
unless_barred None effect = effect
unless_barred (Some word) effect = stops (barred word.bar word.addr)

-- no word is accessed where one of them is barred: the first that is gives the stop
abbrev pub block_at : Program → Bool → ℕ → ℕ → State → List ℕ → State → Effect
block_at program load lowest list back replies state =
    unless_barred (first_barred program (not load) lowest (count_of list)) (block_next load lowest list back replies state)

abbrev pub block : Program → Bool → Bool → Bool → Bool → ℕ → ℕ → List ℕ → State → Effect
block program load before up wback rn list replies state =
    block_at program load (lowest_address up before (register state rn) (block_size list)) list
    (block_back wback up rn (block_size list) state) replies state
