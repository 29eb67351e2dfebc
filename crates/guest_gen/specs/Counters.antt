-- The counter guest: a program whose threads add 1 to counters of memory so many times, each time to one that a linear
-- congruential generator draws. A thread begins the draws at its own number plus that of the program.
use Rattle.std.specs.Prelude.{◌≡◌, ◌+◌, ◌*◌, ◌/◌, ◌%◌, ◌^◌, ◌&&◌, nat_le, if◌then◌else◌, true, Bool, List, [], ◌∷◌, codes, ℕ}
use Rattle.llsc_base.specs.Images.{Program}
use Rattle.llsc_base.specs.Sizes.{Numbers, is_threads}
use Rattle.llsc_base.specs.Memory.{value_at}
use Rattle.llsc_base.specs.declared.access.Place.{Place}
use Rattle.llsc_base.specs.declared.access.Size.TheVariants.{B4}
use Rattle.elf32.specs.Units.{unit_image}
use Rattle.elf32.specs.declared.units.Unit.{Unit}
use Rattle.guest_gen.specs.declared.faults.GenFault.{GenFault}
use Rattle.guest_gen.specs.declared.faults.GenFault.TheVariants as fault

-- a thread has at most so many rounds, and adds 1 in each
abbrev pub most_rounds : ℕ
most_rounds = 50000

-- 1 to 50,000
abbrev pub is_rounds : ℕ → Bool
is_rounds rounds = nat_le 1 rounds && nat_le rounds most_rounds

-- the low and the high 16 bits of a number of 32 bits
abbrev pub low_half : ℕ → ℕ
low_half value = value % 65536

abbrev pub high_half : ℕ → ℕ
high_half value = value / 65536

-- 16 bits as MOVW and MOVT have them: the highest four as imm4, in bits 19 to 16 of the word, and the others as imm12, in
-- bits 11 to 0 (DDI 0406C A8.8.102, A8.8.106)
abbrev pub imm4_imm12 : ℕ → ℕ
imm4_imm12 half = 65536 * (half / 4096) + half % 4096

-- The words of the program of so many rounds whose draws begin at a number of 32 bits. Registers: r0 the thread's number; r4
-- what was drawn; r5 and r6 the factor 1664525 and the summand 1013904223 of the generator; r8 the rounds that are left; r9
-- where the counters begin; r10 the counter of this round.
abbrev pub counter_words : ℕ → ℕ → List ℕ
counter_words start rounds =
    (0xE3004000 + imm4_imm12 (low_half start)) ∷  -- movw r4, #LOW, the low half of start
    (0xE3404000 + imm4_imm12 (high_half start)) ∷  -- movt r4, #HIGH, its high half
    0xE0844000 ∷  -- add r4, r4, r0
    0xE306560D ∷  -- movw r5, #26125
    0xE3405019 ∷  -- movt r5, #25
    0xE30F635F ∷  -- movw r6, #62303
    0xE3436C6E ∷  -- movt r6, #15470
    (0xE3008000 + imm4_imm12 (low_half rounds)) ∷  -- movw r8, #LOW, the low half of rounds
    (0xE3408000 + imm4_imm12 (high_half rounds)) ∷  -- movt r8, #HIGH, its high half
    0xE3A09A02 ∷  -- mov r9, #8192
    0xE3580000 ∷  -- loop: cmp r8, #0
    0x0A000009 ∷  -- beq done
    0xE0246594 ∷  -- mla r4, r4, r5, r6
    0xE1A0AE24 ∷  -- mov r10, r4, lsr #28
    0xE089A18A ∷  -- add r10, r9, r10, lsl #3
    0xE19ABF9F ∷  -- try: ldrex r11, [r10]
    0xE28BB001 ∷  -- add r11, r11, #1
    0xE18ACF9B ∷  -- strex r12, r11, [r10]
    0xE35C0000 ∷  -- cmp r12, #0
    0x1AFFFFFA ∷  -- bne try
    0xE2488001 ∷  -- sub r8, r8, #1
    0xEAFFFFF3 ∷  -- b loop
    0xE3A00000 ∷  -- done: mov r0, #0
    0xE3A07001 ∷  -- mov r7, #1
    0xEF000000 ∷ []  -- svc #0

-- the program of a seed, of which the low 32 bits count, and of so many rounds: behind its code it has no bytes, and sixteen
-- counters of eight bytes, which are 0
abbrev pub counter_unit : ℕ → ℕ → Unit
counter_unit seed rounds = record { words = counter_words (seed % 2 ^ 32) rounds; bytes = []; space = 128 }

-- its image
abbrev pub counter_image : (seed rounds : ℕ) → Numbers → Program
counter_image seed rounds size = unit_image (counter_unit seed rounds) size

-- how many counters there are, and where each begins: its word is the first four of its eight bytes
abbrev pub counters : ℕ
counters = 16

abbrev pub counter_at : ℕ → ℕ
counter_at index = 0x2000 + 8 * index

-- its place
abbrev pub counter_place : ℕ → Place
counter_place index = record { addr = counter_at index; size = B4 }

-- what a counter holds in a memory
abbrev pub counter_in : List ℕ → ℕ → ℕ
counter_in memory index = value_at memory (counter_place index)

-- why there is no program of so many threads and rounds: a number is out of its range, and where none is only want of memory
abbrev pub fault_of : ℕ → ℕ → GenFault
fault_of threads rounds = if is_threads threads && is_rounds rounds then fault.Memory else fault.Range

-- both numbers are in their ranges
abbrev pub AreInRange : ℕ → ℕ → Type 0
AreInRange threads rounds = is_threads threads && is_rounds rounds ≡ true

-- a fault's name
abbrev pub gen_fault_name : GenFault → List ℕ
gen_fault_name fault.Range = codes "Range"
gen_fault_name fault.Memory = codes "Memory"
