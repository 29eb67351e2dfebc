-- The stack guest: nodes on a lock-free stack, which are used again and again. Each thread, so many times, pops a node, waiting while
-- there is none, adds 1 to the node's count by a load and a store that are not exclusive, and pushes the node back.
use Rattle.std.specs.Prelude.{ℕ, zero, suc, ◌+◌, ◌*◌, ◌/◌, ◌%◌, ◌<◌, ◌≤◌, ◌++◌, List, [], ◌∷◌, replicate}
use Rattle.llsc_base.specs.Images.{Program}
use Rattle.llsc_base.specs.Memory.{bytes_of}
use Rattle.llsc_base.specs.Sizes.{Numbers}
use Rattle.llsc_base.specs.declared.access.Place.{Place}
use Rattle.llsc_base.specs.declared.access.Size.TheVariants.{B4}
use Rattle.elf32.specs.Units.{unit_image}
use Rattle.elf32.specs.declared.units.Unit.{Unit}

-- the word with the address of the top node, which is 0 where the stack is empty
abbrev pub top : Place
top = record { addr = 8192; size = B4 }

-- the address of each node
abbrev pub node_at : ℕ → ℕ
node_at index = 8256 + 8 * index

-- the words of a node: the address of the node below it, which is 0 where there is none, and its count
abbrev pub link_of : ℕ → Place
link_of node = record { addr = node; size = B4 }

abbrev pub count_of : ℕ → Place
count_of node = record { addr = node + 4; size = B4 }

-- 16 bits as MOVW has them
abbrev pub imm4_imm12 : ℕ → ℕ
imm4_imm12 half = 65536 * (half / 4096) + half % 4096

-- The words of the program of so many rounds, which fit 16 bits. Registers: r8 the address of the top; r9 the rounds that are
-- left; r0 the node.
abbrev pub stack_words : ℕ → List ℕ
stack_words rounds =
    0xE3A08A02 ∷  -- mov r8, #8192
    (0xE3009000 + imm4_imm12 rounds) ∷  -- movw r9, #ROUNDS
    0xE1980F9F ∷  -- pop: ldrex r0, [r8]
    0xE3500000 ∷  -- cmp r0, #0
    0x0AFFFFFC ∷  -- beq pop
    0xE5901000 ∷  -- ldr r1, [r0], the node below
    0xE1882F91 ∷  -- strex r2, r1, [r8]
    0xE3520000 ∷  -- cmp r2, #0
    0x1AFFFFF8 ∷  -- bne pop
    0xE5901004 ∷  -- ldr r1, [r0, #4], the count
    0xE2811001 ∷  -- add r1, r1, #1
    0xE5801004 ∷  -- str r1, [r0, #4]
    0xE1981F9F ∷  -- push: ldrex r1, [r8]
    0xE5801000 ∷  -- str r1, [r0]
    0xE1882F90 ∷  -- strex r2, r0, [r8]
    0xE3520000 ∷  -- cmp r2, #0
    0x1AFFFFFA ∷  -- bne push
    0xE2499001 ∷  -- sub r9, r9, #1
    0xE3590000 ∷  -- cmp r9, #0
    0x1AFFFFED ∷  -- bne pop
    0xE3A00000 ∷  -- mov r0, #0
    0xE3A07001 ∷  -- mov r7, #1
    0xEF000000 ∷ []  -- svc #0

-- the address of the node with this index where some are left from there on, and 0 else
abbrev pub next_at : (left index : ℕ) → ℕ
next_at zero index = 0
next_at (suc left) index = node_at index

-- so many nodes from an index on, each linked to the next one, which count 0
abbrev pub node_bytes : (left index : ℕ) → List ℕ
node_bytes zero index = []
node_bytes (suc left) index = bytes_of 4 (next_at left (suc index)) ++ bytes_of 4 0 ++ node_bytes left (suc index)

-- The data: the top, sixty bytes, so that no node is in its row up to rows of 64 bytes, and the nodes on the stack.
abbrev pub stack_data : (nodes : ℕ) → List ℕ
stack_data nodes = bytes_of 4 (next_at nodes 0) ++ replicate 60 0 ++ node_bytes nodes 0

abbrev pub stack_unit : (nodes rounds : ℕ) → Unit
stack_unit nodes rounds = record { words = stack_words rounds; bytes = stack_data nodes; space = 0 }

-- its image
abbrev pub stack_image : (nodes rounds : ℕ) → Numbers → Program
stack_image nodes rounds size = unit_image (stack_unit nodes rounds) size

-- The numbers of nodes, of rounds and of a machine for which the laws are: memory has room for the nodes below the stacks of 16 threads.
pub record AreInRange (nodes rounds : ℕ) (size : Numbers) : Type 0 where
  pub few_nodes : nodes ≤ 64
  pub some_rounds : 1 ≤ rounds
  pub few_rounds : rounds < 65536
  pub few_threads : size.threads ≤ 16
  pub room : 65536 ≤ size.mem
