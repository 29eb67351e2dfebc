-- Small programs of the worked verdicts.
use Rattle.std.specs.Prelude.{ℕ, ◌+◌, true, false, List, [], ◌∷◌, ◌++◌, length, replicate}
use Rattle.llsc_base.specs.Images.{Program}
use Rattle.llsc_base.specs.Sizes.{Numbers, numbers}

-- a program of these code bytes at address 8, which may be run and aren't written; the eight bytes below them are 0
abbrev pub small_program : List ℕ → Program
small_program code = record {
  bytes = replicate 8 0 ++ code;
  spans = record { start = 8; end = 8 + length code; run = true; write = false } ∷ [];
  entry = 8;
}

-- mov r7, #1 and svc #0: a thread leaves at once, with its number as its code
abbrev pub leaving : Program
leaving = small_program (0x01 ∷ 0x70 ∷ 0xA0 ∷ 0xE3 ∷ 0x00 ∷ 0x00 ∷ 0x00 ∷ 0xEF ∷ [])

-- ldr r2, [r4] before these: it loads the word at address 0 before it leaves
abbrev pub loading : Program
loading = small_program (0x00 ∷ 0x20 ∷ 0x94 ∷ 0xE5 ∷ 0x01 ∷ 0x70 ∷ 0xA0 ∷ 0xE3 ∷ 0x00 ∷ 0x00 ∷ 0x00 ∷ 0xEF ∷ [])

-- strex r2, r1, [r4] before these: it stores the number of threads there exclusively before it leaves
abbrev pub storing : Program
storing = small_program (0x91 ∷ 0x2F ∷ 0x84 ∷ 0xE1 ∷ 0x01 ∷ 0x70 ∷ 0xA0 ∷ 0xE3 ∷ 0x00 ∷ 0x00 ∷ 0x00 ∷ 0xEF ∷ [])

-- ldrex r2, [r4], strex r3, r1, [r4] and ldr r5, [r4] before these: it loads the word exclusively, stores the number of threads
-- there exclusively, and loads the word again before it leaves
abbrev pub taking : Program
taking = small_program (0x9F ∷ 0x2F ∷ 0x94 ∷ 0xE1 ∷ 0x91 ∷ 0x3F ∷ 0x84 ∷ 0xE1 ∷ 0x00 ∷ 0x50 ∷ 0x94 ∷ 0xE5
    ∷ 0x01 ∷ 0x70 ∷ 0xA0 ∷ 0xE3 ∷ 0x00 ∷ 0x00 ∷ 0x00 ∷ 0xEF ∷ [])

-- a machine of one thread, whose rows have eight bytes
abbrev pub small_machine : Numbers
small_machine = numbers 65536 1 1 1
