-- Small programs of the worked ends.
use Rattle.std.specs.Prelude.{ℕ, true, false, List, [], ◌∷◌, ◌++◌, ◌-◌, replicate}
use Rattle.llsc_base.specs.Images.{Program}

-- A program of instructions at address 0 in memory of 24 bytes: they may be run and aren't written; all other bytes are 0, and
-- may be written.
abbrev pub program_of_words : (count : ℕ) → List ℕ → Program
program_of_words count bytes = record {
  bytes = bytes ++ replicate (24 - count) 0;
  spans = record { start = 0; end = count; run = true; write = false } ∷ [];
  entry = 0;
}

-- mov r7, #1; svc #0: the thread leaves with its number
abbrev pub leaving : Program
leaving = program_of_words 8 (1 ∷ 112 ∷ 160 ∷ 227 ∷ 0 ∷ 0 ∷ 0 ∷ 239 ∷ [])

-- ldr r0, [r2, #8]
abbrev pub loading : Program
loading = program_of_words 4 (8 ∷ 0 ∷ 146 ∷ 229 ∷ [])

-- str r0, [r2, #8]: the thread stores its number
abbrev pub storing : Program
storing = program_of_words 4 (8 ∷ 0 ∷ 130 ∷ 229 ∷ [])

-- movw r7, #1; movt r7, #15; svc #0: the call that starts a thread, at the address and with the argument that the thread's first
-- registers have
abbrev pub starting : Program
starting = program_of_words 12 (1 ∷ 112 ∷ 0 ∷ 227 ∷ 15 ∷ 112 ∷ 64 ∷ 227 ∷ 0 ∷ 0 ∷ 0 ∷ 239 ∷ [])
