-- Small programs and threads of the worked runs.
use Rattle.std.specs.Prelude.{ℕ, true, false, List, [], ◌∷◌, ◌++◌, replicate}
use Rattle.llsc_base.specs.Images.{Program}
use Rattle.a32_step.specs.Machine.{Machine}
use Rattle.guest_core.specs.Machine.{between}

-- A program of one word: it stands at address 0 in memory of 16 bytes, may be run and isn't written; all other bytes are 0,
-- and may be written.
abbrev pub one_word : List ℕ → Program
one_word bytes = record {
  bytes = bytes ++ replicate 12 0;
  spans = record { start = 0; end = 4; run = true; write = false } ∷ [];
  entry = 0;
}

-- svc #0
abbrev pub calling : Program
calling = one_word (0 ∷ 0 ∷ 0 ∷ 239 ∷ [])

-- ldr r0, [r1]
abbrev pub loading : Program
loading = one_word (0 ∷ 0 ∷ 145 ∷ 229 ∷ [])

-- str r0, [r1]
abbrev pub storing : Program
storing = one_word (0 ∷ 0 ∷ 129 ∷ 229 ∷ [])

-- strex r2, r0, [r1]
abbrev pub storing_exclusively : Program
storing_exclusively = one_word (144 ∷ 47 ∷ 129 ∷ 225 ∷ [])

-- a thread at an address with these numbers in r0, r1, r2 and r7, and 0 in all other registers
abbrev pub thread_at : (pc a b c number : ℕ) → Machine
thread_at pc a b c number = between (record {
  regs = a ∷ b ∷ c ∷ 0 ∷ 0 ∷ 0 ∷ 0 ∷ number ∷ 0 ∷ 0 ∷ 0 ∷ 0 ∷ 0 ∷ 0 ∷ 0 ∷ [];
  flags = record { n = false; z = false; c = false; v = false };
  pc = pc;
})
