-- Numbers of this project's own, of which several crates speak.
use Rattle.std.specs.Prelude.{ℕ}

-- where code begins in memory: that of a flat file, and that of a program which the assembler makes
abbrev pub code_start : ℕ
code_start = 0x1000

-- the most steps of a thread's budget
abbrev pub most_budget : ℕ
most_budget = 1000000000000
