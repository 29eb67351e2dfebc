-- The instruction at an address, of whatever set, by what words mean in it.
use Rattle.std.specs.Prelude.{ℕ, Option, Some, None, Result, Ok, Err}
use Rattle.llsc_base.specs.Effects.{undecoded}
use Rattle.llsc_base.specs.Images.{Program, word_at}
use Rattle.llsc_base.specs.declared.decoding.DecodeFault.{DecodeFault}
use Rattle.llsc_base.specs.declared.outside.Stop.{Stop}
use Rattle.llsc_base.specs.declared.outside.Stop.TheVariants.{Outside}

-- the instruction that a decoded word means, or the stop at a word that means none
abbrev pub decoded : {I : Type 0} → ℕ → Result I DecodeFault → Result I Stop
decoded pc (Ok instr) = Ok instr
decoded pc (Err fault) = Err (undecoded fault pc)

module _ {I : Type 0} (meaning : ℕ → Result I DecodeFault) where
  -- the instruction of a word, or the stop where there is none
  abbrev pub instr_of_word : ℕ → Option ℕ → Result I Stop
  instr_of_word pc None = Err (Outside pc)
  instr_of_word pc (Some word) = decoded pc (meaning word)

  -- the instruction of the word at an address
  abbrev pub fetched : Program → ℕ → Result I Stop
  fetched program pc = instr_of_word pc (word_at program pc)
