-- Calls and places of the worked cases.
use Rattle.std.specs.Prelude.{ℕ}
use Rattle.llsc_base.specs.declared.access.Place.{Place}
use Rattle.llsc_base.specs.declared.access.Size.TheVariants.{B1, B4}
use Rattle.llsc_base.specs.declared.outside.CallAsk.{CallAsk}

-- a call with the immediate 0: its number, and its arguments
abbrev pub call : (number a b c : ℕ) → CallAsk
call number a b c = record { imm = 0; number = number; a = a; b = b; c = c }

-- the word that is accessed, and a byte
abbrev pub word : Place
word = record { addr = 8; size = B4 }

abbrev pub byte_at : ℕ → Place
byte_at addr = record { addr = addr; size = B1 }
