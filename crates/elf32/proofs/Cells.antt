-- Numbers that are read where their bytes stand, and the lengths of such bytes.
use Rattle.std.proofs.Common.{◌≡◌, ℕ, ◌+◌, ◌*◌, ◌/◌, ◌%◌, ◌^◌, ◌<◌, List, [], ◌∷◌, length, refl, arith, length-append}
use Rattle.llsc_base.specs.Memory.{bytes_of}
use Rattle.llsc_base.proofs.Bytes.{length-bytes_of}
use Rattle.elf32.specs.Units.{code_bytes}

-- the number of 32 bits whose bytes stand in front
pub word_again : (x : ℕ) → x < 2 ^ 32
    → x % 256 + 256 * (x / 256 % 256 + 256 * (x / 256 / 256 % 256 + 256 * (x / 256 / 256 / 256 % 256 + 256 * 0))) ≡ x
word_again x h = omega arith

-- each word of the code has four bytes
pub length-code_bytes : (words : List ℕ) → length (code_bytes words) ≡ 4 * length words
length-code_bytes [] = refl
length-code_bytes (word ∷ words) =
    let rest = length-code_bytes words in
    omega (arith, length-append (bytes_of 4 word) (code_bytes words), length-bytes_of 4 word)
