-- An instruction's encoding is the word that means it, and there is none where no word does.
use Rattle.std.proofs.Common.{◌≡◌, ℕ, ◌^◌, ◌<◌, ◌&&◌, Bool, true, false, nat_lt, if◌then◌else◌, Option, Some, None, Result, Ok, Err, refl, sym, ap, ltb-true, lt-ltb}
use Rattle.a32_instr.specs.Table.{meaning, table}
use Rattle.a32_instr.specs.declared.instructions.Instr.{Instr}
use Rattle.llsc_base.specs.declared.decoding.DecodeFault.{DecodeFault}
use Rattle.a32_encode.specs.Word.{word_of}
use Rattle.a32_encode.specs.Encoding.{is_that, encoding_of}
use Rattle.a32_encode.proofs.Rows.{only_word}
use Rattle.a32_encode.proofs.Same.{equal_is_same, same_is_equal}

-- a meaning that is told to be an instruction is that instruction
that_is : (i : Instr) (meant : Result Instr DecodeFault) → is_that i meant ≡ true → meant ≡ Ok i
that_is i (Ok j) e = ap Ok (equal_is_same i j e)
that_is i (Err fault) e = cc

is_that-self : (i : Instr) → is_that i (Ok i) ≡ true
is_that-self i = same_is_equal i i refl

-- the encoding by the two tests of a word
chosen : (small meant : Bool) (sum w : ℕ) → (if small && meant then Some sum else None) ≡ Some w → (small ≡ true) × (meant ≡ true) × (sum ≡ w)
chosen true true sum w e = (refl, refl, cc)
chosen true false sum w e = cc
chosen false meant sum w e = cc

-- an instruction's encoding is a word that means it
pub encoding_means : (i : Instr) (w : ℕ) → encoding_of i ≡ Some w → (w < 2 ^ 32) × (meaning table w ≡ Ok i)
unfolding encoding_of
encoding_means i w e =
    let tests = chosen (nat_lt (word_of i) (2 ^ 32)) (is_that i (meaning table (word_of i))) (word_of i) w e in
    let small : word_of i < 2 ^ 32 = ltb-true (word_of i) (2 ^ 32) tests.0 in
    let means : meaning table (word_of i) ≡ Ok i = that_is i (meaning table (word_of i)) tests.1 in
    (rw (sym tests.2) small, rw (sym tests.2) means)

-- a word that means an instruction is its encoding
pub means_encoding : (i : Instr) (w : ℕ) → w < 2 ^ 32 → meaning table w ≡ Ok i → encoding_of i ≡ Some w
unfolding encoding_of
means_encoding i w small means =
    rw (only_word w i small means, lt-ltb w (2 ^ 32) small, means, is_that-self i) refl

-- where an instruction has no encoding, no word means it
pub no_encoding_means : (i : Instr) (w : ℕ) → encoding_of i ≡ None → w < 2 ^ 32 → meaning table w ≡ Ok i → ⊥
no_encoding_means i w none small means =
    let some : encoding_of i ≡ Some w = means_encoding i w small means in
    cc

-- where no word means an instruction, it has no encoding
pub no_word_encoding : (i : Instr) → ((w : ℕ) → w < 2 ^ 32 → meaning table w ≡ Ok i → ⊥) → encoding_of i ≡ None
no_word_encoding i none = by_it (encoding_of i) refl where
  by_it : (encoding : Option ℕ) → encoding_of i ≡ encoding → encoding_of i ≡ None
  by_it (Some w) e = let word = encoding_means i w e in absurd (none w word.0 word.1)
  by_it None e = e
