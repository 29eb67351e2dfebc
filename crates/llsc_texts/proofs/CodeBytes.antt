-- The bytes of code words, one word after another.
use Rattle.std.proofs.Common.{◌≡◌, ℕ, ◌+◌, ◌<◌, List, [], ◌∷◌, ◌++◌, length, take, slice_index, sym, ◌∙◌, ap, append-nil}
use Rattle.std.specs.Int.{w32, to_le_bytes}
use Rattle.std.proofs.lemmas.List.{take_more}
use Rattle.std.proofs.lemmas.Grind.{flat_map-append}
use Rattle.llsc_base.specs.Memory.{bytes_of}
use Rattle.llsc_base.proofs.Bytes.{bytes_of-4}
use Rattle.elf32.specs.Units.{code_bytes}

-- one word more
pub code_more : (words bytes : List ℕ) (i : ℕ) → i < length words → bytes ≡ code_bytes (take i words)
    → bytes ++ to_le_bytes w32 (slice_index words i) ≡ code_bytes (take (i + 1) words)
code_more words bytes i less so_far =
    let word : ℕ = slice_index words i in
    let more : code_bytes (take (i + 1) words) ≡ code_bytes (take i words) ++ code_bytes (slice_index words i ∷ []) =
    ap code_bytes (take_more words i 0 less) ∙ flat_map-append (bytes_of 4) (take i words) (slice_index words i ∷ []) in
    let one : code_bytes (slice_index words i ∷ []) ≡ to_le_bytes w32 (slice_index words i) = append-nil (bytes_of 4 (slice_index words i)) ∙ bytes_of-4 (slice_index words i) in
    sym (more ∙ cc)
