-- Numbers put behind what is written, one after another.
use Rattle.std.proofs.Common.{◌≡◌, ℕ, ◌+◌, ◌<◌, List, [], ◌++◌, append_assoc, length, take, slice_index, ap, ◌∙◌, sym}
use Rattle.std.proofs.lemmas.List.{flat_map_more, take_more}
use Rattle.std.specs.List.{flat_map}
use Rattle.llsc_base.specs.Memory.{bytes_of}
use Rattle.llsc_base.proofs.Bytes.{bytes_of-2, bytes_of-4}
use Rattle.std.specs.Int.{w16, w32, to_le_bytes}
use Rattle.elf32.specs.declared.units.Unit.{Unit}
use Rattle.elf32.specs.declared.headers.ProgramHeader.{ProgramHeader}
use Rattle.elf32.specs.Units.{code_bytes}
use Rattle.elf32.specs.Written.{code_header, data_header, file_header, program_header, written_file}
use Rattle.elf32.proofs.WrittenHeaders.{code_segment, data_segment}

-- the bytes of one number more
more : (f : ℕ → List ℕ) (front xs : List ℕ) (i : ℕ) → i < length xs
    → (front ++ flat_map f (take i xs)) ++ f (slice_index xs i) ≡ front ++ flat_map f (take (i + 1) xs)
more f front xs i h =
    flat_map_more f front (take i xs) (slice_index xs i) ∙ ap (λ (ys : List ℕ). front ++ flat_map f ys) (sym (take_more xs i 0 h))

pub more_halves : (front xs : List ℕ) (i : ℕ) → i < length xs
    → (front ++ flat_map (bytes_of 2) (take i xs)) ++ to_le_bytes w16 (slice_index xs i) ≡ front ++ flat_map (bytes_of 2) (take (i + 1) xs)
more_halves front xs i h = ap (λ (b : List ℕ). (front ++ flat_map (bytes_of 2) (take i xs)) ++ b) (sym (bytes_of-2 (slice_index xs i))) ∙ more (bytes_of 2) front xs i h

pub more_words : (front xs : List ℕ) (i : ℕ) → i < length xs
    → (front ++ flat_map (bytes_of 4) (take i xs)) ++ to_le_bytes w32 (slice_index xs i) ≡ front ++ flat_map (bytes_of 4) (take (i + 1) xs)
more_words front xs i h = ap (λ (b : List ℕ). (front ++ flat_map (bytes_of 4) (take i xs)) ++ b) (sym (bytes_of-4 (slice_index xs i))) ∙ more (bytes_of 4) front xs i h

-- parts put one behind another
joined : (none one two three four five a b c d e : List ℕ)
    → none ≡ [] → one ≡ none ++ a → two ≡ one ++ b → three ≡ two ++ c → four ≡ three ++ d → five ≡ four ++ e
    → five ≡ a ++ (b ++ (c ++ (d ++ e)))
joined none one two three four five a b c d e i j k l m n = rw (n, m, l, k, j, i) (simp append_assoc)

abbrev header_bytes : ProgramHeader → List ℕ
header_bytes header = program_header header.offset header.address header.file_size header.memory_size header.flags

pub file_by : (unit : Unit) (none one two three four five : List ℕ) (code entry : ProgramHeader)
    → none ≡ [] → one ≡ none ++ file_header
    → code ≡ code_segment unit → two ≡ one ++ program_header code.offset code.address code.file_size code.memory_size code.flags
    → entry ≡ data_segment unit → three ≡ two ++ program_header entry.offset entry.address entry.file_size entry.memory_size entry.flags
    → four ≡ three ++ code_bytes unit.words → five ≡ four ++ unit.bytes
    → five ≡ written_file unit
unfolding written_file
file_by unit none one two three four five code entry a b c d e f g h =
    joined none one two three four five file_header (code_header unit) (data_header unit) (code_bytes unit.words) unit.bytes
    a b (d ∙ ap (λ (header : ProgramHeader). one ++ header_bytes header) c) (f ∙ ap (λ (header : ProgramHeader). two ++ header_bytes header) e) g h
