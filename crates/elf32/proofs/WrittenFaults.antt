-- No fault of program headers stands against one segment of code, with one of data or without.
use Rattle.std.proofs.Common.{◌≡◌, ℕ, ◌+◌, ◌-◌, ◌%◌, ◌≤◌, ◌==◌, ◌&&◌, ◌||◌, not, nat_le, nat_lt, max, min, true, false, List, [], ◌∷◌, length, Option, None, refl, arith, ◌∙◌}
use Rattle.std.specs.List.{list_any}
use Rattle.elf32.specs.declared.headers.ProgramHeader.{ProgramHeader}
use Rattle.elf32.specs.declared.faults.ElfFault.{ElfFault}
use Rattle.elf32.specs.declared.faults.ElfFault.TheVariants as fault
use Rattle.elf32.specs.Headers.{headers_of, segments_of, entry_field, runs}
use Rattle.elf32.specs.Faults.{program_fault, first_of, is_dynamic, is_writable_code, is_past, is_unstored, overlap, has_code_at}
use Rattle.elf32.proofs.WrittenHeaders.{code_at, data_at}

-- the faults by what they look at
abbrev program_fault_of : ℕ → ℕ → ℕ → List ProgramHeader → List ProgramHeader → Option ElfFault
program_fault_of room count entry headers segments = first_of (
    (list_any is_dynamic headers, fault.Dynamic) ∷
    (list_any is_writable_code segments, fault.WritableCode) ∷
    (not (list_any runs segments), fault.NoCode) ∷
    (list_any (is_past room) segments, fault.SegmentBounds) ∷
    (list_any (is_unstored count) segments, fault.FileBounds) ∷
    (overlap segments, fault.Overlap) ∷
    (not (list_any (has_code_at (entry - entry % 2)) segments) || ((entry % 2 == 0) && not ((entry - entry % 2) % 4 == 0)), fault.Entry) ∷
    (entry % 2 == 1, fault.ThumbEntry) ∷
    [])

by_parts : (room : ℕ) (file : List ℕ) (count entry : ℕ) (headers segments : List ProgramHeader)
    → length file ≡ count → entry_field file ≡ entry → headers_of file ≡ headers → segments_of file ≡ segments
    → program_fault room file ≡ program_fault_of room count entry headers segments
unfolding program_fault
by_parts room file count entry headers segments e f g h = rw (e, f, g, h) refl

none_alone : (room size count offset address stored : ℕ) → 4 ≤ size → 4096 + size ≤ room → 116 + size ≤ count
    → program_fault_of room count 4096 (code_at size ∷ data_at offset address stored 0 ∷ []) (code_at size ∷ []) ≡ None
none_alone room size count offset address stored h i j =
    let past : nat_lt room (4096 + size) ≡ false = grind arith in
    let more : nat_lt size size ≡ false = grind arith in
    let out : nat_lt count (116 + size) ≡ false = grind arith in
    let held : nat_le 4100 (4096 + size) ≡ true = grind arith in
    rw (past, more, out, held) refl

none_both : (room code count address stored size : ℕ) → 4 ≤ code → 4096 + code ≤ address → address + size ≤ room → stored ≤ size
    → 116 + code + stored ≤ count
    → program_fault_of room count 4096 (code_at code ∷ data_at (116 + code) address stored size ∷ []) (code_at code ∷ data_at (116 + code) address stored size ∷ []) ≡ None
none_both room code count address stored size h i j k l =
    let past : nat_lt room (4096 + code) ≡ false = grind arith in
    let data_past : nat_lt room (address + size) ≡ false = grind arith in
    let more : nat_lt code code ≡ false = grind arith in
    let data_more : nat_lt size stored ≡ false = grind arith in
    let out : nat_lt count (116 + code) ≡ false = grind arith in
    let data_out : nat_lt count (116 + code + stored) ≡ false = grind arith in
    let apart : nat_lt (max 4096 address) (min (4096 + code) (address + size)) ≡ false = grind arith in
    let held : nat_le 4100 (4096 + code) ≡ true = grind arith in
    rw (past, data_past, more, data_more, out, data_out, apart, held) refl

pub no_fault_alone : (room : ℕ) (file : List ℕ) (size offset address stored : ℕ) → 4 ≤ size → 4096 + size ≤ room → 116 + size ≤ length file
    → entry_field file ≡ 4096 → headers_of file ≡ code_at size ∷ data_at offset address stored 0 ∷ [] → segments_of file ≡ code_at size ∷ []
    → program_fault room file ≡ None
no_fault_alone room file size offset address stored h i j entry headers segments =
    by_parts room file (length file) 4096 _ _ refl entry headers segments ∙ none_alone room size (length file) offset address stored h i j

pub no_fault_both : (room : ℕ) (file : List ℕ) (code address stored size : ℕ) → 4 ≤ code → 4096 + code ≤ address → address + size ≤ room → stored ≤ size
    → 116 + code + stored ≤ length file
    → entry_field file ≡ 4096 → headers_of file ≡ code_at code ∷ data_at (116 + code) address stored size ∷ []
    → segments_of file ≡ code_at code ∷ data_at (116 + code) address stored size ∷ []
    → program_fault room file ≡ None
no_fault_both room file code address stored size h i j k l entry headers segments =
    by_parts room file (length file) 4096 _ _ refl entry headers segments ∙ none_both room code (length file) address stored size h i j k l
