-- What holds of a file that has a header, and no fault of its program headers.
use Rattle.std.proofs.Common.{◌≡◌, ℕ, ◌-◌, ◌%◌, map, ◌≤◌, Bool, true, false, List, length, refl, arith, ◌==◌, ◌&&◌, ◌||◌, not, Option, Some, None, if◌then◌else◌}
use Rattle.std.specs.List.{list_any}
use Rattle.std.specs.Prelude.{All}
use Rattle.llsc_base.specs.Sizes.{Numbers, room_of}
use Rattle.llsc_base.specs.Flat.{values_below}
use Rattle.llsc_base.specs.Images.{IsProgram, program_of}
use Rattle.llsc_base.proofs.Values.{length-values_below}
use Rattle.elf32.specs.declared.faults.ElfFault.{ElfFault}
use Rattle.elf32.specs.Headers.{header_size, entry_field, entry_address, headers_of, segments_of}
use Rattle.elf32.specs.Faults.{program_fault, is_past, is_unstored, is_writable_code, overlap}
use Rattle.elf32.specs.Image.{byte_at, span_of}
use Rattle.elf32.specs.inner.Image.{IsPlaced}
use Rattle.elf32.proofs.Sound.{all-placed, all-spans, spans-apart}

-- what its image rests on: it has a header, four tests hold of no segment, and the entry is the address of a word
pub record IsLoadable (file : List ℕ) (size : Numbers) : Type 0 where
  pub header : header_size ≤ length file
  pub writable : list_any is_writable_code (segments_of file) ≡ false
  pub past : list_any (is_past (room_of size)) (segments_of file) ≡ false
  pub unstored : list_any (is_unstored (length file)) (segments_of file) ≡ false
  pub apart : overlap (segments_of file) ≡ false
  pub aligned : entry_field file % 4 ≡ 0

-- where no row of a table holds, its first doesn't, and no later one
passed : (test : Bool) (named : ElfFault) (rest : Option ElfFault)
    → (if test then Some named else rest) ≡ None → (test ≡ false) × (rest ≡ None)
passed true named rest e = absurd (let h : ⊥ = cc in h)
passed false named rest e = (refl, e)

word : (held : Bool) (field : ℕ) → (not held || ((field % 2 == 0) && not ((field - field % 2) % 4 == 0))) ≡ false
    → (field % 2 == 1) ≡ false → field % 4 ≡ 0
word held field e f = grind arith

-- such a file passes them
pub loadable : (file : List ℕ) (size : Numbers) → header_size ≤ length file → program_fault (room_of size) file ≡ None → IsLoadable file size
unfolding program_fault
loadable file size whole e =
    let dynamic = passed _ _ _ e in
    let writable = passed _ _ _ dynamic.1 in
    let code = passed _ _ _ writable.1 in
    let past = passed _ _ _ code.1 in
    let unstored = passed _ _ _ past.1 in
    let apart = passed _ _ _ unstored.1 in
    let entry = passed _ _ _ apart.1 in
    let thumb = passed _ _ _ entry.1 in
    record {
      header = whole;
      writable = writable.0;
      past = past.0;
      unstored = unstored.0;
      apart = apart.0;
      aligned = word _ _ entry.0 thumb.0;
    }

-- the segments of such a file are placed
pub loadable-placed : (file : List ℕ) (size : Numbers) → IsLoadable file size → All (IsPlaced (length file) size.mem) (segments_of file)
loadable-placed file size sound =
    all-placed (length file) (room_of size) size.mem (segments_of file) (omega arith) sound.past sound.unstored

-- its image is a program
pub loadable-program : (file : List ℕ) (size : Numbers) → IsLoadable file size
    → IsProgram (program_of (values_below size.mem (byte_at file (segments_of file))) (map span_of (segments_of file)) (entry_field file))
unfolding segments_of
loadable-program file size sound =
    let long = length-values_below size.mem (byte_at file (segments_of file)) in
    record {
      aligned = sound.aligned;
      spans = rw long (all-spans (length file) size.mem (headers_of file) (loadable-placed file size sound) sound.writable);
      apart = spans-apart (segments_of file) sound.apart;
    }

entry-even : (field : ℕ) → field % 4 ≡ 0 → field - field % 2 ≡ field
entry-even field e = grind arith

-- its entry is no Thumb code's, so it stands as it is in the file
pub loadable-entry : (file : List ℕ) (size : Numbers) → IsLoadable file size → entry_address file ≡ entry_field file
loadable-entry file size sound = entry-even (entry_field file) sound.aligned
