-- A written file is accepted, as the program's image.
use Rattle.std.proofs.Common.{◌≡◌, ℕ, ◌+◌, ◌*◌, ◌<◌, ◌≤◌, ◌==◌, if◌then◌else◌, Bool, true, false, List, [], ◌∷◌, length, map, filter, refl, ap, ◌∙◌, arith, None}
use Rattle.llsc_base.specs.Flat.{values_below}
use Rattle.llsc_base.specs.Images.{program_of}
use Rattle.llsc_base.specs.declared.images.Span.{Span}
use Rattle.elf32.specs.declared.headers.ProgramHeader.{ProgramHeader}
use Rattle.llsc_base.specs.Sizes.{Numbers, room_of}
use Rattle.elf32.specs.declared.units.Unit.{Unit}
use Rattle.elf32.specs.Units.{IsWithin, code_end, data_of, data_size, end_of, unit_image}
use Rattle.elf32.specs.Written.{code_offset, written_file}
use Rattle.elf32.specs.Headers.{entry_field, headers_of, is_segment, segments_of}
use Rattle.elf32.specs.Faults.{first_fault, first_fault_as, header_fault, program_fault}
use Rattle.elf32.specs.Image.{byte_at, image_of, span_of}
use Rattle.elf32.proofs.WrittenHeaders.{code_at, data_at, code_segment, data_segment, headers_are, entry_is, length_is, no_header_fault}
use Rattle.elf32.proofs.WrittenFaults.{no_fault_alone, no_fault_both}
use Rattle.elf32.proofs.WrittenImage.{bytes_both, bytes_alone}

-- the segments of two headers, where both have memory and where only the first has

segments_alone : (size offset address stored : ℕ) → 0 < size
    → filter is_segment (code_at size ∷ data_at offset address stored 0 ∷ []) ≡ code_at size ∷ []
segments_alone size offset address stored h = let some : (size == 0) ≡ false = grind arith in rw some refl

segments_both : (code offset address stored size : ℕ) → 0 < code → 0 < size
    → filter is_segment (code_at code ∷ data_at offset address stored size ∷ []) ≡ code_at code ∷ data_at offset address stored size ∷ []
segments_both code offset address stored size h i =
    let some : (code == 0) ≡ false = grind arith in
    let more : (size == 0) ≡ false = grind arith in
    rw (some, more) refl

segments_by : (file : List ℕ) (headers segments : List ProgramHeader) → headers_of file ≡ headers → filter is_segment headers ≡ segments → segments_of file ≡ segments
unfolding segments_of
segments_by file headers segments e f = ap (filter is_segment) e ∙ f

-- the first fault and the image by their parts

no_fault_by : (file : List ℕ) (size : Numbers) → header_fault 40 file ≡ None → program_fault (room_of size) file ≡ None → first_fault file size ≡ None
unfolding first_fault_as
no_fault_by file size e f = rw (e, f) refl

image_by : (file : List ℕ) (size : Numbers) (segments : List ProgramHeader) (bytes : List ℕ) (spans : List Span)
    → segments_of file ≡ segments → entry_field file ≡ 4096 → values_below size.mem (byte_at file segments) ≡ bytes → map span_of segments ≡ spans
    → image_of file size ≡ program_of bytes spans 4096
unfolding image_of
image_by file size segments bytes spans e f g h = rw (e, f, g, h) refl

-- ---- a program without data and space

accepted_alone : (unit : Unit) (size : Numbers) → IsWithin unit → 0 < length unit.words → (data_size unit == 0) ≡ true → code_end unit ≤ room_of size
    → (first_fault (written_file unit) size ≡ None) × (image_of (written_file unit) size ≡ unit_image unit size)
accepted_alone unit size within filled test fits =
    let none : data_size unit ≡ 0 = grind (arith, test) in
    let no_bytes : length unit.bytes ≡ 0 = omega arith in
    let headers : headers_of (written_file unit) ≡ code_segment unit ∷ data_at (code_offset + 4 * length unit.words) (data_of unit) (length unit.bytes) 0 ∷ [] =
    headers_are unit within ∙ ap (λ (s : ℕ). code_segment unit ∷ data_at (code_offset + 4 * length unit.words) (data_of unit) (length unit.bytes) s ∷ []) none in
    let segments : segments_of (written_file unit) ≡ code_segment unit ∷ [] =
    segments_by (written_file unit) _ _ headers (segments_alone (4 * length unit.words) (code_offset + 4 * length unit.words) (data_of unit) (length unit.bytes) (omega arith)) in (
      no_fault_by (written_file unit) size (no_header_fault unit)
          (no_fault_alone (room_of size) (written_file unit) (4 * length unit.words) (code_offset + 4 * length unit.words) (data_of unit) (length unit.bytes) (omega arith) (omega arith) (omega (arith, length_is unit)) (entry_is unit) headers segments),
      image_by (written_file unit) size (code_segment unit ∷ []) _ _ segments (entry_is unit) (bytes_alone unit size.mem no_bytes) (rw test refl),
    )

-- ---- a program with data or space

accepted_both : (unit : Unit) (size : Numbers) → IsWithin unit → 0 < length unit.words → (data_size unit == 0) ≡ false → data_of unit + data_size unit ≤ room_of size
    → (first_fault (written_file unit) size ≡ None) × (image_of (written_file unit) size ≡ unit_image unit size)
accepted_both unit size within filled test fits =
    let some : 0 < data_size unit = grind (arith, test) in
    let apart : code_end unit ≤ data_of unit = omega arith in
    let segments : segments_of (written_file unit) ≡ code_segment unit ∷ data_segment unit ∷ [] =
    segments_by (written_file unit) _ _ (headers_are unit within) (segments_both (4 * length unit.words) (code_offset + 4 * length unit.words) (data_of unit) (length unit.bytes) (data_size unit) (omega arith) some) in (
      no_fault_by (written_file unit) size (no_header_fault unit)
          (no_fault_both (room_of size) (written_file unit) (4 * length unit.words) (data_of unit) (length unit.bytes) (data_size unit)
          (omega arith) apart fits (omega arith) (omega (arith, length_is unit)) (entry_is unit) (headers_are unit within) segments),
      image_by (written_file unit) size (code_segment unit ∷ data_segment unit ∷ []) _ _ segments (entry_is unit) (bytes_both unit size.mem) (rw test refl),
    )

accepted_by : (unit : Unit) (size : Numbers) (test : Bool) → (data_size unit == 0) ≡ test → IsWithin unit → 0 < length unit.words
    → (if test then code_end unit else data_of unit + data_size unit) ≤ room_of size
    → (first_fault (written_file unit) size ≡ None) × (image_of (written_file unit) size ≡ unit_image unit size)
accepted_by unit size true test within filled fits = accepted_alone unit size within filled test fits
accepted_by unit size false test within filled fits = accepted_both unit size within filled test fits

pub accepted : (unit : Unit) (size : Numbers) → IsWithin unit → 0 < length unit.words → end_of unit ≤ room_of size
    → (first_fault (written_file unit) size ≡ None) × (image_of (written_file unit) size ≡ unit_image unit size)
accepted unit size within filled fits = accepted_by unit size (data_size unit == 0) refl within filled fits
