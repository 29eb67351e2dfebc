-- The record whose text bytes are, or their fault, read field by field.
use Rattle.std.specs.Prelude.{ℕ, ◌+◌, ◌^◌, ◌==◌, ◌&&◌, nat_le, nat_lt, if◌then◌else◌, Bool, codes, suc, zero, List, [], ◌∷◌, Option, Some, None, Result, Ok, Err}
use Rattle.std.specs.Str.{bytes_eq}
use Rattle.llsc_base.specs.Memory.{is_aligned, size_bytes}
use Rattle.llsc_base.specs.declared.access.Size.{Size}
use Rattle.llsc_base.specs.declared.access.Size.TheVariants.{B1, B2, B4, B8}
use Rattle.history.specs.declared.entry.Access.{Access}
use Rattle.history.specs.declared.entry.Deed.{Deed}
use Rattle.history.specs.declared.entry.Deed.TheVariants.{Load, LoadEx, Store, StoreEx, StoreFail, Clear}
use Rattle.number_text.specs.Decimal.{plain_number}
use Rattle.number_text.specs.Hexadecimal.{long_number, word_number}
use Rattle.run_record.specs.declared.faults.RecordFault.{RecordFault}
use Rattle.run_record.specs.declared.faults.RecordFault.TheVariants as fault
use Rattle.run_record.specs.declared.headers.Header.{Header}
use Rattle.run_record.specs.declared.records.RunRecord.{RunRecord}
use Rattle.run_record.specs.Fields.{Read, ◌>>=◌, after, field}
use Rattle.llsc_base.specs.Limits.{most_budget}
use Rattle.run_record.specs.Limits.{most_threads, most_granule, most_accesses}
use Rattle.history.specs.Accesses.{nowhere}

-- the deed of a word
abbrev pub deed_of : List ℕ → Option Deed
deed_of word =
    if bytes_eq word (codes "load") then Some Load else
    if bytes_eq word (codes "loadex") then Some LoadEx else
    if bytes_eq word (codes "store") then Some Store else
    if bytes_eq word (codes "storeex") then Some StoreEx else
    if bytes_eq word (codes "fail") then Some StoreFail else
    None

-- the size of a word
abbrev pub size_of : List ℕ → Option Size
size_of word =
    if bytes_eq word (codes "1") then Some B1 else
    if bytes_eq word (codes "2") then Some B2 else
    if bytes_eq word (codes "4") then Some B4 else
    if bytes_eq word (codes "8") then Some B8 else
    None

-- the place is aligned, and the value fits
abbrev pub is_whole : Access → Bool
is_whole access = is_aligned access.place && nat_lt access.value (256 ^ size_bytes access.place.size)

-- the clear of a thread
abbrev pub clear_of : ℕ → Access
clear_of thread = record { thread = thread; deed = Clear; place = nowhere; value = 0 }

-- the access of a thread, behind its number
abbrev pub object_access : ℕ → List ℕ → Read Access
object_access thread bytes = do
  deed ← field deed_of 32 bytes
  size ← field size_of 32 deed.1
  addr ← field word_number 32 size.1
  value ← field long_number 10 addr.1
  access ← Some (record { thread = thread; deed = deed.0; place = record { addr = addr.0; size = size.0 }; value = value.0 })
  if is_whole access then Some (access, value.1) else None

-- the access of a thread, behind its number; a clear has no object
abbrev pub clear_or : ℕ → Option (List ℕ) → List ℕ → Read Access
clear_or thread (Some rest) bytes = Some (clear_of thread, rest)
clear_or thread None bytes = object_access thread bytes

-- the access of a line, whichever threads there are
unfoldable pub line_access : List ℕ → Read Access
line_access bytes = do
  thread ← field plain_number 32 bytes
  clear_or thread.0 (after (codes "clear\n") thread.1) thread.1

-- the access of the line of this number, in a run of so many threads
abbrev pub of_thread : ℕ → ℕ → Read Access → Result (Access × List ℕ) RecordFault
of_thread threads number None = Err (fault.Line number)
of_thread threads number (Some line) = if nat_lt line.0.thread threads then Ok line else Err (fault.Thread number)

abbrev pub next_access : ℕ → ℕ → List ℕ → Result (Access × List ℕ) RecordFault
next_access threads number bytes = of_thread threads number (line_access bytes)

-- an access in front of others
abbrev pub in_front : Access → Result (List Access) RecordFault → Result (List Access) RecordFault
in_front access (Ok accesses) = Ok (access ∷ accesses)
in_front access (Err fault) = Err fault

abbrev pub followed : Result (Access × List ℕ) RecordFault → (List ℕ → Result (List Access) RecordFault) → Result (List Access) RecordFault
followed (Ok line) later = in_front line.0 (later line.1)
followed (Err fault) later = Err fault

-- behind the last line nothing is left
abbrev pub ended : ℕ → List ℕ → Result (List Access) RecordFault
ended number [] = Ok []
ended number (byte ∷ bytes) = Err (fault.Line number)

-- the accesses of so many lines, from the line of this number on
unfoldable pub accesses_from : ℕ → ℕ → ℕ → List ℕ → Result (List Access) RecordFault
accesses_from threads zero number bytes = ended number bytes
accesses_from threads (suc count) number bytes = followed (next_access threads number bytes) (accesses_from threads count (number + 1))

-- a number behind a label
abbrev pub labelled : List ℕ → ℕ → List ℕ → Read ℕ
labelled label code bytes = after label bytes >>= field plain_number code

-- the granule number that the second format names, which isn't 0
abbrev pub named_granule : List ℕ → Read ℕ
named_granule bytes = do
  granule ← labelled (codes "granule ") 32 bytes
  if granule.0 == 0 then None else Some granule

-- the granule number by the format: the first names none, and it is 0
abbrev pub granule_of : ℕ → List ℕ → Read ℕ
granule_of format bytes =
    if format == 1 then Some (0, bytes) else
    if format == 2 then named_granule bytes else
    None

-- the numbers of a header line, of either format
abbrev pub header_numbers : List ℕ → Read Header
header_numbers bytes = do
  format ← labelled (codes "llsc-run ") 32 bytes
  threads ← labelled (codes "threads ") 32 format.1
  granule ← granule_of format.0 threads.1
  budget ← labelled (codes "budget ") 32 granule.1
  count ← labelled (codes "accesses ") 10 budget.1
  Some (record { threads = threads.0; granule = granule.0; budget = budget.0; count = count.0 }, count.1)

-- the numbers are those of a run
abbrev pub is_run : Header → Bool
is_run header =
    (nat_le 1 header.threads && nat_le header.threads most_threads)
    && nat_le header.granule most_granule
    && (nat_le 1 header.budget && nat_le header.budget most_budget)

-- the header line of a run
unfoldable pub header_of : List ℕ → Read Header
header_of bytes = do
  line ← header_numbers bytes
  if is_run line.0 then Some line else None

-- the record of a header and its accesses
abbrev pub made : Header → Result (List Access) RecordFault → Result RunRecord RecordFault
made header (Ok accesses) = Ok (record { threads = header.threads; budget = header.budget; granule = header.granule; accesses = accesses })
made header (Err fault) = Err fault

abbrev pub behind_header : Read Header → Result RunRecord RecordFault
behind_header None = Err fault.Header
behind_header (Some line) =
    if nat_lt most_accesses line.0.count then Err fault.TooLong else made line.0 (accesses_from line.0.threads line.0.count 2 line.1)

-- the record whose text bytes are, or their fault
unfoldable pub record_of : List ℕ → Result RunRecord RecordFault
record_of bytes = behind_header (header_of bytes)
