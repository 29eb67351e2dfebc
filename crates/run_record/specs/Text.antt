-- The text of a record: a header line, and a line for each access. Every line ends with a newline, and single spaces
-- stand between its parts. These are two formats of this project's own, which differ in the header line alone.
use Rattle.std.specs.Prelude.{ℕ, ◌==◌, if◌then◌else◌, codes, List, flat_map, ◌++◌, length}
use Rattle.std.specs.Fmt.{decimal}
use Rattle.llsc_base.specs.declared.access.Size.{Size}
use Rattle.llsc_base.specs.declared.access.Size.TheVariants.{B1, B2, B4, B8}
use Rattle.history.specs.declared.entry.Access.{Access}
use Rattle.history.specs.declared.entry.Deed.{Deed}
use Rattle.history.specs.declared.entry.Deed.TheVariants.{Load, LoadEx, Store, StoreEx, StoreFail, Clear}
use Rattle.number_text.specs.Hexadecimal.{long_text, word_text}
use Rattle.run_record.specs.declared.records.RunRecord.{RunRecord}

-- the word of a deed
abbrev pub deed_word : Deed → List ℕ
deed_word Load = codes "load"
deed_word LoadEx = codes "loadex"
deed_word Store = codes "store"
deed_word StoreEx = codes "storeex"
deed_word StoreFail = codes "fail"
deed_word Clear = codes "clear"

-- a size, by its number of bytes
abbrev pub size_word : Size → List ℕ
size_word B1 = codes "1"
size_word B2 = codes "2"
size_word B4 = codes "4"
size_word B8 = codes "8"

-- the size, the address and the value of an access
abbrev pub object_text : Access → List ℕ
object_text access =
    codes " " ++ size_word access.place.size ++ codes " " ++ word_text access.place.addr ++ codes " " ++ long_text access.value

-- what an access does: its word, and its object unless it is a Clear
abbrev pub deed_text : Deed → Access → List ℕ
deed_text Clear access = deed_word Clear
deed_text deed access = deed_word deed ++ object_text access

-- the line of an access
unfoldable pub line_text : Access → List ℕ
line_text access = decimal access.thread ++ codes " " ++ deed_text access.deed access ++ codes "\n"

-- the format, the number of threads, and the granule number: the first format is that of granule 0, which it doesn't name
abbrev pub front_text : ℕ → ℕ → List ℕ
front_text threads granule =
    if granule == 0 then codes "llsc-run 1 threads " ++ decimal threads else
    codes "llsc-run 2 threads " ++ decimal threads ++ codes " granule " ++ decimal granule

-- the header line: the number of threads, the granule number, the budget of each thread, and the number of accesses
unfoldable pub header_text : ℕ → ℕ → ℕ → ℕ → List ℕ
header_text threads granule budget count =
    front_text threads granule ++ codes " budget " ++ decimal budget ++ codes " accesses " ++ decimal count ++ codes "\n"

-- the text of a record
unfoldable pub record_text : RunRecord → List ℕ
record_text run = header_text run.threads run.granule run.budget (length run.accesses) ++ flat_map line_text run.accesses
