-- The text of a record is no longer than the file of one may be.
use Rattle.std.proofs.Common.{◌≡◌, ℕ, ◌^◌, ◌/◌, ◌%◌, ◌<◌, ◌≤◌, ◌==◌, if◌then◌else◌, true, false, All, ◌++◌, codes, length, refl, arith, length-append}
use Rattle.std.specs.Fmt.{decimal}
use Rattle.std.specs.Prelude.{flat_map}
use Rattle.std.proofs.lemmas.List.Concat.{length-flat_map}
use Rattle.std.proofs.lemmas.List.Elements.{All-weaker}
use Rattle.std.proofs.lemmas.List.Sums.{sum_by-le}
use Rattle.llsc_base.specs.declared.access.Size.{Size}
use Rattle.llsc_base.specs.declared.access.Size.TheVariants.{B1, B2, B4, B8}
use Rattle.history.specs.declared.entry.Access.{Access}
use Rattle.history.specs.declared.entry.Deed.{Deed}
use Rattle.history.specs.declared.entry.Deed.TheVariants as deed
use Rattle.number_text.specs.Hexadecimal.{long_text, word_text}
use Rattle.number_text.proofs.Lengths.{long_decimal, short_decimal, word_length}
use Rattle.run_record.specs.Limits.{IsAccess, IsRecord}
use Rattle.run_record.specs.Text.{deed_text, front_text, header_text, line_text, object_text, record_text, size_word}
use Rattle.run_record.specs.declared.records.RunRecord.{RunRecord}

-- ---- a line

long_length : (n : ℕ) → length (long_text n) ≡ 16
unfolding long_text
long_length n = omega (arith, length-append (word_text (n / 2 ^ 32)) (word_text (n % 2 ^ 32)), word_length (n / 2 ^ 32), word_length (n % 2 ^ 32))

size_length : (size : Size) → length (size_word size) ≡ 1
size_length B1 = refl
size_length B2 = refl
size_length B4 = refl
size_length B8 = refl

object_length : (access : Access) → length (object_text access) ≡ 28
object_length access =
    let space : length (codes " ") ≡ 1 = refl in
    simp length-append (omega (arith, space, size_length access.place.size, word_length access.place.addr, long_length access.value))

deed_length : (made : Deed) (access : Access) → length (deed_text made access) ≤ 35
deed_length deed.Load access = omega (arith, length-append (codes "load") (object_text access), object_length access)
deed_length deed.LoadEx access = omega (arith, length-append (codes "loadex") (object_text access), object_length access)
deed_length deed.Store access = omega (arith, length-append (codes "store") (object_text access), object_length access)
deed_length deed.StoreEx access = omega (arith, length-append (codes "storeex") (object_text access), object_length access)
deed_length deed.StoreFail access = omega (arith, length-append (codes "fail") (object_text access), object_length access)
deed_length deed.Clear access = omega arith

line_length : (access : Access) → access.thread < 2 ^ 32 → length (line_text access) ≤ 60
unfolding line_text
line_length access few =
    let space : length (codes " ") ≡ 1 = refl in
    let newline : length (codes "\n") ≡ 1 = refl in
    simp length-append (omega (arith, space, newline, short_decimal access.thread few, deed_length access.deed access))

-- ---- a record

front_length : (threads granule : ℕ) → threads < 2 ^ 32 → granule < 2 ^ 32 → length (front_text threads granule) ≤ 50
front_length threads granule few rows = elim (granule == 0) as (λ b. length (if b then codes "llsc-run 1 threads " ++ decimal threads else codes "llsc-run 2 threads " ++ decimal threads ++ codes " granule " ++ decimal granule) ≤ 50) [
  | true ↦ omega (arith, length-append (codes "llsc-run 1 threads ") (decimal threads), short_decimal threads few)
  | false ↦
      let before : length (codes "llsc-run 2 threads ") ≡ 19 = refl in
      let between : length (codes " granule ") ≡ 9 = refl in
      simp length-append (omega (arith, before, between, short_decimal threads few, short_decimal granule rows))
]

header_length : (threads granule budget count : ℕ) → threads < 2 ^ 32 → granule < 2 ^ 32 → budget < 2 ^ 64 → count < 2 ^ 32
    → length (header_text threads granule budget count) ≤ 110
unfolding header_text
header_length threads granule budget count few rows bounded small =
    let before : length (codes " budget ") ≡ 8 = refl in
    let between : length (codes " accesses ") ≡ 10 = refl in
    let newline : length (codes "\n") ≡ 1 = refl in
    simp length-append (omega (arith, before, between, newline, front_length threads granule few rows, long_decimal budget bounded, short_decimal count small))

pub record_length : (run : RunRecord) → IsRecord run → length (record_text run) ≤ 60000110
unfolding record_text
record_length run is =
    let header = header_text run.threads run.granule run.budget (length run.accesses) in
    let each : All (λ access. length (line_text access) ≤ 60) run.accesses =
    All-weaker (IsAccess run.threads) (λ access. length (line_text access) ≤ 60)
    (λ access one. line_length access (omega (arith, one.thread, is.numbers.few))) run.accesses is.accesses in
    let lines = sum_by-le (λ access. length (line_text access)) 60 run.accesses each in
    omega (
      arith,
      length-append header (flat_map line_text run.accesses),
      length-flat_map line_text run.accesses,
      lines,
      is.count,
      header_length run.threads run.granule run.budget (length run.accesses) (omega (arith, is.numbers.few)) (omega (arith, is.numbers.rows))
          (omega (arith, is.numbers.bounded)) (omega (arith, is.count)),
    )
