-- No word fits two rows of the table: each row has a fixed bit that differs from each later one's.
use Rattle.std.proofs.Common.{◌&&◌, Bool, true, IsTrue, List, [], ◌∷◌, All, AllPairs, arith, refl}
use Rattle.std.specs.List.{list_all}
use Rattle.std.proofs.lemmas.Bool.{and_parts}
use Rattle.std.proofs.lemmas.List.Elements.{All-cons, All-nil}
use Rattle.std.proofs.lemmas.List.Kept.{AllPairs-cons}
use Rattle.llsc_base.specs.Bits.{runs_of}
use Rattle.llsc_base.proofs.Clashes.{clash, clash_apart}
use Rattle.rv32_guest.specs.Table.{Row, AreApart, table}

abbrev rows_clash : Row → Row → Bool
rows_clash row other = clash (runs_of 0 row.bits) (runs_of 0 other.bits)

abbrev all_clash : List Row → Bool
all_clash [] = true
all_clash (row ∷ rows) = list_all (rows_clash row) rows && all_clash rows

all_apart : (row : Row) (rows : List Row) → IsTrue (list_all (rows_clash row) rows) → All (AreApart row) rows
all_apart row [] e = All-nil (AreApart row)
all_apart row (other ∷ rows) e =
    let parts = and_parts (rows_clash row other) (list_all (rows_clash row) rows) e in
    All-cons (AreApart row) other rows (λ word fit other_fit. clash_apart word (runs_of 0 row.bits) (runs_of 0 other.bits) fit other_fit parts.0) (all_apart row rows parts.1)

pairs_apart : (rows : List Row) → IsTrue (all_clash rows) → AllPairs AreApart rows
pairs_apart [] e = λ i j d less within. absurd (omega (arith, within))
pairs_apart (row ∷ rows) e =
    let parts = and_parts (list_all (rows_clash row) rows) (all_clash rows) e in
    AllPairs-cons AreApart row rows (all_apart row rows parts.0) (pairs_apart rows parts.1)

pub table_apart : AllPairs AreApart table
table_apart = pairs_apart table refl
