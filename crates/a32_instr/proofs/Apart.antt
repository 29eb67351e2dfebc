-- Rows that no word fits together, by a test of their fixed bits that computes.
use Rattle.std.proofs.Common.{◌≡◌, ℕ, ◌/◌, ◌%◌, ◌^◌, ◌<◌, ◌==◌, nat_lt, ◌&&◌, ◌||◌, Bool, true, false, IsTrue, List, [], ◌∷◌, All, AllPairs, ⊎_elim, arith, refl, ◌∙◌, subst}
use Rattle.std.specs.List.{list_any, list_all}
use Rattle.std.proofs.lemmas.Bool.{and_parts, or_cases, eqb-true, ltb-true, both_ways}
use Rattle.std.proofs.lemmas.List.Elements.{All-cons, All-nil}
use Rattle.std.proofs.lemmas.List.Kept.{AllPairs-cons}
use Rattle.llsc_base.specs.Bits.{Run, bits_of, value_of, has_all, has_bits, runs_of, field}
use Rattle.a32_instr.specs.Fields.{alu_op, alu_fits, half_fits}
use Rattle.a32_instr.specs.Table.{Row, fits, AreApart, condition_fits, c}
use Rattle.a32_instr.proofs.SilentCompare.{silent_compare}
use Rattle.llsc_base.proofs.Clashes.{clash, clash_apart, within, digit, bit_is, first_of, rest_of}

-- two rows have a fixed bit that differs
abbrev pub rows_clash : Row → Row → Bool
rows_clash row other = clash (runs_of 0 row.bits) (runs_of 0 other.bits)

fixed_bits : (row : Row) (word : ℕ) → IsTrue (fits row word) → IsTrue (has_bits word row.bits)
fixed_bits row word h =
    let front : IsTrue (has_bits word row.bits && condition_fits (runs_of c row.bits) (field word row.bits)) =
    (and_parts (has_bits word row.bits && condition_fits (runs_of c row.bits) (field word row.bits)) (row.further (field word row.bits)) h).0 in
    (and_parts (has_bits word row.bits) (condition_fits (runs_of c row.bits) (field word row.bits)) front).0

-- what else a row asks of a word that fits it
pub further_of : (row : Row) (word : ℕ) → IsTrue (fits row word) → IsTrue (row.further (field word row.bits))
further_of row word h =
    (and_parts (has_bits word row.bits && condition_fits (runs_of c row.bits) (field word row.bits)) (row.further (field word row.bits)) h).1

-- rows with a fixed bit that differs are apart
pub clash_is_apart : (row other : Row) → IsTrue (rows_clash row other) → AreApart row other
clash_is_apart row other e word small h g =
    clash_apart word (runs_of 0 row.bits) (runs_of 0 other.bits) (fixed_bits row word h) (fixed_bits other word g) e

-- Data processing, and its neighbours whose words have the opcode of a compare and don't set the flags.

-- the words that have the runs have this digit as bit p
abbrev fixes : ℕ → ℕ → List Run → Bool
fixes p value runs = list_any (λ run. within p run && (digit p run == value)) runs

fixes_is : (word p value : ℕ) (runs : List Run) → IsTrue (has_all word runs) → IsTrue (fixes p value runs) → word / 2 ^ p % 2 ≡ value
fixes_is word p value [] all e = absurd (both_ways false refl e)
fixes_is word p value (run ∷ runs) all e =
    ⊎_elim
    (λ here.
    let parts : IsTrue (within p run) × IsTrue (digit p run == value) = and_parts (within p run) (digit p run == value) here in
    bit_is word p run (first_of word run runs all) parts.0 ∙ eqb-true (digit p run) value parts.1)
    (fixes_is word p value runs (rest_of word run runs all))
    (or_cases (within p run && (digit p run == value)) (fixes p value runs) e)

-- the fixed bits of a row are 10 at 24:23 and 0 at 20
abbrev pub is_silent : Row → Bool
is_silent row = fixes 24 1 (runs_of 0 row.bits) && (fixes 23 0 (runs_of 0 row.bits) && fixes 20 0 (runs_of 0 row.bits))

-- a row asks for the form of data processing
abbrev pub IsData : Row → Type 0
IsData row = (word : ℕ) → IsTrue (row.further (field word row.bits)) → (rd rn : ℕ) × IsTrue (alu_fits (alu_op (bits_of word 21 4)) (bits_of word 20 1) rd rn)

silent_apart : (row other : Row) → IsData row → IsTrue (is_silent other) → AreApart row other
silent_apart row other data_row e word small h g =
    let parts : IsTrue (fixes 24 1 (runs_of 0 other.bits)) × IsTrue (fixes 23 0 (runs_of 0 other.bits) && fixes 20 0 (runs_of 0 other.bits)) =
    and_parts (fixes 24 1 (runs_of 0 other.bits)) (fixes 23 0 (runs_of 0 other.bits) && fixes 20 0 (runs_of 0 other.bits)) e in
    let low : IsTrue (fixes 23 0 (runs_of 0 other.bits)) × IsTrue (fixes 20 0 (runs_of 0 other.bits)) =
    and_parts (fixes 23 0 (runs_of 0 other.bits)) (fixes 20 0 (runs_of 0 other.bits)) parts.1 in
    let all : IsTrue (has_bits word other.bits) = fixed_bits other word g in
    let bit_24 : word / 2 ^ 24 % 2 ≡ 1 = fixes_is word 24 1 (runs_of 0 other.bits) all parts.0 in
    let bit_23 : word / 2 ^ 23 % 2 ≡ 0 = fixes_is word 23 0 (runs_of 0 other.bits) all low.0 in
    let bit_20 : word / 2 ^ 20 % 2 ≡ 0 = fixes_is word 20 0 (runs_of 0 other.bits) all low.1 in
    let form : (rd rn : ℕ) × IsTrue (alu_fits (alu_op (bits_of word 21 4)) (bits_of word 20 1) rd rn) = data_row word (further_of row word h) in
    silent_compare word form.0 form.1 form.2 (omega arith) bit_20

-- Halfwords and signed bytes, and their neighbours, whose words have 0 in both bits that tell them.

-- both bits that tell a halfword or a signed byte are fixed to 0
abbrev pub is_product : Row → Bool
is_product row = fixes 6 0 (runs_of 0 row.bits) && fixes 5 0 (runs_of 0 row.bits)

-- a row asks for the form of a halfword or a signed byte
abbrev pub IsHalf : Row → Type 0
IsHalf row = (word : ℕ) → IsTrue (row.further (field word row.bits)) → IsTrue (half_fits (bits_of word 20 1) (bits_of word 6 1) (bits_of word 5 1))

no_half : (l x y : ℕ) → x ≡ 0 → y ≡ 0 → IsTrue (half_fits l x y) → ⊥
unfolding half_fits
no_half l x y none low h =
    ⊎_elim
    (λ loads.
    let set : y ≡ 1 = eqb-true y 1 (and_parts (x == 0) (y == 1) loads).1 in
    omega arith)
    (λ signed.
    let set : x ≡ 1 = eqb-true x 1 (and_parts (x == 1) (l == 1) signed).0 in
    omega arith)
    (or_cases ((x == 0) && (y == 1)) ((x == 1) && (l == 1)) h)

half_apart : (row other : Row) → IsHalf row → IsTrue (is_product other) → AreApart row other
half_apart row other half_row e word small h g =
    let parts : IsTrue (fixes 6 0 (runs_of 0 other.bits)) × IsTrue (fixes 5 0 (runs_of 0 other.bits)) =
    and_parts (fixes 6 0 (runs_of 0 other.bits)) (fixes 5 0 (runs_of 0 other.bits)) e in
    let all : IsTrue (has_bits word other.bits) = fixed_bits other word g in
    let bit_6 : word / 2 ^ 6 % 2 ≡ 0 = fixes_is word 6 0 (runs_of 0 other.bits) all parts.0 in
    let bit_5 : word / 2 ^ 5 % 2 ≡ 0 = fixes_is word 5 0 (runs_of 0 other.bits) all parts.1 in
    no_half (bits_of word 20 1) (bits_of word 6 1) (bits_of word 5 1) bit_6 bit_5 (half_row word (further_of row word h))

-- Rows against a list of rows.

-- each row has a fixed bit that differs, or is one of those that are apart for another reason
mostly_apart : (row : Row) (test : Row → Bool) → ((other : Row) → IsTrue (test other) → AreApart row other)
    → (rows : List Row) → IsTrue (list_all (λ other. rows_clash row other || test other) rows) → All (AreApart row) rows
mostly_apart row test reason [] e = All-nil (AreApart row)
mostly_apart row test reason (other ∷ rows) e =
    let parts : IsTrue (rows_clash row other || test other) × IsTrue (list_all (λ other. rows_clash row other || test other) rows) =
    and_parts (rows_clash row other || test other) (list_all (λ other. rows_clash row other || test other) rows) e in
    All-cons (AreApart row) other rows
    (⊎_elim (clash_is_apart row other) (reason other) (or_cases (rows_clash row other) (test other) parts.0))
    (mostly_apart row test reason rows parts.1)

-- data processing against a list of rows
pub data_apart : (row : Row) → IsData row → (rows : List Row) → IsTrue (list_all (λ other. rows_clash row other || is_silent other) rows) → All (AreApart row) rows
data_apart row data_row rows e = mostly_apart row is_silent (λ other. silent_apart row other data_row) rows e

-- halfwords and signed bytes against a list of rows
pub halves_apart : (row : Row) → IsHalf row → (rows : List Row) → IsTrue (list_all (λ other. rows_clash row other || is_product other) rows) → All (AreApart row) rows
halves_apart row half_row rows e = mostly_apart row is_product (λ other. half_apart row other half_row) rows e

all_apart : (row : Row) (rows : List Row) → IsTrue (list_all (rows_clash row) rows) → All (AreApart row) rows
all_apart row [] e = All-nil (AreApart row)
all_apart row (other ∷ rows) e =
    let parts : IsTrue (rows_clash row other) × IsTrue (list_all (rows_clash row) rows) = and_parts (rows_clash row other) (list_all (rows_clash row) rows) e in
    All-cons (AreApart row) other rows (clash_is_apart row other parts.0) (all_apart row rows parts.1)

-- each row has a fixed bit that differs from each later one's
abbrev pub all_clash : List Row → Bool
all_clash [] = true
all_clash (row ∷ rows) = list_all (rows_clash row) rows && all_clash rows

pub pairs_more : (row : Row) (rows : List Row) → All (AreApart row) rows → AllPairs AreApart rows → AllPairs AreApart (row ∷ rows)
pairs_more row rows here there = AllPairs-cons AreApart row rows here there

pub pairs_apart : (rows : List Row) → IsTrue (all_clash rows) → AllPairs AreApart rows
pairs_apart [] e = λ i j d less within. absurd (omega (arith, within))
pairs_apart (row ∷ rows) e =
    let parts : IsTrue (list_all (rows_clash row) rows) × IsTrue (all_clash rows) = and_parts (list_all (rows_clash row) rows) (all_clash rows) e in
    pairs_more row rows (all_apart row rows parts.0) (pairs_apart rows parts.1)

-- Rows with a condition field, and rows whose words have 1111 in its place.

-- these runs are one field at the place of a condition
abbrev pub is_condition : List Run → Bool
is_condition [] = false
is_condition (run ∷ []) = (run.low == 28) && (run.width == 4)
is_condition (run ∷ next ∷ runs) = false

abbrev pub is_conditional : Row → Bool
is_conditional row = is_condition (runs_of c row.bits)

condition_below : (word : ℕ) (runs : List Run) → IsTrue (is_condition runs) → IsTrue (condition_fits runs (λ letter. value_of word runs)) → bits_of word 28 4 < 15
condition_below word [] e h = absurd (both_ways false refl e)
condition_below word (run ∷ []) e h =
    let parts : IsTrue (run.low == 28) × IsTrue (run.width == 4) = and_parts (run.low == 28) (run.width == 4) e in
    let less : bits_of word run.low run.width < 15 = ltb-true (bits_of word run.low run.width) 15 h in
    subst (λ (l : ℕ). bits_of word l 4 < 15) (eqb-true run.low 28 parts.0) (subst (λ (w : ℕ). bits_of word run.low w < 15) (eqb-true run.width 4 parts.1) less)
condition_below word (run ∷ next ∷ runs) e h = absurd (both_ways false refl e)

-- a condition that fits asks only for the value of its own field
condition_alone : (runs : List Run) (f g : ℕ → ℕ) → f c ≡ g c → IsTrue (condition_fits runs f) → IsTrue (condition_fits runs g)
condition_alone [] f g same h = h
condition_alone (run ∷ runs) f g same h = subst (λ (v : ℕ). IsTrue (nat_lt v 15)) same h

condition_is : (row : Row) (word : ℕ) → IsTrue (is_conditional row) → IsTrue (fits row word) → bits_of word 28 4 < 15
condition_is row word e h =
    let front : IsTrue (has_bits word row.bits && condition_fits (runs_of c row.bits) (field word row.bits)) =
    (and_parts (has_bits word row.bits && condition_fits (runs_of c row.bits) (field word row.bits)) (row.further (field word row.bits)) h).0 in
    let fit : IsTrue (condition_fits (runs_of c row.bits) (field word row.bits)) =
    (and_parts (has_bits word row.bits) (condition_fits (runs_of c row.bits) (field word row.bits)) front).1 in
    condition_below word (runs_of c row.bits) e (condition_alone (runs_of c row.bits) (field word row.bits) (λ letter. value_of word (runs_of c row.bits)) refl fit)

-- every word of the row has 1111 in the place of a condition
abbrev pub IsUnconditional : Row → Type 0
IsUnconditional row = (word : ℕ) → IsTrue (fits row word) → bits_of word 28 4 ≡ 15

-- a row with no condition against rows with one
pub unconditional_apart : (row : Row) → IsUnconditional row → (rows : List Row) → IsTrue (list_all is_conditional rows) → All (AreApart row) rows
unconditional_apart row always [] e = All-nil (AreApart row)
unconditional_apart row always (other ∷ rows) e =
    let parts : IsTrue (is_conditional other) × IsTrue (list_all is_conditional rows) = and_parts (is_conditional other) (list_all is_conditional rows) e in
    All-cons (AreApart row) other rows
    (λ word small h g.
    let all : bits_of word 28 4 ≡ 15 = always word h in
    let less : bits_of word 28 4 < 15 = condition_is other word parts.0 g in
    omega arith)
    (unconditional_apart row always rows parts.1)

-- a row that fixes its highest four bits to 1
pub fixed_unconditional : (row : Row) → IsTrue (fixes 28 1 (runs_of 0 row.bits) && (fixes 29 1 (runs_of 0 row.bits) && (fixes 30 1 (runs_of 0 row.bits) && fixes 31 1 (runs_of 0 row.bits)))) → IsUnconditional row
fixed_unconditional row e word h =
    let first : IsTrue (fixes 28 1 (runs_of 0 row.bits)) × IsTrue (fixes 29 1 (runs_of 0 row.bits) && (fixes 30 1 (runs_of 0 row.bits) && fixes 31 1 (runs_of 0 row.bits))) =
    and_parts (fixes 28 1 (runs_of 0 row.bits)) (fixes 29 1 (runs_of 0 row.bits) && (fixes 30 1 (runs_of 0 row.bits) && fixes 31 1 (runs_of 0 row.bits))) e in
    let second : IsTrue (fixes 29 1 (runs_of 0 row.bits)) × IsTrue (fixes 30 1 (runs_of 0 row.bits) && fixes 31 1 (runs_of 0 row.bits)) =
    and_parts (fixes 29 1 (runs_of 0 row.bits)) (fixes 30 1 (runs_of 0 row.bits) && fixes 31 1 (runs_of 0 row.bits)) first.1 in
    let third : IsTrue (fixes 30 1 (runs_of 0 row.bits)) × IsTrue (fixes 31 1 (runs_of 0 row.bits)) =
    and_parts (fixes 30 1 (runs_of 0 row.bits)) (fixes 31 1 (runs_of 0 row.bits)) second.1 in
    let all : IsTrue (has_bits word row.bits) = fixed_bits row word h in
    let bit_28 : word / 2 ^ 28 % 2 ≡ 1 = fixes_is word 28 1 (runs_of 0 row.bits) all first.0 in
    let bit_29 : word / 2 ^ 29 % 2 ≡ 1 = fixes_is word 29 1 (runs_of 0 row.bits) all second.0 in
    let bit_30 : word / 2 ^ 30 % 2 ≡ 1 = fixes_is word 30 1 (runs_of 0 row.bits) all third.0 in
    let bit_31 : word / 2 ^ 31 % 2 ≡ 1 = fixes_is word 31 1 (runs_of 0 row.bits) all third.1 in
    omega arith
