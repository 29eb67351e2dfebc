-- The rows of the table by their opcodes, bits 6:0 of their words.
use Rattle.std.proofs.Common.{◌≡◌, ℕ, ◌+◌, ◌-◌, ◌/◌, ◌%◌, ◌^◌, ◌==◌, ◌≤◌, nat_le, ◌&&◌, Bool, false, IsTrue, List, [], ◌∷◌, Result, Err, ⊎_elim, arith, refl, sym, ap, subst, ◌∙◌}
use Rattle.std.specs.List.{list_any, list_all}
use Rattle.std.proofs.lemmas.Bool.{and_parts, or_cases, eqb-true, leb-true, both_ways, false_from_ne_true}
use Rattle.std.proofs.lemmas.Nat.{mod-pow-add}
use Rattle.llsc_base.specs.Bits.{Run, bits_of, has_all, runs_of}
use Rattle.llsc_base.specs.declared.decoding.DecodeFault.{DecodeFault}
use Rattle.llsc_base.specs.declared.decoding.DecodeFault.TheVariants.{Undefined}
use Rattle.rv32_guest.specs.declared.instructions.RvInstr.{RvInstr}
use Rattle.rv32_guest.specs.Table.{Row, fits, table, meaning}
use Rattle.rv32_guest.specs.inner.Rows.{Fits, NoneFits, FollowsRows, Decides}
use Rattle.rv32_guest.proofs.Rows.{having, kept, decided, decides_by_kept}

-- what the rows of an opcode decide is what the table says
pub by_opcode : (word opcode : ℕ) (answer : Result RvInstr DecodeFault) → bits_of word 0 7 ≡ opcode
    → Decides (kept (having 0 7 opcode) table) word answer → answer ≡ meaning table word
by_opcode word opcode answer same decides = decided table word answer (decides_by_kept table word 0 7 opcode answer same decides)

-- A word whose opcode no row has.

-- a number is none of a list
abbrev pub IsNoneOf : List ℕ → ℕ → Type 0
IsNoneOf [] x = Unit {0}
IsNoneOf (y ∷ ys) x = (x ≡ y → ⊥) × IsNoneOf ys x

abbrev lowest : List Run → Run
lowest [] = record { letter = 0; low = 0; width = 0; value = 0 }
lowest (run ∷ []) = run
lowest (run ∷ next ∷ runs) = lowest (next ∷ runs)

-- fixed bits end in an opcode
abbrev ends_in : Run → ℕ → Bool
ends_in run opcode = (run.low == 0) && (nat_le 7 run.width && (run.value % 2 ^ 7 == opcode))

abbrev has_one_of : List ℕ → Row → Bool
has_one_of opcodes row = list_any (ends_in (lowest (runs_of 0 row.bits))) opcodes

abbrev opcodes : List ℕ
opcodes = 3 ∷ 15 ∷ 19 ∷ 23 ∷ 35 ∷ 47 ∷ 51 ∷ 55 ∷ 99 ∷ 103 ∷ 111 ∷ 115 ∷ []

lowest_is : (word : ℕ) (runs : List Run) → IsTrue (has_all word runs) → bits_of word (lowest runs).low (lowest runs).width ≡ (lowest runs).value
lowest_is word [] all = omega arith
lowest_is word (run ∷ []) all = eqb-true (bits_of word run.low run.width) run.value all
lowest_is word (run ∷ next ∷ runs) all =
    lowest_is word (next ∷ runs) (and_parts (bits_of word run.low run.width == run.value) (has_all word (next ∷ runs)) all).1

low_7 : (x more : ℕ) → x % 2 ^ (more + 7) % 2 ^ 7 ≡ x % 2 ^ 7
low_7 x more = ap (λ (y : ℕ). y % 2 ^ 7) (mod-pow-add x more 7) ∙ omega arith

opcode_is : (word low width value opcode : ℕ) → bits_of word low width ≡ value → low ≡ 0 → 7 ≤ width → value % 2 ^ 7 ≡ opcode → bits_of word 0 7 ≡ opcode
opcode_is word low width value opcode same none wide last =
    let at_0 : bits_of word 0 width ≡ value = subst (λ (l : ℕ). bits_of word l width ≡ value) none same in
    let whole : (width - 7) + 7 ≡ width = omega (arith, wide) in
    let short : word / 2 ^ 0 % 2 ^ ((width - 7) + 7) % 2 ^ 7 ≡ word / 2 ^ 0 % 2 ^ 7 = low_7 (word / 2 ^ 0) (width - 7) in
    sym (rw whole at short) ∙ ap (λ (y : ℕ). y % 2 ^ 7) at_0 ∙ last

ends_in_is : (word : ℕ) (run : Run) (opcode : ℕ) → bits_of word run.low run.width ≡ run.value → IsTrue (ends_in run opcode) → bits_of word 0 7 ≡ opcode
ends_in_is word run opcode same ends =
    let first = and_parts (run.low == 0) (nat_le 7 run.width && (run.value % 2 ^ 7 == opcode)) ends in
    let second = and_parts (nat_le 7 run.width) (run.value % 2 ^ 7 == opcode) first.1 in
    opcode_is word run.low run.width run.value opcode same (eqb-true run.low 0 first.0) (leb-true 7 run.width second.0) (eqb-true (run.value % 2 ^ 7) opcode second.1)

none_ends : (word : ℕ) (run : Run) → bits_of word run.low run.width ≡ run.value → (opcodes : List ℕ) → IsNoneOf opcodes (bits_of word 0 7)
    → IsTrue (list_any (ends_in run) opcodes) → ⊥
none_ends word run same [] none ends = both_ways false refl ends
none_ends word run same (opcode ∷ others) none ends =
    ⊎_elim (λ here. none.0 (ends_in_is word run opcode same here)) (none_ends word run same others none.1)
    (or_cases (ends_in run opcode) (list_any (ends_in run) others) ends)

unfit : (row : Row) (word : ℕ) → IsNoneOf opcodes (bits_of word 0 7) → IsTrue (has_one_of opcodes row) → Fits row word → ⊥
unfit row word none has fit = none_ends word (lowest (runs_of 0 row.bits)) (lowest_is word (runs_of 0 row.bits) fit) opcodes none has

no_row_fits : (rows : List Row) (word : ℕ) → IsNoneOf opcodes (bits_of word 0 7) → IsTrue (list_all (has_one_of opcodes) rows) → NoneFits rows word
no_row_fits [] word none all = tt
no_row_fits (row ∷ rows) word none all =
    let parts = and_parts (has_one_of opcodes row) (list_all (has_one_of opcodes) rows) all in
    (false_from_ne_true (fits row word) (unfit row word none parts.0), no_row_fits rows word none parts.1)

follows_none : (rows : List Row) (word : ℕ) (answer : Result RvInstr DecodeFault) → NoneFits rows word → FollowsRows rows word answer
follows_none [] word answer none = tt
follows_none (row ∷ rows) word answer none = (λ fit. absurd (both_ways (fits row word) none.0 fit), follows_none rows word answer none.1)

-- a word whose opcode no row has is undefined
pub by_no_opcode : (word : ℕ) (answer : Result RvInstr DecodeFault) → IsNoneOf opcodes (bits_of word 0 7) → answer ≡ Err Undefined → answer ≡ meaning table word
by_no_opcode word answer none undefined =
    let unfit_all : NoneFits table word = no_row_fits table word none refl in
    decided table word answer (follows_none table word answer unfit_all, λ _. undefined)
