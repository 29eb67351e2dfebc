-- The rows of the table that a word can fit, by bits that are known of it.
use Rattle.std.proofs.Common.{◌≡◌, ℕ, ◌^◌, ◌<◌, Bool, true, false, if◌then◌else◌, IsTrue, List, [], ◌∷◌, drop, Result, refl, sym, ◌∙◌, arith}
use Rattle.std.specs.List.{list_all}
use Rattle.std.proofs.lemmas.Bool.{and_parts, both_ways, eq-eqb}
use Rattle.std.proofs.lemmas.List.Elements.{All-head}
use Rattle.llsc_base.specs.Bits.{bits_of}
use Rattle.a32_instr.specs.Fields.{always, never}
use Rattle.a32_instr.specs.Table.{Row, AreApart, fits, outcome, meaning, table, clrex, barrier}
use Rattle.a32_instr.specs.declared.instructions.Instr.{Instr}
use Rattle.a32_instr.specs.declared.instructions.Instr.TheVariants.{Clrex}
use Rattle.llsc_base.specs.declared.decoding.DecodeFault.{DecodeFault}
use Rattle.a32_instr.proofs.Apart.{rows_clash, clash_is_apart, is_conditional, unconditional_apart, fixed_unconditional}
use Rattle.a32_decode.specs.inner.Rows.{Fits, NoneFits, FollowsRows, Decides}
use Rattle.a32_decode.proofs.Rows.{chosen}

-- the words that have a value in some of their bits, as a row that asks for nothing else
abbrev pub having : ℕ → ℕ → ℕ → Row
having low width value = record {
  bits = record { letter = 0; low = low; width = width; value = value } ∷ [];
  further = always;
  unpredictable = never;
  instr = λ f. Clrex;
}

fits_having : (word low width value : ℕ) → bits_of word low width ≡ value → Fits (having low width value) word
fits_having word low width value same = rw (eq-eqb (bits_of word low width) value same) refl

-- a word fits no row that has another value in those bits
pub no_row : (word low width value : ℕ) (row : Row) → word < 2 ^ 32 → bits_of word low width ≡ value
    → IsTrue (rows_clash (having low width value) row) → Fits row word → ⊥
no_row word low width value row small same clash fit =
    clash_is_apart (having low width value) row clash word small (fits_having word low width value same) fit

-- the rows that have no other value in those bits
abbrev pub kept : Row → List Row → List Row
kept words [] = []
kept words (row ∷ rows) = if rows_clash words row then kept words rows else (row ∷ kept words rows)

passed : (test : Bool) (row : Row) (rows others : List Row) (word : ℕ) → (IsTrue test → Fits row word → ⊥)
    → meaning rows word ≡ meaning others word → meaning (row ∷ rows) word ≡ meaning (if test then others else (row ∷ others)) word
unfolding meaning
passed true row rows others word unfit same =
    sym (chosen (fits row word) (meaning others word) (outcome row word) (meaning rows word) (λ fit. absurd (unfit refl fit)) (λ fails. sym same))
passed false row rows others word unfit same = rw same refl

-- what rows say of a word, those that it can fit say
pub means_by_kept : (rows : List Row) (word low width value : ℕ) → word < 2 ^ 32 → bits_of word low width ≡ value
    → meaning rows word ≡ meaning (kept (having low width value) rows) word
means_by_kept [] word low width value small same = refl
means_by_kept (row ∷ rows) word low width value small same =
    passed (rows_clash (having low width value) row) row rows (kept (having low width value) rows) word
    (no_row word low width value row small same) (means_by_kept rows word low width value small same)

follows_passed : (test : Bool) (row : Row) (rows others : List Row) (word : ℕ) (answer : Result Instr DecodeFault) → (IsTrue test → Fits row word → ⊥)
    → (FollowsRows others word answer → FollowsRows rows word answer)
    → FollowsRows (if test then others else (row ∷ others)) word answer → FollowsRows (row ∷ rows) word answer
follows_passed true row rows others word answer unfit more follows = (λ fit. absurd (unfit refl fit), more follows)
follows_passed false row rows others word answer unfit more follows = (follows.0, more follows.1)

-- an answer that follows the rows that a word can fit follows them all
pub follows_by_kept : (rows : List Row) (word low width value : ℕ) (answer : Result Instr DecodeFault) → word < 2 ^ 32 → bits_of word low width ≡ value
    → FollowsRows (kept (having low width value) rows) word answer → FollowsRows rows word answer
follows_by_kept [] word low width value answer small same = λ follows. tt
follows_by_kept (row ∷ rows) word low width value answer small same =
    follows_passed (rows_clash (having low width value) row) row rows (kept (having low width value) rows) word answer
    (no_row word low width value row small same) (follows_by_kept rows word low width value answer small same)

none_passed : (test : Bool) (row : Row) (rows others : List Row) (word : ℕ) → (NoneFits rows word → NoneFits others word)
    → NoneFits (row ∷ rows) word → NoneFits (if test then others else (row ∷ others)) word
none_passed true row rows others word more none = more none.1
none_passed false row rows others word more none = (none.0, more none.1)

-- a word that fits none of the rows fits none of those kept
pub none_of_kept : (rows : List Row) (words : Row) (word : ℕ) → NoneFits rows word → NoneFits (kept words rows) word
none_of_kept [] words word = λ none. none
none_of_kept (row ∷ rows) words word = none_passed (rows_clash words row) row rows (kept words rows) word (none_of_kept rows words word)

-- what decides the rows that a word can fit decides them all
pub decides_by_kept : (rows : List Row) (word low width value : ℕ) (answer : Result Instr DecodeFault) → word < 2 ^ 32 → bits_of word low width ≡ value
    → Decides (kept (having low width value) rows) word answer → Decides rows word answer
decides_by_kept rows word low width value answer small same decides =
    (follows_by_kept rows word low width value answer small same decides.0, λ unfit. decides.1 (none_of_kept rows (having low width value) word unfit))

-- the rows with a condition
abbrev pub conditional : List Row
conditional = drop 2 table

-- of a word with a condition the table says what the rows with one say
pub means_by_conditional : (word : ℕ) → bits_of word 28 4 < 15 → meaning table word ≡ meaning conditional word
means_by_conditional word less =
    passed true clrex (barrier ∷ conditional) conditional word
    (λ clash fit.
    let space : bits_of word 28 4 ≡ 15 = fixed_unconditional clrex refl word fit in
    omega arith)
    (passed true barrier conditional conditional word
    (λ clash fit.
    let space : bits_of word 28 4 ≡ 15 = fixed_unconditional barrier refl word fit in
    omega arith)
    refl)

no_conditional : (word : ℕ) (row : Row) → word < 2 ^ 32 → bits_of word 28 4 ≡ 15 → IsTrue (is_conditional row) → Fits row word → ⊥
no_conditional word row small space e fit =
    All-head (AreApart (having 28 4 15)) row [] (unconditional_apart (having 28 4 15) (fixed_unconditional (having 28 4 15) refl) (row ∷ []) (rw e refl))
    word small (fits_having word 28 4 15 space) fit

none_of_conditional : (rows : List Row) (word : ℕ) → word < 2 ^ 32 → bits_of word 28 4 ≡ 15 → IsTrue (list_all is_conditional rows)
    → meaning rows word ≡ meaning [] word
none_of_conditional [] word small space e = refl
none_of_conditional (row ∷ rows) word small space e =
    let parts : IsTrue (is_conditional row) × IsTrue (list_all is_conditional rows) = and_parts (is_conditional row) (list_all is_conditional rows) e in
    passed true row rows [] word (λ all. no_conditional word row small space parts.0) (none_of_conditional rows word small space parts.1)

-- of a word with 1111 in the place of a condition the table says what the rows without one say
pub means_by_unconditional : (word : ℕ) → word < 2 ^ 32 → bits_of word 28 4 ≡ 15 → meaning table word ≡ meaning (clrex ∷ barrier ∷ []) word
means_by_unconditional word small space =
    passed false clrex (barrier ∷ conditional) (barrier ∷ []) word (λ clash. absurd (both_ways false refl clash))
    (passed false barrier conditional [] word (λ clash. absurd (both_ways false refl clash)) (none_of_conditional conditional word small space refl))

-- an answer that is what the rows of a group of encodings say, by bits 27:25, is the table's
pub means_in_group : (word group : ℕ) (answer : Result Instr DecodeFault) → word < 2 ^ 32 → bits_of word 28 4 < 15 → bits_of word 25 3 ≡ group
    → answer ≡ meaning (kept (having 25 3 group) conditional) word → answer ≡ meaning table word
means_in_group word group answer small less same e =
    e ∙ sym (means_by_kept conditional word 25 3 group small same) ∙ sym (means_by_conditional word less)
