-- From what holds of an answer at each row of a list to what the rows say, and the rows that a word can fit, by bits that are known of it.
use Rattle.std.proofs.Common.{◌≡◌, ℕ, Bool, true, false, if◌then◌else◌, IsTrue, List, [], ◌∷◌, Result, Err, refl}
use Rattle.std.proofs.lemmas.Bool.{eq-eqb}
use Rattle.llsc_base.specs.Bits.{Run, bits_of, has_all, runs_of}
use Rattle.llsc_base.specs.declared.decoding.DecodeFault.{DecodeFault}
use Rattle.llsc_base.specs.declared.decoding.DecodeFault.TheVariants.{Undefined}
use Rattle.llsc_base.proofs.Clashes.{clash, clash_apart}
use Rattle.rv32_guest.specs.declared.instructions.RvInstr.{RvInstr}
use Rattle.rv32_guest.specs.Table.{Row, fits, outcome, meaning}
use Rattle.rv32_guest.specs.inner.Rows.{Fits, NoneFits, FollowsRows, Decides}

-- a choice between two answers, by the test that decides it
pub chosen : (test : Bool) (answer here there : Result RvInstr DecodeFault)
    → (IsTrue test → answer ≡ here) → (test ≡ false → answer ≡ there) → answer ≡ (if test then here else there)
chosen true answer here there fits fails = fits refl
chosen false answer here there fits fails = fails refl

meaning_by : (rows : List Row) (word : ℕ) (answer : Result RvInstr DecodeFault)
    → FollowsRows rows word answer → (NoneFits rows word → answer ≡ Err Undefined) → answer ≡ meaning rows word
unfolding meaning
meaning_by [] word answer follows none = none tt
meaning_by (row ∷ rows) word answer follows none =
    chosen (fits row word) answer (outcome row word) (meaning rows word) follows.0
    (λ fails. meaning_by rows word answer follows.1 (λ others. none (fails, others)))

-- an answer that the rows decide is what they say
pub decided : (rows : List Row) (word : ℕ) (answer : Result RvInstr DecodeFault) → Decides rows word answer → answer ≡ meaning rows word
decided rows word answer decides = meaning_by rows word answer decides.0 decides.1

-- the words that have a value in some of their bits
abbrev pub having : ℕ → ℕ → ℕ → List Run
having low width value = record { letter = 0; low = low; width = width; value = value } ∷ []

-- the rows that have no other value in those bits
abbrev pub kept : List Run → List Row → List Row
kept known [] = []
kept known (row ∷ rows) = if clash known (runs_of 0 row.bits) then kept known rows else (row ∷ kept known rows)

has_known : (word low width value : ℕ) → bits_of word low width ≡ value → IsTrue (has_all word (having low width value))
has_known word low width value same = rw (eq-eqb (bits_of word low width) value same) refl

no_row : (word low width value : ℕ) (row : Row) → bits_of word low width ≡ value
    → IsTrue (clash (having low width value) (runs_of 0 row.bits)) → Fits row word → ⊥
no_row word low width value row same differs fit =
    clash_apart word (having low width value) (runs_of 0 row.bits) (has_known word low width value same) fit differs

follows_passed : (test : Bool) (row : Row) (rows others : List Row) (word : ℕ) (answer : Result RvInstr DecodeFault) → (IsTrue test → Fits row word → ⊥)
    → (FollowsRows others word answer → FollowsRows rows word answer)
    → FollowsRows (if test then others else (row ∷ others)) word answer → FollowsRows (row ∷ rows) word answer
follows_passed true row rows others word answer unfit more follows = (λ fit. absurd (unfit refl fit), more follows)
follows_passed false row rows others word answer unfit more follows = (follows.0, more follows.1)

follows_by_kept : (rows : List Row) (word low width value : ℕ) (answer : Result RvInstr DecodeFault) → bits_of word low width ≡ value
    → FollowsRows (kept (having low width value) rows) word answer → FollowsRows rows word answer
follows_by_kept [] word low width value answer same = λ follows. tt
follows_by_kept (row ∷ rows) word low width value answer same =
    follows_passed (clash (having low width value) (runs_of 0 row.bits)) row rows (kept (having low width value) rows) word answer
    (no_row word low width value row same) (follows_by_kept rows word low width value answer same)

none_passed : (test : Bool) (row : Row) (rows others : List Row) (word : ℕ) → (NoneFits rows word → NoneFits others word)
    → NoneFits (row ∷ rows) word → NoneFits (if test then others else (row ∷ others)) word
none_passed true row rows others word more none = more none.1
none_passed false row rows others word more none = (none.0, more none.1)

none_of_kept : (rows : List Row) (known : List Run) (word : ℕ) → NoneFits rows word → NoneFits (kept known rows) word
none_of_kept [] known word = λ none. none
none_of_kept (row ∷ rows) known word = none_passed (clash known (runs_of 0 row.bits)) row rows (kept known rows) word (none_of_kept rows known word)

-- what the rows decide that a word can fit, they all decide
pub decides_by_kept : (rows : List Row) (word low width value : ℕ) (answer : Result RvInstr DecodeFault) → bits_of word low width ≡ value
    → Decides (kept (having low width value) rows) word answer → Decides rows word answer
decides_by_kept rows word low width value answer same decides =
    (follows_by_kept rows word low width value answer same decides.0, λ none. decides.1 (none_of_kept rows (having low width value) word none))
