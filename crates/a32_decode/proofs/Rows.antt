-- From what holds of an answer at each row of a table to what the table says.
use Rattle.std.proofs.Common.{◌≡◌, ℕ, Bool, true, false, if◌then◌else◌, IsTrue, List, [], ◌∷◌, Result, Err, refl}
use Rattle.a32_instr.specs.Table.{Row, fits, outcome, meaning}
use Rattle.a32_instr.specs.declared.instructions.Instr.{Instr}
use Rattle.llsc_base.specs.declared.decoding.DecodeFault.{DecodeFault}
use Rattle.llsc_base.specs.declared.decoding.DecodeFault.TheVariants.{Undefined}
use Rattle.a32_decode.specs.inner.Rows.{NoneFits, FollowsRows, Decides}

-- a choice between two answers, by the test that decides it
pub chosen : (test : Bool) (answer here there : Result Instr DecodeFault)
    → (IsTrue test → answer ≡ here) → (test ≡ false → answer ≡ there) → answer ≡ (if test then here else there)
chosen true answer here there fits fails = fits refl
chosen false answer here there fits fails = fails refl

-- an answer that follows the rows, and is undefined where the word fits none, is the table's
pub meaning_by : (rows : List Row) (word : ℕ) (answer : Result Instr DecodeFault)
    → FollowsRows rows word answer → (NoneFits rows word → answer ≡ Err Undefined) → answer ≡ meaning rows word
unfolding meaning
meaning_by [] word answer follows none = none tt
meaning_by (row ∷ rows) word answer follows none =
    chosen (fits row word) answer (outcome row word) (meaning rows word) follows.0
    (λ fails. meaning_by rows word answer follows.1 (λ others. none (fails, others)))

-- an answer that is decided by rows is what they say
pub decided : (rows : List Row) (word : ℕ) (answer : Result Instr DecodeFault) → Decides rows word answer → answer ≡ meaning rows word
decided rows word answer decides = meaning_by rows word answer decides.0 decides.1
