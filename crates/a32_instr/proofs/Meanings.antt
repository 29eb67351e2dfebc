-- What a word means by rows of which it fits one at most.
use Rattle.std.proofs.Common.{◌≡◌, ℕ, suc, ◌^◌, ◌<◌, Bool, true, false, if◌then◌else◌, IsTrue, List, [], ◌∷◌, All, AllPairs, Result, Ok, Err, arith, refl, ◌∙◌, sym}
use Rattle.std.proofs.lemmas.Bool.{both_ways}
use Rattle.std.proofs.lemmas.List.Elements.{All-cons, All-nil, All-head, All-tail}
use Rattle.a32_instr.specs.declared.instructions.Instr.{Instr}
use Rattle.llsc_base.specs.declared.decoding.DecodeFault.{DecodeFault}
use Rattle.llsc_base.specs.declared.decoding.DecodeFault.TheVariants.{Undefined, Unpredictable}
use Rattle.llsc_base.specs.Bits.{field}
use Rattle.a32_instr.specs.Table.{Row, fits, outcome, meaning, AreApart, FitsNone, MeansItsRow}

-- a choice that a test decides
chosen_first : (b : Bool) (x y : Result Instr DecodeFault) → IsTrue b → (if b then x else y) ≡ x
chosen_first true x y e = refl
chosen_first false x y e = absurd (both_ways false refl e)

chosen_second : (b : Bool) (x y : Result Instr DecodeFault) → (IsTrue b → ⊥) → (if b then x else y) ≡ y
chosen_second true x y never = absurd (never refl)
chosen_second false x y never = refl

-- the first row against the others, and the others among themselves
first_apart : (row : Row) (rows : List Row) → AllPairs AreApart (row ∷ rows) → All (AreApart row) rows
first_apart row rows apart = λ j d less. apart 0 (suc j) d (omega arith) (omega (arith, less))

rest_apart : (row : Row) (rows : List Row) → AllPairs AreApart (row ∷ rows) → AllPairs AreApart rows
rest_apart row rows apart = λ i j d less within. apart (suc i) (suc j) d (omega (arith, less)) (omega (arith, within))

-- a word means what the row that it fits says
pub means_its_row : (rows : List Row) (word : ℕ) → word < 2 ^ 32 → AllPairs AreApart rows → MeansItsRow rows word (meaning rows word)
unfolding meaning
means_its_row [] word small apart = All-nil (λ row. IsTrue (fits row word) → meaning [] word ≡ outcome row word)
means_its_row (row ∷ rows) word small apart =
    All-cons (λ other. IsTrue (fits other word) → meaning (row ∷ rows) word ≡ outcome other word) row rows
    (chosen_first (fits row word) (outcome row word) (meaning rows word))
    (λ j d less h.
    chosen_second (fits row word) (outcome row word) (meaning rows word) (λ g. first_apart row rows apart j d less word small g h)
    ∙ means_its_row rows word small (rest_apart row rows apart) j d less h)

-- a word that fits none is undefined
pub undefined_where_none : (rows : List Row) (word : ℕ) → FitsNone rows word → meaning rows word ≡ Err Undefined
unfolding meaning
undefined_where_none [] word none = refl
undefined_where_none (row ∷ rows) word none =
    chosen_second (fits row word) (outcome row word) (meaning rows word) (All-head (λ row. IsTrue (fits row word) → ⊥) row rows none)
    ∙ undefined_where_none rows word (All-tail (λ row. IsTrue (fits row word) → ⊥) row rows none)

-- what a row says isn't that a word is undefined
never_undefined : (b : Bool) (instr : Instr) → (if b then Err Unpredictable else Ok instr) ≡ Err Undefined → ⊥
never_undefined true instr e = cc
never_undefined false instr e = cc

-- an undefined word fits none
pub none_where_undefined : (rows : List Row) (word : ℕ) → meaning rows word ≡ Err Undefined → FitsNone rows word
unfolding meaning
none_where_undefined [] word e = All-nil (λ row. IsTrue (fits row word) → ⊥)
none_where_undefined (row ∷ rows) word e =
    let first : IsTrue (fits row word) → ⊥ =
    λ h. never_undefined (row.unpredictable (field word row.bits)) (row.instr (field word row.bits))
    (sym (chosen_first (fits row word) (outcome row word) (meaning rows word) h) ∙ e) in
    All-cons (λ row. IsTrue (fits row word) → ⊥) row rows first
    (none_where_undefined rows word (sym (chosen_second (fits row word) (outcome row word) (meaning rows word) first) ∙ e))
