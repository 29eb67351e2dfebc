-- What a word means has its fields in their ranges, row by row.
use Rattle.std.proofs.Common.{◌≡◌, ℕ, zero, suc, ◌^◌, ◌<◌, ◌==◌, ◌&&◌, ◌||◌, not, ℤ, pos, negsuc, ◌-◌, nat_lt, ⊎_elim, Bool, true, false, if◌then◌else◌, IsTrue, List, [], ◌∷◌, Result, Ok, Err, arith, refl, subst}
use Rattle.std.proofs.lemmas.Bool.{and_parts, or_cases, eqb-true, ltb-true, both_ways, not-true}
use Rattle.llsc_base.specs.Bits.{bits_of, field, has_bits, runs_of}
use Rattle.a32_instr.specs.Fields.{alu_op, alu_fits, exclusive_size, no_pair, one_of_2_is_pc, one_of_3_is_pc, status_clashes, block_unpredictable, signed24, is_compare, is_move}
use Rattle.a32_instr.specs.Table.{Row, fits, condition_fits, meaning, table, c, alu_imm, alu_by_num, alu_by_reg, half_imm, half_reg, movw, movt, nop, yields, mul, mla, mls, long, clz, extend, rev, word_imm, word_reg, block, branch, branch_reg, svc, load_ex, store_ex, clrex, barrier}
use Rattle.a32_instr.specs.declared.instructions.AluOp.{AluOp}
use Rattle.a32_instr.specs.declared.instructions.Instr.{Instr}
use Rattle.llsc_base.specs.declared.decoding.DecodeFault.{DecodeFault}
use Rattle.llsc_base.specs.declared.decoding.DecodeFault.TheVariants.{Unpredictable}
use Rattle.a32_instr.proofs.Apart.{further_of}
use Rattle.a32_syntax.specs.Formed.{IsFormed, OperationFits, PairFits, DistanceFits}

-- a word fits a row and isn't unpredictable there
abbrev Fits : Row → ℕ → Type 0
Fits row word = IsTrue (fits row word)

abbrev Predictable : Row → ℕ → Type 0
Predictable row word = row.unpredictable (field word row.bits) ≡ false

-- the instruction that a row reads of a word is formed
abbrev Reads : Row → ℕ → Type 0
Reads row word = Fits row word → Predictable row word → IsFormed (row.instr (field word row.bits))

-- the condition of a word that fits a row which has one
condition_of : (row : Row) (word : ℕ) → Fits row word → IsTrue (condition_fits (runs_of c row.bits) (field word row.bits))
condition_of row word h =
    let front : IsTrue (has_bits word row.bits && condition_fits (runs_of c row.bits) (field word row.bits)) =
    (and_parts (has_bits word row.bits && condition_fits (runs_of c row.bits) (field word row.bits)) (row.further (field word row.bits)) h).0 in
    (and_parts (has_bits word row.bits) (condition_fits (runs_of c row.bits) (field word row.bits)) front).1

below_15 : (word : ℕ) → IsTrue (nat_lt (bits_of word 28 4) 15) → bits_of word 28 4 < 15
below_15 word h = ltb-true (bits_of word 28 4) 15 h

-- What rows ask of their fields.

-- neither of two is true
neither : (x y : Bool) → x || y ≡ false → (x ≡ false) × (y ≡ false)
neither false y e = (refl, e)
neither true y e = cc

operation_fits : (op : AluOp) (sets rd rn : ℕ) → IsTrue (alu_fits op sets rd rn) → OperationFits op (sets == 1) rd rn
unfolding alu_fits
operation_fits op sets rd rn h =
    let parts : IsTrue (not (is_compare op) || ((sets == 1) && (rd == 0))) × IsTrue (not (is_move op) || (rn == 0)) =
    and_parts (not (is_compare op) || ((sets == 1) && (rd == 0))) (not (is_move op) || (rn == 0)) h in (
      (λ compare. ⊎_elim
          (λ other. absurd (both_ways (is_compare op) (not-true (is_compare op) other) compare))
          (λ loud.
          let both : IsTrue (sets == 1) × IsTrue (rd == 0) = and_parts (sets == 1) (rd == 0) loud in
          (both.0, eqb-true rd 0 both.1))
          (or_cases (not (is_compare op)) ((sets == 1) && (rd == 0)) parts.0)),
      (λ move. ⊎_elim
          (λ other. absurd (both_ways (is_move op) (not-true (is_move op) other) move))
          (λ none. eqb-true rn 0 none)
          (or_cases (not (is_move op)) (rn == 0) parts.1)),
    )

-- a list of registers isn't empty
some_listed : (w l rn list : ℕ) → block_unpredictable w l rn list ≡ false → 0 < list
unfolding block_unpredictable
some_listed w l rn list e = grind (arith, e)

-- a register that isn't the PC
second_of_2 : (x y : ℕ) → one_of_2_is_pc x y ≡ false → y ≡ 15 → ⊥
unfolding one_of_2_is_pc
second_of_2 x y e is = grind (arith, e, is)

third_of_3 : (x y z : ℕ) → one_of_3_is_pc x y z ≡ false → z ≡ 15 → ⊥
unfolding one_of_3_is_pc
third_of_3 x y z e is = grind (arith, e, is)

-- a doubleword's register
pair_fits : (size rt : ℕ) → size < 4 → rt < 16 → (rt ≡ 15 → ⊥) → no_pair size rt ≡ false → PairFits (exclusive_size size) rt
unfolding no_pair exclusive_size
pair_fits zero rt known small other e = small
pair_fits (suc zero) rt known small other e = grind (arith, e, other)
pair_fits (suc (suc zero)) rt known small other e = small
pair_fits (suc (suc (suc zero))) rt known small other e = small
pair_fits (suc (suc (suc (suc size)))) rt known small other e = absurd (omega arith)

-- a branch's distance by two tests
distance_by : (low below : Bool) (x y z : ℤ) → (low ≡ true → DistanceFits x) → (low ≡ false → below ≡ true → DistanceFits y)
    → (low ≡ false → below ≡ false → DistanceFits z) → DistanceFits (if low then x else if below then y else z)
distance_by true below x y z first second third = first refl
distance_by false true x y z first second third = second refl refl
distance_by false false x y z first second third = third refl refl

distance_fits : (n : ℕ) → n < 2 ^ 24 → DistanceFits (signed24 n)
unfolding signed24
distance_fits n h =
    distance_by (nat_lt n (2 ^ 23)) (nat_lt n (2 ^ 24)) (pos n) (negsuc (2 ^ 24 - suc n)) (pos (n - 2 ^ 24))
    (λ low. ltb-true n (2 ^ 23) low)
    (λ high below. grind (arith, high))
    (λ high above. grind (arith, above))

-- The rows.

reads_clrex : (w : ℕ) → w < 2 ^ 32 → Reads clrex w
unfolding IsFormed
reads_clrex w h f p = tt

reads_barrier : (w : ℕ) → w < 2 ^ 32 → Reads barrier w
unfolding IsFormed
reads_barrier w h f p = omega arith

reads_alu_imm : (w : ℕ) → w < 2 ^ 32 → Reads alu_imm w
unfolding IsFormed
reads_alu_imm w h f p =
    (below_15 w (condition_of alu_imm w f), (omega arith, omega arith), operation_fits (alu_op (bits_of w 21 4)) (bits_of w 20 1) (bits_of w 12 4) (bits_of w 16 4) (further_of alu_imm w f), (omega arith, omega arith))

reads_alu_by_num : (w : ℕ) → w < 2 ^ 32 → Reads alu_by_num w
unfolding IsFormed
reads_alu_by_num w h f p =
    (below_15 w (condition_of alu_by_num w f), (omega arith, omega arith), operation_fits (alu_op (bits_of w 21 4)) (bits_of w 20 1) (bits_of w 12 4) (bits_of w 16 4) (further_of alu_by_num w f), (omega arith, omega arith))

reads_alu_by_reg : (w : ℕ) → w < 2 ^ 32 → Reads alu_by_reg w
unfolding IsFormed
reads_alu_by_reg w h f p =
    (below_15 w (condition_of alu_by_reg w f), (omega arith, omega arith), operation_fits (alu_op (bits_of w 21 4)) (bits_of w 20 1) (bits_of w 12 4) (bits_of w 16 4) (further_of alu_by_reg w f), (omega arith, omega arith))

reads_half_imm : (w : ℕ) → w < 2 ^ 32 → Reads half_imm w
unfolding IsFormed
reads_half_imm w h f p = (below_15 w (condition_of half_imm w f), (omega arith, omega arith), omega arith)

reads_half_reg : (w : ℕ) → w < 2 ^ 32 → Reads half_reg w
unfolding IsFormed
reads_half_reg w h f p = (below_15 w (condition_of half_reg w f), (omega arith, omega arith), (omega arith, refl, refl))

reads_movw : (w : ℕ) → w < 2 ^ 32 → Reads movw w
unfolding IsFormed
reads_movw w h f p = (below_15 w (condition_of movw w f), omega arith, omega arith)

reads_movt : (w : ℕ) → w < 2 ^ 32 → Reads movt w
unfolding IsFormed
reads_movt w h f p = (below_15 w (condition_of movt w f), omega arith, omega arith)

reads_nop : (w : ℕ) → w < 2 ^ 32 → Reads nop w
unfolding IsFormed
reads_nop w h f p = below_15 w (condition_of nop w f)

reads_yields : (w : ℕ) → w < 2 ^ 32 → Reads yields w
unfolding IsFormed
reads_yields w h f p = below_15 w (condition_of yields w f)

reads_mul : (w : ℕ) → w < 2 ^ 32 → Reads mul w
unfolding IsFormed
reads_mul w h f p = (below_15 w (condition_of mul w f), (omega arith, omega arith, omega arith))

reads_mla : (w : ℕ) → w < 2 ^ 32 → Reads mla w
unfolding IsFormed
reads_mla w h f p = (below_15 w (condition_of mla w f), (omega arith, omega arith, omega arith, omega arith))

reads_mls : (w : ℕ) → w < 2 ^ 32 → Reads mls w
unfolding IsFormed
reads_mls w h f p = (below_15 w (condition_of mls w f), (omega arith, omega arith, omega arith, omega arith))

reads_long : (w : ℕ) → w < 2 ^ 32 → Reads long w
unfolding IsFormed
reads_long w h f p = (below_15 w (condition_of long w f), (omega arith, omega arith, omega arith, omega arith))

reads_clz : (w : ℕ) → w < 2 ^ 32 → Reads clz w
unfolding IsFormed
reads_clz w h f p = (below_15 w (condition_of clz w f), (omega arith, omega arith))

reads_extend : (w : ℕ) → w < 2 ^ 32 → Reads extend w
unfolding IsFormed
reads_extend w h f p = (below_15 w (condition_of extend w f), (omega arith, omega arith), omega arith)

reads_rev : (w : ℕ) → w < 2 ^ 32 → Reads rev w
unfolding IsFormed
reads_rev w h f p = (below_15 w (condition_of rev w f), (omega arith, omega arith))

reads_word_imm : (w : ℕ) → w < 2 ^ 32 → Reads word_imm w
unfolding IsFormed
reads_word_imm w h f p = (below_15 w (condition_of word_imm w f), (omega arith, omega arith), omega arith)

reads_word_reg : (w : ℕ) → w < 2 ^ 32 → Reads word_reg w
unfolding IsFormed
reads_word_reg w h f p = (below_15 w (condition_of word_reg w f), (omega arith, omega arith), (omega arith, omega arith))

reads_block : (w : ℕ) → w < 2 ^ 32 → Reads block w
unfolding IsFormed
reads_block w h f p = (below_15 w (condition_of block w f), omega arith, some_listed (bits_of w 21 1) (bits_of w 20 1) (bits_of w 16 4) (bits_of w 0 16) p, omega arith)

reads_branch : (w : ℕ) → w < 2 ^ 32 → Reads branch w
unfolding IsFormed
reads_branch w h f p = (below_15 w (condition_of branch w f), distance_fits (bits_of w 0 24) (omega arith))

reads_branch_reg : (w : ℕ) → w < 2 ^ 32 → Reads branch_reg w
unfolding IsFormed
reads_branch_reg w h f p = (below_15 w (condition_of branch_reg w f), omega arith)

reads_svc : (w : ℕ) → w < 2 ^ 32 → Reads svc w
unfolding IsFormed
reads_svc w h f p = (below_15 w (condition_of svc w f), omega arith)

reads_load_ex : (w : ℕ) → w < 2 ^ 32 → Reads load_ex w
unfolding IsFormed
reads_load_ex w h f p =
    let kept : (one_of_2_is_pc (bits_of w 16 4) (bits_of w 12 4) ≡ false) × (no_pair (bits_of w 21 2) (bits_of w 12 4) ≡ false) =
    neither (one_of_2_is_pc (bits_of w 16 4) (bits_of w 12 4)) (no_pair (bits_of w 21 2) (bits_of w 12 4)) p in
    (below_15 w (condition_of load_ex w f), omega arith, pair_fits (bits_of w 21 2) (bits_of w 12 4) (omega arith) (omega arith) (second_of_2 (bits_of w 16 4) (bits_of w 12 4) kept.0) kept.1)

reads_store_ex : (w : ℕ) → w < 2 ^ 32 → Reads store_ex w
unfolding IsFormed
reads_store_ex w h f p =
    let first : (one_of_3_is_pc (bits_of w 16 4) (bits_of w 12 4) (bits_of w 0 4) || status_clashes (bits_of w 21 2) (bits_of w 16 4) (bits_of w 12 4) (bits_of w 0 4) ≡ false) × (no_pair (bits_of w 21 2) (bits_of w 0 4) ≡ false) =
    neither (one_of_3_is_pc (bits_of w 16 4) (bits_of w 12 4) (bits_of w 0 4) || status_clashes (bits_of w 21 2) (bits_of w 16 4) (bits_of w 12 4) (bits_of w 0 4)) (no_pair (bits_of w 21 2) (bits_of w 0 4)) p in
    let second : (one_of_3_is_pc (bits_of w 16 4) (bits_of w 12 4) (bits_of w 0 4) ≡ false) × (status_clashes (bits_of w 21 2) (bits_of w 16 4) (bits_of w 12 4) (bits_of w 0 4) ≡ false) = neither (one_of_3_is_pc (bits_of w 16 4) (bits_of w 12 4) (bits_of w 0 4)) (status_clashes (bits_of w 21 2) (bits_of w 16 4) (bits_of w 12 4) (bits_of w 0 4)) first.0 in (
      below_15 w (condition_of store_ex w f),
      (omega arith, omega arith),
      pair_fits (bits_of w 21 2) (bits_of w 0 4) (omega arith) (omega arith)
          (third_of_3 (bits_of w 16 4) (bits_of w 12 4) (bits_of w 0 4) second.0) first.1,
    )

-- The table.

-- the same of each row of a list
abbrev AllRead : List Row → ℕ → Type 0
AllRead [] word = Unit {0}
AllRead (row ∷ rows) word = Reads row word × AllRead rows word

-- one row's answer or the others'
step : (test unpredictable : Bool) (read i : Instr) (others : Result Instr DecodeFault)
    → (IsTrue test → unpredictable ≡ false → IsFormed read) → (others ≡ Ok i → IsFormed i)
    → (if test then (if unpredictable then Err Unpredictable else Ok read) else others) ≡ Ok i → IsFormed i
step true true read i others here there e = cc
step true false read i others here there e =
    let same : read ≡ i = cc in
    subst (λ (x : Instr). IsFormed x) same (here refl refl)
step false unpredictable read i others here there e = there e

-- a word that means an instruction by rows means a formed one
by_rows : (rows : List Row) (w : ℕ) (i : Instr) → AllRead rows w → meaning rows w ≡ Ok i → IsFormed i
unfolding meaning
by_rows [] w i reads e = cc
by_rows (row ∷ rows) w i reads e =
    step (fits row w) (row.unpredictable (field w row.bits)) (row.instr (field w row.bits)) i (meaning rows w) reads.0 (by_rows rows w i reads.1) e

all_rows : (w : ℕ) → w < 2 ^ 32 → AllRead table w
all_rows w h =
    (reads_clrex w h, (reads_barrier w h, (reads_alu_imm w h, (reads_alu_by_num w h, (reads_alu_by_reg w h, (reads_half_imm w h, (reads_half_reg w h, (reads_movw w h, (reads_movt w h, (reads_nop w h, (reads_yields w h, (reads_mul w h, (reads_mla w h, (reads_mls w h, (reads_long w h, (reads_clz w h, (reads_extend w h, (reads_rev w h, (reads_word_imm w h, (reads_word_reg w h, (reads_block w h, (reads_branch w h, (reads_branch_reg w h, (reads_svc w h, (reads_load_ex w h, (reads_store_ex w h, tt))))))))))))))))))))))))))

-- a word that means an instruction means a formed one
pub meant_is_formed : (w : ℕ) (i : Instr) → w < 2 ^ 32 → meaning table w ≡ Ok i → IsFormed i
meant_is_formed w i h e = by_rows table w i (all_rows w h) e
