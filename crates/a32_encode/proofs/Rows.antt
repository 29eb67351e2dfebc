-- An instruction's fields give back its word, row by row.
use Rattle.std.proofs.Common.{◌≡◌, ℕ, zero, suc, ◌+◌, ◌*◌, ◌^◌, ◌<◌, ◌==◌, ◌&&◌, Bool, true, false, if◌then◌else◌, IsTrue, List, [], ◌∷◌, Result, Ok, Err, arith, refl, ◌∙◌, sym, ap}
use Rattle.std.proofs.lemmas.Bool.{and_parts}
use Rattle.llsc_base.specs.Bits.{bits_of, field, has_bits, runs_of}
use Rattle.a32_instr.specs.Fields.{alu_op, shift_kind, long_kind, exclusive_size, barrier_kind, index_of, index_fits, half_kind, half_fits, signed24}
use Rattle.a32_instr.specs.Table.{Row, fits, condition_fits, meaning, table, c, alu_imm, alu_by_num, alu_by_reg, half_imm, half_reg, movw, movt, nop, yields, mul, mla, mls, long, clz, extend, rev, word_imm, word_reg, block, branch, branch_reg, svc, load_ex, store_ex, clrex, barrier}
use Rattle.a32_instr.specs.declared.instructions.Instr.{Instr}
use Rattle.llsc_base.specs.declared.decoding.DecodeFault.{DecodeFault}
use Rattle.llsc_base.specs.declared.decoding.DecodeFault.TheVariants.{Unpredictable}
use Rattle.a32_instr.proofs.Apart.{further_of}
use Rattle.a32_instr.specs.DataProcessing.{one_if}
use Rattle.a32_encode.specs.Word.{word_of, opcode, shift_bits, long_bits, size_bits, barrier_bits, index_bits, half_bits, branch_bits}

abbrev pub Fits : Row → ℕ → Type 0
Fits row word = IsTrue (fits row word)

-- the instruction that a row reads of a word has that word
abbrev pub Back : Row → ℕ → Type 0
Back row word = Fits row word → word_of (row.instr (field word row.bits)) ≡ word

-- the fixed bits of a word that fits a row
fixed_bits : (row : Row) (word : ℕ) → Fits row word → IsTrue (has_bits word row.bits)
fixed_bits row word h =
    let front : IsTrue (has_bits word row.bits && condition_fits (runs_of c row.bits) (field word row.bits)) =
    (and_parts (has_bits word row.bits && condition_fits (runs_of c row.bits) (field word row.bits)) (row.further (field word row.bits)) h).0 in
    (and_parts (has_bits word row.bits) (condition_fits (runs_of c row.bits) (field word row.bits)) front).0

-- The numbers of the fields' kinds.

one_if-is : (k : ℕ) → k < 2 → one_if (k == 1) ≡ k
one_if-is zero h = refl
one_if-is (suc zero) h = refl
one_if-is (suc (suc k)) h = absurd (omega (arith, h))

opcode-is : (k : ℕ) → k < 16 → opcode (alu_op k) ≡ k
unfolding alu_op
opcode-is zero h = refl
opcode-is (suc zero) h = refl
opcode-is (suc (suc zero)) h = refl
opcode-is (suc (suc (suc zero))) h = refl
opcode-is (suc (suc (suc (suc zero)))) h = refl
opcode-is (suc (suc (suc (suc (suc zero))))) h = refl
opcode-is (suc (suc (suc (suc (suc (suc zero)))))) h = refl
opcode-is (suc (suc (suc (suc (suc (suc (suc zero))))))) h = refl
opcode-is (suc (suc (suc (suc (suc (suc (suc (suc zero)))))))) h = refl
opcode-is (suc (suc (suc (suc (suc (suc (suc (suc (suc zero))))))))) h = refl
opcode-is (suc (suc (suc (suc (suc (suc (suc (suc (suc (suc zero)))))))))) h = refl
opcode-is (suc (suc (suc (suc (suc (suc (suc (suc (suc (suc (suc zero))))))))))) h = refl
opcode-is (suc (suc (suc (suc (suc (suc (suc (suc (suc (suc (suc (suc zero)))))))))))) h = refl
opcode-is (suc (suc (suc (suc (suc (suc (suc (suc (suc (suc (suc (suc (suc zero))))))))))))) h = refl
opcode-is (suc (suc (suc (suc (suc (suc (suc (suc (suc (suc (suc (suc (suc (suc zero)))))))))))))) h = refl
opcode-is (suc (suc (suc (suc (suc (suc (suc (suc (suc (suc (suc (suc (suc (suc (suc zero))))))))))))))) h = refl
opcode-is (suc (suc (suc (suc (suc (suc (suc (suc (suc (suc (suc (suc (suc (suc (suc (suc k)))))))))))))))) h = absurd (omega (arith, h))

shift-is : (k : ℕ) → k < 4 → shift_bits (shift_kind k) ≡ k
unfolding shift_kind
shift-is zero h = refl
shift-is (suc zero) h = refl
shift-is (suc (suc zero)) h = refl
shift-is (suc (suc (suc zero))) h = refl
shift-is (suc (suc (suc (suc k)))) h = absurd (omega (arith, h))

long-is : (k : ℕ) → k < 4 → long_bits (long_kind k) ≡ k
unfolding long_kind
long-is zero h = refl
long-is (suc zero) h = refl
long-is (suc (suc zero)) h = refl
long-is (suc (suc (suc zero))) h = refl
long-is (suc (suc (suc (suc k)))) h = absurd (omega (arith, h))

size-is : (k : ℕ) → k < 4 → size_bits (exclusive_size k) ≡ k
unfolding exclusive_size
size-is zero h = refl
size-is (suc zero) h = refl
size-is (suc (suc zero)) h = refl
size-is (suc (suc (suc zero))) h = refl
size-is (suc (suc (suc (suc k)))) h = absurd (omega (arith, h))

barrier-is : (k : ℕ) → k < 3 → barrier_bits (barrier_kind k) ≡ k
unfolding barrier_kind
barrier-is zero h = refl
barrier-is (suc zero) h = refl
barrier-is (suc (suc zero)) h = refl
barrier-is (suc (suc (suc k))) h = absurd (omega (arith, h))

-- bits 24 and 21 of a load or a store
index-is : (p w : ℕ) → p < 2 → w < 2 → IsTrue (index_fits p w) → index_bits (index_of p w) ≡ p * 2 ^ 24 + w * 2 ^ 21
unfolding index_fits index_of
index-is zero zero hp hw f = refl
index-is zero (suc zero) hp hw f = cc
index-is (suc zero) zero hp hw f = refl
index-is (suc zero) (suc zero) hp hw f = refl
index-is zero (suc (suc w)) hp hw f = absurd (omega (arith, hw))
index-is (suc zero) (suc (suc w)) hp hw f = absurd (omega (arith, hw))
index-is (suc (suc p)) w hp hw f = absurd (omega (arith, hp))

-- bits 20, 6 and 5 of a halfword or a signed byte
half-is : (l x y : ℕ) → l < 2 → x < 2 → y < 2 → IsTrue (half_fits l x y) → half_bits (half_kind l x y) ≡ l * 2 ^ 20 + 0x90 + x * 2 ^ 6 + y * 2 ^ 5
unfolding half_fits half_kind
half-is zero zero zero hl hx hy f = cc
half-is zero zero (suc zero) hl hx hy f = refl
half-is zero (suc zero) zero hl hx hy f = cc
half-is zero (suc zero) (suc zero) hl hx hy f = cc
half-is (suc zero) zero zero hl hx hy f = cc
half-is (suc zero) zero (suc zero) hl hx hy f = refl
half-is (suc zero) (suc zero) zero hl hx hy f = refl
half-is (suc zero) (suc zero) (suc zero) hl hx hy f = refl
half-is zero zero (suc (suc y)) hl hx hy f = absurd (omega (arith, hy))
half-is zero (suc zero) (suc (suc y)) hl hx hy f = absurd (omega (arith, hy))
half-is (suc zero) zero (suc (suc y)) hl hx hy f = absurd (omega (arith, hy))
half-is (suc zero) (suc zero) (suc (suc y)) hl hx hy f = absurd (omega (arith, hy))
half-is zero (suc (suc x)) y hl hx hy f = absurd (omega (arith, hx))
half-is (suc zero) (suc (suc x)) y hl hx hy f = absurd (omega (arith, hx))
half-is (suc (suc l)) x y hl hx hy f = absurd (omega (arith, hl))

-- a branch's distance
distance-is : (n : ℕ) → n < 2 ^ 24 → branch_bits (signed24 n) ≡ n
unfolding signed24
distance-is n h = grind (arith, h)

-- The rows.

back_clrex : (w : ℕ) → w < 2 ^ 32 → Back clrex w
back_clrex w h f = grind (arith, h, fixed_bits clrex w f, one_if-is)

back_movw : (w : ℕ) → w < 2 ^ 32 → Back movw w
back_movw w h f = grind (arith, h, fixed_bits movw w f, one_if-is)

back_movt : (w : ℕ) → w < 2 ^ 32 → Back movt w
back_movt w h f = grind (arith, h, fixed_bits movt w f, one_if-is)

back_nop : (w : ℕ) → w < 2 ^ 32 → Back nop w
back_nop w h f = grind (arith, h, fixed_bits nop w f, one_if-is)

back_yields : (w : ℕ) → w < 2 ^ 32 → Back yields w
back_yields w h f = grind (arith, h, fixed_bits yields w f, one_if-is)

back_mul : (w : ℕ) → w < 2 ^ 32 → Back mul w
back_mul w h f = grind (arith, h, fixed_bits mul w f, one_if-is)

back_mla : (w : ℕ) → w < 2 ^ 32 → Back mla w
back_mla w h f = grind (arith, h, fixed_bits mla w f, one_if-is)

back_mls : (w : ℕ) → w < 2 ^ 32 → Back mls w
back_mls w h f = grind (arith, h, fixed_bits mls w f, one_if-is)

back_clz : (w : ℕ) → w < 2 ^ 32 → Back clz w
back_clz w h f = grind (arith, h, fixed_bits clz w f, one_if-is)

back_extend : (w : ℕ) → w < 2 ^ 32 → Back extend w
back_extend w h f = grind (arith, h, fixed_bits extend w f, one_if-is)

back_rev : (w : ℕ) → w < 2 ^ 32 → Back rev w
back_rev w h f = grind (arith, h, fixed_bits rev w f, one_if-is)

back_block : (w : ℕ) → w < 2 ^ 32 → Back block w
back_block w h f = grind (arith, h, fixed_bits block w f, one_if-is)

back_branch_reg : (w : ℕ) → w < 2 ^ 32 → Back branch_reg w
back_branch_reg w h f = grind (arith, h, fixed_bits branch_reg w f, one_if-is)

back_svc : (w : ℕ) → w < 2 ^ 32 → Back svc w
back_svc w h f = grind (arith, h, fixed_bits svc w f, one_if-is)

back_branch : (w : ℕ) → w < 2 ^ 32 → Back branch w
back_branch w h f = rw (distance-is (bits_of w 0 24) (omega arith)) (grind (arith, h, fixed_bits branch w f, one_if-is))

back_barrier : (w : ℕ) → w < 2 ^ 32 → Back barrier w
back_barrier w h f =
    let below : bits_of w 4 2 < 3 = grind (arith, further_of barrier w f) in
    rw (barrier-is (bits_of w 4 2) below) (grind (arith, h, fixed_bits barrier w f))

back_long : (w : ℕ) → w < 2 ^ 32 → Back long w
back_long w h f = rw (long-is (bits_of w 21 2) (omega arith), one_if-is (bits_of w 20 1) (omega arith)) (grind (arith, h, fixed_bits long w f))

back_load_ex : (w : ℕ) → w < 2 ^ 32 → Back load_ex w
back_load_ex w h f = rw (size-is (bits_of w 21 2) (omega arith)) (grind (arith, h, fixed_bits load_ex w f))

back_store_ex : (w : ℕ) → w < 2 ^ 32 → Back store_ex w
back_store_ex w h f = rw (size-is (bits_of w 21 2) (omega arith)) (grind (arith, h, fixed_bits store_ex w f))

back_alu_imm : (w : ℕ) → w < 2 ^ 32 → Back alu_imm w
back_alu_imm w h f = rw (opcode-is (bits_of w 21 4) (omega arith), one_if-is (bits_of w 20 1) (omega arith)) (grind (arith, h, fixed_bits alu_imm w f))

back_alu_by_num : (w : ℕ) → w < 2 ^ 32 → Back alu_by_num w
back_alu_by_num w h f = rw (opcode-is (bits_of w 21 4) (omega arith), one_if-is (bits_of w 20 1) (omega arith), shift-is (bits_of w 5 2) (omega arith)) (grind (arith, h, fixed_bits alu_by_num w f))

back_alu_by_reg : (w : ℕ) → w < 2 ^ 32 → Back alu_by_reg w
back_alu_by_reg w h f = rw (opcode-is (bits_of w 21 4) (omega arith), one_if-is (bits_of w 20 1) (omega arith), shift-is (bits_of w 5 2) (omega arith)) (grind (arith, h, fixed_bits alu_by_reg w f))

back_word_imm : (w : ℕ) → w < 2 ^ 32 → Back word_imm w
back_word_imm w h f = rw (index-is (bits_of w 24 1) (bits_of w 21 1) (omega arith) (omega arith) (further_of word_imm w f), one_if-is (bits_of w 22 1) (omega arith), one_if-is (bits_of w 20 1) (omega arith), one_if-is (bits_of w 23 1) (omega arith)) (grind (arith, h, fixed_bits word_imm w f))

back_word_reg : (w : ℕ) → w < 2 ^ 32 → Back word_reg w
back_word_reg w h f = rw (index-is (bits_of w 24 1) (bits_of w 21 1) (omega arith) (omega arith) (further_of word_reg w f), one_if-is (bits_of w 22 1) (omega arith), one_if-is (bits_of w 20 1) (omega arith), one_if-is (bits_of w 23 1) (omega arith), shift-is (bits_of w 5 2) (omega arith)) (grind (arith, h, fixed_bits word_reg w f))

back_half_imm : (w : ℕ) → w < 2 ^ 32 → Back half_imm w
back_half_imm w h f =
    let form : IsTrue (index_fits (bits_of w 24 1) (bits_of w 21 1)) × IsTrue (half_fits (bits_of w 20 1) (bits_of w 6 1) (bits_of w 5 1)) =
    and_parts (index_fits (bits_of w 24 1) (bits_of w 21 1)) (half_fits (bits_of w 20 1) (bits_of w 6 1) (bits_of w 5 1)) (further_of half_imm w f) in
    rw (index-is (bits_of w 24 1) (bits_of w 21 1) (omega arith) (omega arith) form.0, half-is (bits_of w 20 1) (bits_of w 6 1) (bits_of w 5 1) (omega arith) (omega arith) (omega arith) form.1, one_if-is (bits_of w 23 1) (omega arith)) (grind (arith, h, fixed_bits half_imm w f))

back_half_reg : (w : ℕ) → w < 2 ^ 32 → Back half_reg w
back_half_reg w h f =
    let form : IsTrue (index_fits (bits_of w 24 1) (bits_of w 21 1)) × IsTrue (half_fits (bits_of w 20 1) (bits_of w 6 1) (bits_of w 5 1)) =
    and_parts (index_fits (bits_of w 24 1) (bits_of w 21 1)) (half_fits (bits_of w 20 1) (bits_of w 6 1) (bits_of w 5 1)) (further_of half_reg w f) in
    rw (index-is (bits_of w 24 1) (bits_of w 21 1) (omega arith) (omega arith) form.0, half-is (bits_of w 20 1) (bits_of w 6 1) (bits_of w 5 1) (omega arith) (omega arith) (omega arith) form.1, one_if-is (bits_of w 23 1) (omega arith)) (grind (arith, h, fixed_bits half_reg w f))

-- The table.

-- the same of each row of a list
abbrev pub Backs : List Row → ℕ → Type 0
Backs [] word = Unit {0}
Backs (row ∷ rows) word = Back row word × Backs rows word

-- one row's answer or the others'
step : (test unpredictable : Bool) (instr i : Instr) (others : Result Instr DecodeFault) (w : ℕ)
    → (IsTrue test → word_of instr ≡ w) → (others ≡ Ok i → word_of i ≡ w)
    → (if test then (if unpredictable then Err Unpredictable else Ok instr) else others) ≡ Ok i → word_of i ≡ w
step true true instr i others w here there e = cc
step true false instr i others w here there e =
    let same : instr ≡ i = cc in
    ap (λ (x : Instr). word_of x) (sym same) ∙ here refl
step false unpredictable instr i others w here there e = there e

-- a word that means an instruction by rows is the word of that instruction
by_rows : (rows : List Row) (w : ℕ) (i : Instr) → Backs rows w → meaning rows w ≡ Ok i → word_of i ≡ w
unfolding meaning
by_rows [] w i backs e = cc
by_rows (row ∷ rows) w i backs e =
    step (fits row w) (row.unpredictable (field w row.bits)) (row.instr (field w row.bits)) i (meaning rows w) w backs.0 (by_rows rows w i backs.1) e

all_rows : (w : ℕ) → w < 2 ^ 32 → Backs table w
all_rows w h =
    (back_clrex w h, (back_barrier w h, (back_alu_imm w h, (back_alu_by_num w h, (back_alu_by_reg w h, (back_half_imm w h, (back_half_reg w h, (back_movw w h, (back_movt w h, (back_nop w h, (back_yields w h, (back_mul w h, (back_mla w h, (back_mls w h, (back_long w h, (back_clz w h, (back_extend w h, (back_rev w h, (back_word_imm w h, (back_word_reg w h, (back_block w h, (back_branch w h, (back_branch_reg w h, (back_svc w h, (back_load_ex w h, (back_store_ex w h, tt))))))))))))))))))))))))))

-- a word that means an instruction is the word of that instruction
pub only_word : (w : ℕ) (i : Instr) → w < 2 ^ 32 → meaning table w ≡ Ok i → word_of i ≡ w
only_word w i h e = by_rows table w i (all_rows w h) e

-- where a word means an instruction, the sum of the instruction's bits is that word
pub sum_is : (sum : ℕ) (i : Instr) (other : ℕ) → sum ≡ word_of i → other < 2 ^ 32 → meaning table other ≡ Ok i → sum ≡ other
sum_is sum i other is h e = is ∙ only_word other i h e

-- and means it too
pub sum_means : (sum : ℕ) (i : Instr) (other : ℕ) → sum ≡ word_of i → other < 2 ^ 32 → meaning table other ≡ Ok i → meaning table sum ≡ Ok i
sum_means sum i other is h e = ap (λ (w : ℕ). meaning table w) (sum_is sum i other is h e) ∙ e
