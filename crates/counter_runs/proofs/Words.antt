-- The instructions that the words of the counter guest mean.
use Rattle.std.proofs.Common.{◌≡◌, ℕ, ◌+◌, ◌*◌, ◌%◌, ◌^◌, ◌<◌, ◌≤◌, false, true, List, [], ◌∷◌, Some, slice_get, Ok, pos, negsuc, refl, arith, lit<}
use Rattle.llsc_base.specs.Sizes.{Numbers}
use Rattle.llsc_base.specs.declared.access.Size.TheVariants.{B4}
use Rattle.a32_instr.specs.Fields.{alu_fits, alu_op, alu_unpredictable, exclusive_size, no_pair, one_of_2_is_pc, one_of_3_is_pc, one_of_4_is_pc, shift_kind, signed24, status_clashes, index_fits, half_fits}
use Rattle.a32_instr.specs.Table.{meaning}
use Rattle.a32_instr.specs.declared.instructions.Instr.{Instr}
use Rattle.a32_instr.specs.declared.instructions.Instr.TheVariants.{Alu, Branch, LoadEx, Mla, Movt, Movw, StoreEx, Svc}
use Rattle.a32_instr.specs.declared.instructions.AluOp.TheVariants.{Add, Cmp, Mov, Sub}
use Rattle.a32_instr.specs.declared.instructions.Operand2.TheVariants.{ByNum, Imm}
use Rattle.a32_instr.specs.declared.instructions.ShiftKind.TheVariants.{Lsl, Lsr}
use Rattle.a32_instr.proofs.WideMoves.{movt_word, movw_word}
use Rattle.a32_step.specs.Machine.{instr_at}
use Rattle.guest_gen.specs.Counters.{counter_image, counter_unit, counter_words, high_half, low_half}
use Rattle.a32_guests.proofs.Listing.{Mean, none, word, instr_listed}

-- the counter guest as instructions, of so many rounds, where the draws begin at this number
abbrev pub counter_instrs : (start rounds : ℕ) → List Instr
counter_instrs start rounds =
    Movw 14 4 (low_half start) ∷
    Movt 14 4 (high_half start) ∷
    Alu 14 Add false 4 4 (ByNum 0 Lsl 0) ∷
    Movw 14 5 26125 ∷
    Movt 14 5 25 ∷
    Movw 14 6 62303 ∷
    Movt 14 6 15470 ∷
    Movw 14 8 (low_half rounds) ∷
    Movt 14 8 (high_half rounds) ∷
    Alu 14 Mov false 9 0 (Imm 10 2) ∷
    Alu 14 Cmp true 0 8 (Imm 0 0) ∷  -- loop
    Branch 0 false (pos 9) ∷
    Mla 14 false 4 4 5 6 ∷
    Alu 14 Mov false 10 0 (ByNum 4 Lsr 28) ∷
    Alu 14 Add false 10 9 (ByNum 10 Lsl 3) ∷
    LoadEx 14 B4 10 11 ∷  -- try
    Alu 14 Add false 11 11 (Imm 0 1) ∷
    StoreEx 14 B4 10 12 11 ∷
    Alu 14 Cmp true 0 12 (Imm 0 0) ∷
    Branch 1 false (negsuc 5) ∷
    Alu 14 Sub false 8 8 (Imm 0 1) ∷
    Branch 14 false (negsuc 12) ∷
    Alu 14 Mov false 0 0 (Imm 0 0) ∷  -- done
    Alu 14 Mov false 7 0 (Imm 0 1) ∷
    Svc 14 0 ∷ []

-- each word means its instruction: by computing, where no half in it is a variable
words_mean : (start rounds : ℕ) → start < 2 ^ 32 → rounds < 2 ^ 32 → Mean (counter_words start rounds) (counter_instrs start rounds)
unfolding meaning alu_op alu_fits alu_unpredictable shift_kind one_of_2_is_pc one_of_3_is_pc one_of_4_is_pc exclusive_size no_pair status_clashes signed24 index_fits half_fits
words_mean start rounds begins few =
    word _ _ _ _ (omega arith) (movw_word 4 (low_half start) (lit< tt) (omega arith))
    (word _ _ _ _ (omega (arith, begins)) (movt_word 4 (high_half start) (lit< tt) (omega (arith, begins)))
    (word _ _ _ _ (lit< tt) refl
    (word _ _ _ _ (lit< tt) refl
    (word _ _ _ _ (lit< tt) refl
    (word _ _ _ _ (lit< tt) refl
    (word _ _ _ _ (lit< tt) refl
    (word _ _ _ _ (omega arith) (movw_word 8 (low_half rounds) (lit< tt) (omega arith))
    (word _ _ _ _ (omega (arith, few)) (movt_word 8 (high_half rounds) (lit< tt) (omega (arith, few)))
    (word _ _ _ _ (lit< tt) refl
    (word _ _ _ _ (lit< tt) refl
    (word _ _ _ _ (lit< tt) refl
    (word _ _ _ _ (lit< tt) refl
    (word _ _ _ _ (lit< tt) refl
    (word _ _ _ _ (lit< tt) refl
    (word _ _ _ _ (lit< tt) refl
    (word _ _ _ _ (lit< tt) refl
    (word _ _ _ _ (lit< tt) refl
    (word _ _ _ _ (lit< tt) refl
    (word _ _ _ _ (lit< tt) refl
    (word _ _ _ _ (lit< tt) refl
    (word _ _ _ _ (lit< tt) refl
    (word _ _ _ _ (lit< tt) refl
    (word _ _ _ _ (lit< tt) refl
    (word _ _ _ _ (lit< tt) refl none))))))))))))))))))))))))

-- The k-th instruction of the counter guest, in its image.
pub counter_instr_at : (seed rounds : ℕ) (size : Numbers) → 4196 ≤ size.mem → rounds < 2 ^ 32
    → (k : ℕ) (instr : Instr) → slice_get (counter_instrs (seed % 2 ^ 32) rounds) k ≡ Some instr
    → instr_at (counter_image seed rounds size) (4096 + 4 * k) ≡ Ok instr
counter_instr_at seed rounds size room few =
    instr_listed (counter_unit seed rounds) size (counter_instrs (seed % 2 ^ 32) rounds)
    (words_mean (seed % 2 ^ 32) rounds (omega arith) few) room
