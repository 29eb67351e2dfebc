-- The instructions that the words of the stack guest mean.
use Rattle.std.proofs.Common.{◌≡◌, ℕ, ◌+◌, ◌*◌, ◌<◌, ◌≤◌, false, true, List, [], ◌∷◌, Some, slice_get, Ok, negsuc, refl, arith, lit<}
use Rattle.llsc_base.specs.Sizes.{Numbers}
use Rattle.llsc_base.specs.declared.access.Size.TheVariants.{B4}
use Rattle.a32_instr.specs.Fields.{alu_fits, alu_op, alu_unpredictable, exclusive_size, no_pair, one_of_2_is_pc, one_of_3_is_pc, one_of_4_is_pc, shift_kind, signed24, status_clashes, index_fits, index_of, half_fits, word_unpredictable}
use Rattle.a32_instr.specs.Table.{meaning}
use Rattle.a32_instr.specs.declared.instructions.Instr.{Instr}
use Rattle.a32_instr.specs.declared.instructions.Instr.TheVariants.{Alu, Branch, LoadEx, Movw, StoreEx, Svc, Word}
use Rattle.a32_instr.specs.declared.instructions.AluOp.TheVariants.{Add, Cmp, Mov, Sub}
use Rattle.a32_instr.specs.declared.instructions.Index.TheVariants.{Plain}
use Rattle.a32_instr.specs.declared.instructions.Offset.TheVariants as offset
use Rattle.a32_instr.specs.declared.instructions.Operand2.TheVariants.{Imm}
use Rattle.a32_instr.proofs.WideMoves.{movw_word}
use Rattle.a32_step.specs.Machine.{instr_at}
use Rattle.stack_runs.specs.Guest.{stack_image, stack_unit, stack_words}
use Rattle.a32_guests.proofs.Listing.{Mean, none, word, instr_listed}

-- the stack guest as instructions, of so many rounds
abbrev pub stack_instrs : ℕ → List Instr
stack_instrs rounds =
    Alu 14 Mov false 8 0 (Imm 10 2) ∷
    Movw 14 9 rounds ∷
    LoadEx 14 B4 8 0 ∷  -- pop
    Alu 14 Cmp true 0 0 (Imm 0 0) ∷
    Branch 0 false (negsuc 3) ∷
    Word 14 true false Plain 0 1 (offset.Imm true 0) ∷
    StoreEx 14 B4 8 2 1 ∷
    Alu 14 Cmp true 0 2 (Imm 0 0) ∷
    Branch 1 false (negsuc 7) ∷
    Word 14 true false Plain 0 1 (offset.Imm true 4) ∷
    Alu 14 Add false 1 1 (Imm 0 1) ∷
    Word 14 false false Plain 0 1 (offset.Imm true 4) ∷
    LoadEx 14 B4 8 1 ∷  -- push
    Word 14 false false Plain 0 1 (offset.Imm true 0) ∷
    StoreEx 14 B4 8 2 0 ∷
    Alu 14 Cmp true 0 2 (Imm 0 0) ∷
    Branch 1 false (negsuc 5) ∷
    Alu 14 Sub false 9 9 (Imm 0 1) ∷
    Alu 14 Cmp true 0 9 (Imm 0 0) ∷
    Branch 1 false (negsuc 18) ∷
    Alu 14 Mov false 0 0 (Imm 0 0) ∷
    Alu 14 Mov false 7 0 (Imm 0 1) ∷
    Svc 14 0 ∷ []

-- each word means its instruction: by computing, where no half in it is a variable
words_mean : (rounds : ℕ) → rounds < 65536 → Mean (stack_words rounds) (stack_instrs rounds)
unfolding meaning alu_op alu_fits alu_unpredictable shift_kind one_of_2_is_pc one_of_3_is_pc one_of_4_is_pc exclusive_size no_pair status_clashes signed24 index_fits index_of half_fits word_unpredictable
words_mean rounds few =
    word _ _ _ _ (lit< tt) refl
    (word _ _ _ _ (omega (arith, few)) (movw_word 9 rounds (lit< tt) few)
    (word _ _ _ _ (lit< tt) refl
    (word _ _ _ _ (lit< tt) refl
    (word _ _ _ _ (lit< tt) refl
    (word _ _ _ _ (lit< tt) refl
    (word _ _ _ _ (lit< tt) refl
    (word _ _ _ _ (lit< tt) refl
    (word _ _ _ _ (lit< tt) refl
    (word _ _ _ _ (lit< tt) refl
    (word _ _ _ _ (lit< tt) refl
    (word _ _ _ _ (lit< tt) refl
    (word _ _ _ _ (lit< tt) refl
    (word _ _ _ _ (lit< tt) refl
    (word _ _ _ _ (lit< tt) refl
    (word _ _ _ _ (lit< tt) refl
    (word _ _ _ _ (lit< tt) refl
    (word _ _ _ _ (lit< tt) refl
    (word _ _ _ _ (lit< tt) refl
    (word _ _ _ _ (lit< tt) refl
    (word _ _ _ _ (lit< tt) refl
    (word _ _ _ _ (lit< tt) refl
    (word _ _ _ _ (lit< tt) refl none))))))))))))))))))))))

-- The k-th instruction of the stack guest, in its image.
pub stack_instr_at : (nodes rounds : ℕ) (size : Numbers) → 4188 ≤ size.mem → rounds < 65536
    → (k : ℕ) (instr : Instr) → slice_get (stack_instrs rounds) k ≡ Some instr
    → instr_at (stack_image nodes rounds size) (4096 + 4 * k) ≡ Ok instr
stack_instr_at nodes rounds size room few = instr_listed (stack_unit nodes rounds) size (stack_instrs rounds) (words_mean rounds few) room
