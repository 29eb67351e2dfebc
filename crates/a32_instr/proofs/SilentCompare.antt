-- Words that have the opcode of a compare and don't set the flags are no data processing.
use Rattle.std.proofs.Common.{◌≡◌, ℕ, zero, suc, ◌+◌, ◌<◌, ◌==◌, ◌&&◌, ◌||◌, not, true, IsTrue, ⊎_elim, arith, refl, subst}
use Rattle.std.proofs.lemmas.Bool.{and_parts, or_cases, eqb-true, both_ways, not-true}
use Rattle.llsc_base.specs.Bits.{bits_of}
use Rattle.a32_instr.specs.declared.instructions.AluOp.{AluOp}
use Rattle.a32_instr.specs.Fields.{is_compare, is_move, alu_op, alu_fits}

compare_op : (k : ℕ) → k < 4 → is_compare (alu_op (8 + k)) ≡ true
unfolding alu_op
compare_op zero small = refl
compare_op (suc zero) small = refl
compare_op (suc (suc zero)) small = refl
compare_op (suc (suc (suc zero))) small = refl
compare_op (suc (suc (suc (suc k)))) small = absurd (omega arith)

silent : (op : AluOp) (sets rd rn : ℕ) → is_compare op ≡ true → sets ≡ 0 → IsTrue (alu_fits op sets rd rn) → ⊥
unfolding alu_fits
silent op sets rd rn compare none h =
    let parts : IsTrue (not (is_compare op) || ((sets == 1) && (rd == 0))) × IsTrue (not (is_move op) || (rn == 0)) =
    and_parts (not (is_compare op) || ((sets == 1) && (rd == 0))) (not (is_move op) || (rn == 0)) h in
    ⊎_elim
    (λ other. both_ways (is_compare op) (not-true (is_compare op) other) compare)
    (λ loud.
    let set : sets ≡ 1 = eqb-true sets 1 (and_parts (sets == 1) (rd == 0) loud).0 in
    omega arith)
    (or_cases (not (is_compare op)) ((sets == 1) && (rd == 0)) parts.0)

pub silent_compare : (word rd rn : ℕ) → IsTrue (alu_fits (alu_op (bits_of word 21 4)) (bits_of word 20 1) rd rn)
    → bits_of word 23 2 ≡ 2 → bits_of word 20 1 ≡ 0 → ⊥
silent_compare word rd rn h compare none =
    let opcode : 8 + bits_of word 21 2 ≡ bits_of word 21 4 = omega arith in
    silent (alu_op (bits_of word 21 4)) (bits_of word 20 1) rd rn
    (subst (λ (o : ℕ). is_compare (alu_op o) ≡ true) opcode (compare_op (bits_of word 21 2) (omega arith))) none h
