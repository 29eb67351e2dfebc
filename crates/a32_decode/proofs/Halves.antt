-- Halfwords and signed bytes are no multiplications and no exclusives, whose bits 7:4 are 1001.
use Rattle.std.proofs.Common.{◌≡◌, ℕ, ◌==◌, ◌&&◌, IsTrue, ⊎_elim, arith}
use Rattle.std.proofs.lemmas.Bool.{and_parts, or_cases, eqb-true}
use Rattle.llsc_base.specs.Bits.{bits_of}
use Rattle.a32_instr.specs.Fields.{half_fits, index_fits}
use Rattle.a32_instr.specs.Table.{half_imm, half_reg}
use Rattle.a32_instr.proofs.Apart.{further_of}
use Rattle.a32_decode.specs.inner.Rows.{Fits}

-- bit 6 or bit 5 of a halfword or a signed byte is set
is_no_half : (word l : ℕ) → bits_of word 4 4 ≡ 9 → IsTrue (half_fits l (bits_of word 6 1) (bits_of word 5 1)) → ⊥
unfolding half_fits
is_no_half word l product half =
    ⊎_elim
    (λ halfword.
    let set : bits_of word 5 1 ≡ 1 = eqb-true (bits_of word 5 1) 1 (and_parts (bits_of word 6 1 == 0) (bits_of word 5 1 == 1) halfword).1 in
    omega arith)
    (λ signed.
    let set : bits_of word 6 1 ≡ 1 = eqb-true (bits_of word 6 1) 1 (and_parts (bits_of word 6 1 == 1) (l == 1) signed).0 in
    omega arith)
    (or_cases ((bits_of word 6 1 == 0) && (bits_of word 5 1 == 1)) ((bits_of word 6 1 == 1) && (l == 1)) half)

-- what both rows ask for beside their fixed bits
has_no_form : (word p w l : ℕ) → bits_of word 4 4 ≡ 9 → IsTrue (index_fits p w && half_fits l (bits_of word 6 1) (bits_of word 5 1)) → ⊥
has_no_form word p w l product form =
    is_no_half word l product (and_parts (index_fits p w) (half_fits l (bits_of word 6 1) (bits_of word 5 1)) form).1

pub half_imm_is_no_product : (word : ℕ) → bits_of word 4 4 ≡ 9 → Fits half_imm word → ⊥
half_imm_is_no_product word product fit =
    has_no_form word (bits_of word 24 1) (bits_of word 21 1) (bits_of word 20 1) product (further_of half_imm word fit)

pub half_reg_is_no_product : (word : ℕ) → bits_of word 4 4 ≡ 9 → Fits half_reg word → ⊥
half_reg_is_no_product word product fit =
    has_no_form word (bits_of word 24 1) (bits_of word 21 1) (bits_of word 20 1) product (further_of half_reg word fit)
