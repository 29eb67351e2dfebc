-- An instruction that is none of those which make an access makes none.
use Rattle.std.proofs.Common.{◌≡◌, ℕ, ℤ, refl}
use Rattle.rv32_guest.specs.declared.instructions.RvInstr.{RvInstr}
use Rattle.rv32_guest.specs.declared.instructions.RvInstr.TheVariants.{Lui, Auipc, Jal, Jalr, Beq, Bne, Blt, Bge, Bltu, Bgeu, Lb, Lh, Lw, Lbu, Lhu, Sb, Sh, Sw, Addi, Slti, Sltiu, Xori, Ori, Andi, Slli, Srli, Srai, Add, Sub, Sll, Slt, Sltu, Xor, Srl, Sra, Or, And, Fence, LrW, ScW, Ecall}
use Rattle.rv32_guest.specs.Kept.{MakesNoAccess}

pub record IsNoneOfThem (instr : RvInstr) : Type 0 where
  pub not_lb : (rd : ℕ) (rs1 : ℕ) (imm : ℤ) → instr ≡ Lb rd rs1 imm → ⊥
  pub not_lh : (rd : ℕ) (rs1 : ℕ) (imm : ℤ) → instr ≡ Lh rd rs1 imm → ⊥
  pub not_lw : (rd : ℕ) (rs1 : ℕ) (imm : ℤ) → instr ≡ Lw rd rs1 imm → ⊥
  pub not_lbu : (rd : ℕ) (rs1 : ℕ) (imm : ℤ) → instr ≡ Lbu rd rs1 imm → ⊥
  pub not_lhu : (rd : ℕ) (rs1 : ℕ) (imm : ℤ) → instr ≡ Lhu rd rs1 imm → ⊥
  pub not_sb : (rs1 : ℕ) (rs2 : ℕ) (imm : ℤ) → instr ≡ Sb rs1 rs2 imm → ⊥
  pub not_sh : (rs1 : ℕ) (rs2 : ℕ) (imm : ℤ) → instr ≡ Sh rs1 rs2 imm → ⊥
  pub not_sw : (rs1 : ℕ) (rs2 : ℕ) (imm : ℤ) → instr ≡ Sw rs1 rs2 imm → ⊥
  pub not_lr_w : (rd : ℕ) (rs1 : ℕ) → instr ≡ LrW rd rs1 → ⊥
  pub not_sc_w : (rd : ℕ) (rs1 : ℕ) (rs2 : ℕ) → instr ≡ ScW rd rs1 rs2 → ⊥

pub others_ask_nothing : (instr : RvInstr) → IsNoneOfThem instr → MakesNoAccess instr
others_ask_nothing (Lui rd imm) none = tt
others_ask_nothing (Auipc rd imm) none = tt
others_ask_nothing (Jal rd imm) none = tt
others_ask_nothing (Jalr rd rs1 imm) none = tt
others_ask_nothing (Beq rs1 rs2 imm) none = tt
others_ask_nothing (Bne rs1 rs2 imm) none = tt
others_ask_nothing (Blt rs1 rs2 imm) none = tt
others_ask_nothing (Bge rs1 rs2 imm) none = tt
others_ask_nothing (Bltu rs1 rs2 imm) none = tt
others_ask_nothing (Bgeu rs1 rs2 imm) none = tt
others_ask_nothing (Lb rd rs1 imm) none = absurd (none.not_lb rd rs1 imm refl)
others_ask_nothing (Lh rd rs1 imm) none = absurd (none.not_lh rd rs1 imm refl)
others_ask_nothing (Lw rd rs1 imm) none = absurd (none.not_lw rd rs1 imm refl)
others_ask_nothing (Lbu rd rs1 imm) none = absurd (none.not_lbu rd rs1 imm refl)
others_ask_nothing (Lhu rd rs1 imm) none = absurd (none.not_lhu rd rs1 imm refl)
others_ask_nothing (Sb rs1 rs2 imm) none = absurd (none.not_sb rs1 rs2 imm refl)
others_ask_nothing (Sh rs1 rs2 imm) none = absurd (none.not_sh rs1 rs2 imm refl)
others_ask_nothing (Sw rs1 rs2 imm) none = absurd (none.not_sw rs1 rs2 imm refl)
others_ask_nothing (Addi rd rs1 imm) none = tt
others_ask_nothing (Slti rd rs1 imm) none = tt
others_ask_nothing (Sltiu rd rs1 imm) none = tt
others_ask_nothing (Xori rd rs1 imm) none = tt
others_ask_nothing (Ori rd rs1 imm) none = tt
others_ask_nothing (Andi rd rs1 imm) none = tt
others_ask_nothing (Slli rd rs1 amount) none = tt
others_ask_nothing (Srli rd rs1 amount) none = tt
others_ask_nothing (Srai rd rs1 amount) none = tt
others_ask_nothing (Add rd rs1 rs2) none = tt
others_ask_nothing (Sub rd rs1 rs2) none = tt
others_ask_nothing (Sll rd rs1 rs2) none = tt
others_ask_nothing (Slt rd rs1 rs2) none = tt
others_ask_nothing (Sltu rd rs1 rs2) none = tt
others_ask_nothing (Xor rd rs1 rs2) none = tt
others_ask_nothing (Srl rd rs1 rs2) none = tt
others_ask_nothing (Sra rd rs1 rs2) none = tt
others_ask_nothing (Or rd rs1 rs2) none = tt
others_ask_nothing (And rd rs1 rs2) none = tt
others_ask_nothing Fence none = tt
others_ask_nothing (LrW rd rs1) none = absurd (none.not_lr_w rd rs1 refl)
others_ask_nothing (ScW rd rs1 rs2) none = absurd (none.not_sc_w rd rs1 rs2 refl)
others_ask_nothing Ecall none = tt
