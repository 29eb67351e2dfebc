-- An instruction as it is kept ready.
use Rattle.std.specs.Prelude.{Bool, true, false}
use Rattle.rv32_guest.specs.declared.instructions.RvInstr.{RvInstr}
use Rattle.rv32_guest.specs.declared.instructions.RvInstr.TheVariants.{Lb, Lh, Lw, Lbu, Lhu, Sb, Sh, Sw, LrW, ScW}
use Rattle.rv32_guest.specs.declared.ready.Kind.{Kind}
use Rattle.rv32_guest.specs.declared.ready.Kind.TheVariants.{Unmet, Alone, Accesses}

-- it makes an access
abbrev pub MakesAccess : RvInstr → Type 0
MakesAccess (Lb rd rs1 imm) = Unit {0}
MakesAccess (Lh rd rs1 imm) = Unit {0}
MakesAccess (Lw rd rs1 imm) = Unit {0}
MakesAccess (Lbu rd rs1 imm) = Unit {0}
MakesAccess (Lhu rd rs1 imm) = Unit {0}
MakesAccess (Sb rs1 rs2 imm) = Unit {0}
MakesAccess (Sh rs1 rs2 imm) = Unit {0}
MakesAccess (Sw rs1 rs2 imm) = Unit {0}
MakesAccess (LrW rd rs1) = Unit {0}
MakesAccess (ScW rd rs1 rs2) = Unit {0}
MakesAccess _ = ⊥

-- it makes none
abbrev pub MakesNoAccess : RvInstr → Type 0
MakesNoAccess (Lb rd rs1 imm) = ⊥
MakesNoAccess (Lh rd rs1 imm) = ⊥
MakesNoAccess (Lw rd rs1 imm) = ⊥
MakesNoAccess (Lbu rd rs1 imm) = ⊥
MakesNoAccess (Lhu rd rs1 imm) = ⊥
MakesNoAccess (Sb rs1 rs2 imm) = ⊥
MakesNoAccess (Sh rs1 rs2 imm) = ⊥
MakesNoAccess (Sw rs1 rs2 imm) = ⊥
MakesNoAccess (LrW rd rs1) = ⊥
MakesNoAccess (ScW rd rs1 rs2) = ⊥
MakesNoAccess _ = Unit {0}

-- it was met
abbrev pub is_met : Kind → Bool
is_met Unmet = false
is_met Alone = true
is_met Accesses = true

-- an instruction that was met is of this kind
abbrev pub IsKindOf : RvInstr → Kind → Type 0
IsKindOf instr Unmet = ⊥
IsKindOf instr Alone = MakesNoAccess instr
IsKindOf instr Accesses = MakesAccess instr
