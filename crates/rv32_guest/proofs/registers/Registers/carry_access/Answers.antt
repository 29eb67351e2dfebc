use Rattle.std.proofs.Common.{rules, ◌≡◌, ℕ, true, false, List}
use Rattle.llsc_base.specs.declared.access.Size.TheVariants.{B1, B2, B4}
use Rattle.rv32_guest.specs.Accesses.{loads, place_of, reserves, stores, stores_conditionally}
use Rattle.rv32_guest.specs.Computing.{moved}
use Rattle.rv32_guest.specs.State.{Effect, register}
use Rattle.rv32_guest.proofs.CarriedOn.{carried_as, carried_at}
use Rattle.rv32_guest.proofs.registers.Registers.carry_access.Goals as goal

pub returns-in-Lb-clause-carried : goal.returns-in-Lb-clause-carried
returns-in-Lb-clause-carried g c =
    let at : c.address.result ≡ moved (register c.args.self.now c.in-Lb.rs1) c.in-Lb.imm = search rules in
    let does : ℕ → List ℕ → Effect = λ addr had. loads c.args.image.now (place_of B1 addr) true c.in-Lb.rd had c.args.self.now in
    carried_as _ _ _ _ _ _ _ c.in-Lb.is (carried_at _ _ _ _ _ c.carry_byte.result does at c.carry_byte.ensures.carried)

pub returns-in-Lh-clause-carried : goal.returns-in-Lh-clause-carried
returns-in-Lh-clause-carried g c =
    let at : c.address-in-Lh.result ≡ moved (register c.args.self.now c.in-Lh.rs1) c.in-Lh.imm = search rules in
    let does : ℕ → List ℕ → Effect = λ addr had. loads c.args.image.now (place_of B2 addr) true c.in-Lh.rd had c.args.self.now in
    carried_as _ _ _ _ _ _ _ c.in-Lh.is (carried_at _ _ _ _ _ c.carry_half.result does at c.carry_half.ensures.carried)

pub returns-in-Lw-clause-carried : goal.returns-in-Lw-clause-carried
returns-in-Lw-clause-carried g c =
    let at : c.address-in-Lw.result ≡ moved (register c.args.self.now c.in-Lw.rs1) c.in-Lw.imm = search rules in
    let does : ℕ → List ℕ → Effect = λ addr had. loads c.args.image.now (place_of B4 addr) false c.in-Lw.rd had c.args.self.now in
    carried_as _ _ _ _ _ _ _ c.in-Lw.is (carried_at _ _ _ _ _ c.carry_word.result does at c.carry_word.ensures.carried)

pub returns-in-Lbu-clause-carried : goal.returns-in-Lbu-clause-carried
returns-in-Lbu-clause-carried g c =
    let at : c.address-in-Lbu.result ≡ moved (register c.args.self.now c.in-Lbu.rs1) c.in-Lbu.imm = search rules in
    let does : ℕ → List ℕ → Effect = λ addr had. loads c.args.image.now (place_of B1 addr) false c.in-Lbu.rd had c.args.self.now in
    carried_as _ _ _ _ _ _ _ c.in-Lbu.is (carried_at _ _ _ _ _ c.carry_byte-in-Lbu.result does at c.carry_byte-in-Lbu.ensures.carried)

pub returns-in-Lhu-clause-carried : goal.returns-in-Lhu-clause-carried
returns-in-Lhu-clause-carried g c =
    let at : c.address-in-Lhu.result ≡ moved (register c.args.self.now c.in-Lhu.rs1) c.in-Lhu.imm = search rules in
    let does : ℕ → List ℕ → Effect = λ addr had. loads c.args.image.now (place_of B2 addr) false c.in-Lhu.rd had c.args.self.now in
    carried_as _ _ _ _ _ _ _ c.in-Lhu.is (carried_at _ _ _ _ _ c.carry_half-in-Lhu.result does at c.carry_half-in-Lhu.ensures.carried)

pub returns-in-Sb-clause-carried : goal.returns-in-Sb-clause-carried
returns-in-Sb-clause-carried g c =
    let at : c.address-in-Sb.result ≡ moved (register c.args.self.now c.in-Sb.rs1) c.in-Sb.imm = search rules in
    let value_is : c.x.result ≡ register c.args.self.now c.in-Sb.rs2 = search rules in
    let does : ℕ → ℕ → List ℕ → Effect = λ addr value had. stores c.args.image.now (place_of B1 addr) value had c.args.self.now in
    carried_as _ _ _ _ _ _ _ c.in-Sb.is
    (carried_at _ _ _ _ _ _ (does _) value_is (carried_at _ _ _ _ _ c.carry_store.result (λ addr. does addr c.x.result) at c.carry_store.ensures.carried))

pub returns-in-Sh-clause-carried : goal.returns-in-Sh-clause-carried
returns-in-Sh-clause-carried g c =
    let at : c.address-in-Sh.result ≡ moved (register c.args.self.now c.in-Sh.rs1) c.in-Sh.imm = search rules in
    let value_is : c.x-in-Sh.result ≡ register c.args.self.now c.in-Sh.rs2 = search rules in
    let does : ℕ → ℕ → List ℕ → Effect = λ addr value had. stores c.args.image.now (place_of B2 addr) value had c.args.self.now in
    carried_as _ _ _ _ _ _ _ c.in-Sh.is
    (carried_at _ _ _ _ _ _ (does _) value_is (carried_at _ _ _ _ _ c.carry_store-in-Sh.result (λ addr. does addr c.x-in-Sh.result) at c.carry_store-in-Sh.ensures.carried))

pub returns-in-Sw-clause-carried : goal.returns-in-Sw-clause-carried
returns-in-Sw-clause-carried g c =
    let at : c.address-in-Sw.result ≡ moved (register c.args.self.now c.in-Sw.rs1) c.in-Sw.imm = search rules in
    let value_is : c.x-in-Sw.result ≡ register c.args.self.now c.in-Sw.rs2 = search rules in
    let does : ℕ → ℕ → List ℕ → Effect = λ addr value had. stores c.args.image.now (place_of B4 addr) value had c.args.self.now in
    carried_as _ _ _ _ _ _ _ c.in-Sw.is
    (carried_at _ _ _ _ _ _ (does _) value_is (carried_at _ _ _ _ _ c.carry_store-in-Sw.result (λ addr. does addr c.x-in-Sw.result) at c.carry_store-in-Sw.ensures.carried))

pub returns-in-LrW-clause-carried : goal.returns-in-LrW-clause-carried
returns-in-LrW-clause-carried g c =
    let at : c.x-in-LrW.result ≡ register c.args.self.now c.in-LrW.rs1 = search rules in
    let does : ℕ → List ℕ → Effect = λ addr had. reserves c.args.image.now addr c.in-LrW.rd had c.args.self.now in
    carried_as _ _ _ _ _ _ _ c.in-LrW.is (carried_at _ _ _ _ _ c.carry_reserved.result does at c.carry_reserved.ensures.carried)

pub returns-in-ScW-clause-carried : goal.returns-in-ScW-clause-carried
returns-in-ScW-clause-carried g c =
    let at : c.x-in-ScW.result ≡ register c.args.self.now c.in-ScW.rs1 = search rules in
    let value_is : c.x-in-ScW-2.result ≡ register c.args.self.now c.in-ScW.rs2 = search rules in
    let does : ℕ → ℕ → List ℕ → Effect = λ addr value had. stores_conditionally c.args.image.now addr value c.in-ScW.rd had c.args.self.now in
    carried_as _ _ _ _ _ _ _ c.in-ScW.is
    (carried_at _ _ _ _ _ _ (does _) value_is (carried_at _ _ _ _ _ c.carry_conditional.result (λ addr. does addr c.x-in-ScW-2.result) at c.carry_conditional.ensures.carried))
