-- What is shown of each formed instruction: a mnemonic that there is, in a form that stands, with numbers that fit it; and it
-- means the instruction.
use Rattle.std.proofs.Common.{◌≡◌, ℕ, ◌^◌, ◌<◌, ◌%◌, ◌==◌, ◌||◌, IsTrue, None, arith, refl}
use Rattle.std.specs.Cmp.Derive.{both_true}
use Rattle.std.proofs.lemmas.Bool.{lt-ltb}
use Rattle.a32_instr.specs.Branch.{target_of}
use Rattle.a32_instr.specs.Fields.{is_compare, is_move}
use Rattle.a32_instr.specs.declared.instructions.Instr.{Instr}
use Rattle.a32_instr.specs.declared.instructions.Instr.TheVariants as instr
use Rattle.a32_syntax.specs.Formed.{IsFormed}
use Rattle.a32_syntax.specs.Meaning.{Site, means}
use Rattle.a32_syntax.specs.Mnemonics.{is_mnemonic}
use Rattle.a32_syntax.specs.Shown.{showing_of, operand_form, word_form, half_form}
use Rattle.a32_syntax.proofs.Fits.{FitsItsForm, register_fits, number_fits, mark_fits, two_fit, three_fit, four_fit, alu_fits_form, word_access_fits, half_access_fits, extend_fits_form, load_exclusive_fits, store_exclusive_fits, target_small}
use Rattle.a32_syntax.proofs.Meant.{MeansBack, movw_back, extend_back, branch_back, alu_back, word_back, half_back, block_back, load_exclusive_back, store_exclusive_back, movt_back, svc_back, barrier_back}
use Rattle.a32_syntax.proofs.ShownForms.{Stands, operand_form_below, word_form_below, half_form_below, word_stands, half_stands, alu_stands, extend_stands, load_exclusive_stands, store_exclusive_stands, below_15, alu_flags, extend_mnemonic}

abbrev pub IsShown : Instr → Site → Type 0
IsShown instruction site =
    IsTrue (is_mnemonic (showing_of instruction site.here).mnemonic)
    × Stands instruction site.here
    × FitsItsForm instruction site.here
    × (site.here % 4 ≡ 0 → site.here < 2 ^ 32 → MeansBack instruction site)

pub is_shown : (i : Instr) (site : Site) → IsFormed i → IsShown i site
unfolding IsFormed means showing_of
is_shown (instr.Alu cond op s rd rn operand) site formed = (
  both_true (alu_flags (is_compare op) s) (below_15 cond formed.0),
  alu_stands (is_compare op || is_move op) (operand_form operand) (operand_form_below operand),
  alu_fits_form cond op s rd rn operand site.here formed.1.0 formed.1.1 formed.3,
  λ whole small. alu_back cond op s rd rn operand site formed.2 formed.3,
)
is_shown (instr.Movw cond rd imm) site formed = (
  below_15 cond formed.0,
  refl,
  both_true (register_fits rd formed.1) (both_true (number_fits imm (omega arith)) refl),
  λ whole small. movw_back cond rd imm site formed.2,
)
is_shown (instr.Movt cond rd imm) site formed = (
  below_15 cond formed.0,
  refl,
  both_true (register_fits rd formed.1) (both_true (number_fits imm (omega arith)) refl),
  λ whole small. movt_back cond rd imm site formed.2,
)
is_shown (instr.Nop cond) site formed = (below_15 cond formed, refl, refl, λ whole small. refl)
is_shown (instr.Yield cond) site formed = (below_15 cond formed, refl, refl, λ whole small. refl)
is_shown (instr.Mul cond s rd rn rm) site formed = (below_15 cond formed.0, refl, three_fit rd rn rm formed.1, λ whole small. refl)
is_shown (instr.Mla cond s rd rn rm ra) site formed = (below_15 cond formed.0, refl, four_fit rd rn rm ra formed.1, λ whole small. refl)
is_shown (instr.Mls cond rd rn rm ra) site formed = (below_15 cond formed.0, refl, four_fit rd rn rm ra formed.1, λ whole small. refl)
is_shown (instr.Long cond kind s lo hi rn rm) site formed = (below_15 cond formed.0, refl, four_fit lo hi rn rm formed.1, λ whole small. refl)
is_shown (instr.Clz cond rd rm) site formed = (below_15 cond formed.0, refl, two_fit rd rm formed.1, λ whole small. refl)
is_shown (instr.Rev cond rd rm) site formed = (below_15 cond formed.0, refl, two_fit rd rm formed.1, λ whole small. refl)
is_shown (instr.Extend cond unsigned half rd rm turn) site formed = (
  extend_mnemonic cond unsigned half rd rm turn site.here formed.0 (turn == 0) refl,
  extend_stands cond unsigned half rd rm turn site.here (turn == 0) refl,
  extend_fits_form cond unsigned half rd rm turn site.here formed.2 formed.1.0 formed.1.1,
  λ whole small. extend_back cond unsigned half rd rm turn site formed.2,
)
is_shown (instr.Word cond load byte index rn rt offset) site formed = (
  below_15 cond formed.0,
  word_stands (word_form index offset) (word_form_below index offset),
  word_access_fits index offset rt rn formed.2 formed.1.1 formed.1.0,
  λ whole small. word_back cond load byte index rn rt offset site formed.2,
)
is_shown (instr.Half cond kind index rn rt offset) site formed = (
  below_15 cond formed.0,
  half_stands (half_form index offset) (half_form_below index offset formed.2),
  half_access_fits index offset rt rn formed.2 formed.1.1 formed.1.0,
  λ whole small. half_back cond kind index rn rt offset site formed.2,
)
is_shown (instr.Block cond load before up wback rn list) site formed = (
  below_15 cond formed.0,
  refl,
  both_true (register_fits rn formed.1) (both_true (mark_fits wback) (both_true (both_true (lt-ltb 0 list formed.2) (lt-ltb list (2 ^ 16) formed.3)) refl)),
  λ whole small. block_back cond load before up wback rn list site,
)
is_shown (instr.Branch cond link words) site formed = (
  below_15 cond formed.0,
  refl,
  both_true (number_fits (target_of site.here words) (target_small site.here words)) refl,
  λ whole small. branch_back cond link words site whole small formed.1,
)
is_shown (instr.BranchReg cond link rm) site formed = (
  below_15 cond formed.0,
  refl,
  both_true (register_fits rm formed.1) refl,
  λ whole small. refl,
)
is_shown (instr.Svc cond imm) site formed = (
  below_15 cond formed.0,
  refl,
  both_true (number_fits imm (omega arith)) refl,
  λ whole small. svc_back cond imm site formed.1,
)
is_shown (instr.LoadEx cond size rn rt) site formed = (
  below_15 cond formed.0,
  load_exclusive_stands size,
  load_exclusive_fits cond size rn rt site.here formed.1 formed.2,
  λ whole small. load_exclusive_back cond size rn rt site,
)
is_shown (instr.StoreEx cond size rn rd rt) site formed = (
  below_15 cond formed.0,
  store_exclusive_stands size,
  store_exclusive_fits cond size rn rd rt site.here formed.1.0 formed.1.1 formed.2,
  λ whole small. store_exclusive_back cond size rn rd rt site,
)
is_shown instr.Clrex site formed = (refl, refl, refl, λ whole small. refl)
is_shown (instr.Barrier kind option) site formed = (
  refl,
  refl,
  both_true (number_fits option (omega arith)) refl,
  λ whole small. barrier_back kind option site formed,
)

-- The facts for which labels are of no account.

abbrev at : ℕ → Site
at here = record { here = here; labels = λ name. None }

pub shown_mnemonic : (i : Instr) (here : ℕ) → IsFormed i → IsTrue (is_mnemonic (showing_of i here).mnemonic)
shown_mnemonic i here formed = (is_shown i (at here) formed).0

pub fits_its_form : (i : Instr) (here : ℕ) → IsFormed i → FitsItsForm i here
fits_its_form i here formed = (is_shown i (at here) formed).2
