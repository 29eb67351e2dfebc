-- Loads and stores, by the address that was worked out and what is moved.
use Rattle.std.proofs.Common.{◌≡◌, ◌^◌, ◌%◌, ℕ, Bool, List, [], refl, sym, ap, ◌∙◌}
use Rattle.llsc_base.specs.Images.{Program}
use Rattle.llsc_base.specs.declared.access.Place.{Place}
use Rattle.llsc_base.specs.declared.access.Size.{Size}
use Rattle.a32_instr.specs.declared.instructions.Index.{Index}
use Rattle.a32_instr.specs.declared.instructions.Offset.{Offset}
use Rattle.a32_instr.specs.declared.instructions.HalfKind.{HalfKind}
use Rattle.a32_instr.specs.declared.instructions.HalfKind.TheVariants.{Strh, Ldrh, Ldrsb, Ldrsh}
use Rattle.llsc_base.specs.declared.outside.Ask.TheVariants.{LoadEx, StoreEx}
use Rattle.a32_instr.specs.Exclusive.{load_exclusive, store_exclusive, stored_part}
use Rattle.a32_instr.specs.LoadStore.{access_size, accessed_address, accesses, half, half_accesses, half_by, half_size, loads_half, moved_address, stores, word, word_by, written_back}
use Rattle.a32_instr.specs.State.{State, register}
use Rattle.guest_core.specs.inner.Asking.{asked_first}

module _ (program : Program) (state : State) (index : Index) (rn rt : ℕ) (offset : Offset) (addr moved : ℕ)
    (moved_is : moved ≡ moved_address rn offset state) (addr_is : addr ≡ accessed_address index (register state rn) moved) (had : List ℕ) where
  -- a word or a byte
  pub word_is : (load byte to wide : Bool) → load ≡ to → byte ≡ wide
      → word program load byte index rn rt offset had state
      ≡ accesses program to wide (record { addr = addr; size = access_size wide }) (written_back index rn moved state) rt had state
  word_is load byte to wide load_is byte_is =
      ap (λ m. word_by program load byte index rn rt m had state) (sym moved_is)
      ∙ ap (λ a. accesses program load byte (record { addr = a; size = access_size byte }) (written_back index rn moved state) rt had state) (sym addr_is)
      ∙ ap (λ l. accesses program l byte (record { addr = addr; size = access_size byte }) (written_back index rn moved state) rt had state) load_is
      ∙ ap (λ b. accesses program to b (record { addr = addr; size = access_size b }) (written_back index rn moved state) rt had state) byte_is

  -- a halfword or a signed byte
  pub half_is : (kind : HalfKind) → half program kind index rn rt offset had state
      ≡ half_accesses kind program (record { addr = addr; size = half_size kind }) (written_back index rn moved state) rt had state
  half_is kind =
      ap (λ m. half_by program kind index rn rt m had state) (sym moved_is)
      ∙ ap (λ a. half_accesses kind program (record { addr = a; size = half_size kind }) (written_back index rn moved state) rt had state) (sym addr_is)

-- a halfword's store, and the loads
pub strh_is : (program : Program) (kind : HalfKind) (addr rt : ℕ) (size : Size) (value : ℕ) (back : State) (had : List ℕ) (state : State)
    → kind ≡ Strh → size ≡ half_size kind → value ≡ register state rt % 2 ^ 16
    → half_accesses kind program (record { addr = addr; size = half_size kind }) back rt had state ≡ stores program (record { addr = addr; size = size }) back value had state
strh_is program kind addr rt size value back had state is size_is value_is =
    ap (λ k. half_accesses k program (record { addr = addr; size = half_size kind }) back rt had state) is
    ∙ ap (λ s. stores program (record { addr = addr; size = s }) back (register state rt % 2 ^ 16) had state) (sym size_is)
    ∙ ap (λ v. stores program (record { addr = addr; size = size }) back v had state) (sym value_is)

pub loads_by : (program : Program) (kind : HalfKind) (place : Place) (rt : ℕ) (back : State) (had : List ℕ) (state : State) → (kind ≡ Strh → ⊥)
    → half_accesses kind program place back rt had state ≡ loads_half kind program place back rt had state
loads_by program Strh place rt back had state other = absurd (other refl)
loads_by program Ldrh place rt back had state other = refl
loads_by program Ldrsb place rt back had state other = refl
loads_by program Ldrsh place rt back had state other = refl

pub ldrh_is : (program : Program) (kind : HalfKind) (addr rt : ℕ) (size : Size) (back : State) (had : List ℕ) (state : State)
    → (kind ≡ Strh → ⊥) → size ≡ half_size kind
    → half_accesses kind program (record { addr = addr; size = half_size kind }) back rt had state ≡ loads_half kind program (record { addr = addr; size = size }) back rt had state
ldrh_is program kind addr rt size back had state other size_is =
    loads_by program kind (record { addr = addr; size = half_size kind }) rt back had state other
    ∙ ap (λ s. loads_half kind program (record { addr = addr; size = s }) back rt had state) (sym size_is)

-- an exclusive's access, by the address and the value that were worked out
pub load_exclusive_asks : (program : Program) (size : Size) (rn rt : ℕ) (state : State) {addr : ℕ} → addr ≡ register state rn
    → load_exclusive size rn rt program [] state ≡ asked_first program (LoadEx (record { addr = addr; size = size }))
load_exclusive_asks program size rn rt state addr_is = ap (λ a. asked_first program (LoadEx (record { addr = a; size = size }))) (sym addr_is)

pub store_exclusive_asks : (program : Program) (size : Size) (rn rd rt : ℕ) (state : State) {addr value : ℕ} → addr ≡ register state rn → value ≡ stored_part size rt state
    → store_exclusive size rn rd rt program [] state ≡ asked_first program (StoreEx (record { addr = addr; size = size }) value)
store_exclusive_asks program size rn rd rt state {addr} addr_is value_is =
    ap (λ a. asked_first program (StoreEx (record { addr = a; size = size }) (stored_part size rt state))) (sym addr_is)
    ∙ ap (λ v. asked_first program (StoreEx (record { addr = addr; size = size }) v)) (sym value_is)
