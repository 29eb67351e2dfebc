-- A machine that is between two instructions.
use Rattle.std.proofs.Common.{◌≡◌, ℕ, Option, [], refl, sym, subst}
use Rattle.llsc_base.specs.Images.{Program}
use Rattle.llsc_base.specs.declared.outside.Ask.{Ask}
use Rattle.guest_core.specs.declared.phases.Passage.TheVariants.{AtStart}
use Rattle.guest_core.specs.Machine.{InstructionSet, MachineOf, between, AwaitsNothing}
use Rattle.guest_core.specs.Passages.{IsCarriedOnOf, starts}
use Rattle.guest_core.specs.Ports.{stays}
use Rattle.guest_core.specs.inner.Machine.{IsBetween}

-- its phase says so
pub is_between : {I S : Type 0} (machine : MachineOf I S) → machine ≡ between machine.state → IsBetween machine.phase
is_between {I} {S} machine rest = subst (λ (m : MachineOf I S). IsBetween m.phase) (sym rest) tt

-- where nothing was done it is as it was
pub not_on : {I S P : Type 0} {set : InstructionSet I S} {replies : P → Ask → Option ℕ → P → Type 0} {program : Program} {old : MachineOf I S} {from : P}
    → old ≡ between old.state → IsCarriedOnOf set replies program old from AtStart old from
not_on {I} {S} {old = old} rest = record {
  pairs = [];
  machine = old;
  leads = stays;
  comes = starts;
  ends = (refl, subst (λ (m : MachineOf I S). AwaitsNothing m.phase) (sym rest) tt);
}
