-- A core that is between two instructions.
use Rattle.std.proofs.Common.{◌≡◌, refl, subst}
use Rattle.guest_core.specs.Machine.{between}
use Rattle.guest_core.specs.inner.Machine.{IsBetween}
use Rattle.guest_core.proofs.Resting.{is_between}
use Rattle.rv32_guest.specs.inner.Inside.{phase_of}
use Rattle.rv32_guest.specs.Machine.{Machine}
use Rattle.rv32_guest.specs.declared.cpu.Stage.{Stage}
use Rattle.rv32_guest.specs.declared.cpu.Stage.TheVariants.{Between, Inside, Awaiting, Calling, Stopped}
use Rattle.rv32_guest.specs.declared.instructions.RvInstr.{RvInstr}

between_at : (instr : RvInstr) (at : Stage) → IsBetween (phase_of instr at) → at ≡ Between
between_at instr Between is = refl
between_at instr Inside is = absurd is
between_at instr (Awaiting ask) is = absurd is
between_at instr (Calling call) is = absurd is
between_at instr (Stopped stop) is = absurd is

-- its stage is that where its machine is
pub is_resting : (instr : RvInstr) (at : Stage) (machine : Machine) → machine.phase ≡ phase_of instr at → machine ≡ between machine.state → at ≡ Between
is_resting instr at machine same is = between_at instr at (subst IsBetween same (is_between machine is))
