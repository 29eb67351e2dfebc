-- Only proofs and inner contracts need these words beside those of `specs/Inside`.
use Rattle.guest_core.specs.Phase.{PhaseOf}
use Rattle.guest_core.specs.Phase as phase
use Rattle.rv32_guest.specs.declared.cpu.Stage.{Stage}
use Rattle.rv32_guest.specs.declared.cpu.Stage.TheVariants.{Between, Inside, Awaiting, Calling, Stopped}
use Rattle.rv32_guest.specs.declared.instructions.RvInstr.{RvInstr}
use Rattle.rv32_guest.specs.Machine.{Machine}
use Rattle.rv32_guest.specs.inner.Outcome.{replies_of}
use Rattle.rv32_guest.specs.declared.cpu.RvCpu.TheInside as fields

-- the phase of a stage of this instruction
abbrev pub phase_of : RvInstr → Stage → PhaseOf RvInstr
phase_of instr Between = phase.Between
phase_of instr Inside = phase.Inside instr
phase_of instr (Awaiting ask) = phase.Awaiting instr ask
phase_of instr (Calling call) = phase.Calling call
phase_of instr (Stopped stop) = phase.Stopped stop

abbrev pub machine_of : fields.Inside → Machine
machine_of cpu = record { state = cpu.registers; phase = phase_of cpu.instr cpu.stage; replies = replies_of cpu.reply }
