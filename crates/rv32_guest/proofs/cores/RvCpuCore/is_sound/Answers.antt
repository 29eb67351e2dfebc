use Rattle.rv32_guest.proofs.Sound.{next_room}
use Rattle.rv32_guest.proofs.cores.RvCpuCore.is_sound.Goals as goal

pub returns-clause-room : goal.returns-clause-room
returns-clause-room c = next_room
