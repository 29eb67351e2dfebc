use Rattle.rv32_guest.proofs.Sound.{next_passes, next_room, next_stops}
use Rattle.rv32_guest.proofs.laws.machines_are_sound.Goals as goal

pub returns-clause-passes : goal.returns-clause-passes
returns-clause-passes c program machine asked goes same = next_passes program machine asked goes same

pub returns-clause-room : goal.returns-clause-room
returns-clause-room c program machine asked goes same = next_room program machine asked goes same

pub returns-clause-own : goal.returns-clause-own
returns-clause-own c program machine why goes same = next_stops program machine why goes same
