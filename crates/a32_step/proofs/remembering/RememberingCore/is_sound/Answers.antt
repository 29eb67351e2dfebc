use Rattle.a32_step.proofs.Tested.{next_room}
use Rattle.a32_step.proofs.remembering.RememberingCore.is_sound.Goals as goal

pub returns-clause-room : goal.returns-clause-room
returns-clause-room c = next_room
