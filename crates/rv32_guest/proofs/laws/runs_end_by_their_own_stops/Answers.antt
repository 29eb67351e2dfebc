use Rattle.rv32_guest.proofs.Ending.{ends_stop}
use Rattle.rv32_guest.proofs.laws.runs_end_by_their_own_stops.Goals as goal

pub returns : goal.returns
returns c = ends_stop
