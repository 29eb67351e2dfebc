use Rattle.llsc_call.proofs.LoadAnswers.{every_round}
use Rattle.llsc_call.proofs.laws.loads_count_every_round.Goals as goal

pub returns : goal.returns
returns c = every_round
