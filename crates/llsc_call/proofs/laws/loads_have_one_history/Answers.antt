use Rattle.llsc_call.proofs.LoadAnswers.{load_outcome}
use Rattle.llsc_call.proofs.laws.loads_have_one_history.Goals as goal

pub returns : goal.returns
returns c = load_outcome
