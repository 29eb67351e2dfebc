use Rattle.llsc_call.proofs.RunAnswers.{outcome_of}
use Rattle.llsc_call.proofs.laws.runs_have_one_history.Goals as goal

pub returns : goal.returns
returns c = outcome_of
