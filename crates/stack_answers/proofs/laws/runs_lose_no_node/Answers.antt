use Rattle.stack_answers.proofs.Told.{come_back, never_lost}
use Rattle.stack_answers.proofs.laws.runs_lose_no_node.Goals as goal

pub returns : goal.returns
returns c = record { ever = never_lost; at_end = come_back }
