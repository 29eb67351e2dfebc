use Rattle.llsc_call.proofs.OneAnswer.{answers_one}
use Rattle.llsc_call.proofs.laws.answers_are_one.Goals as goal

pub returns : goal.returns
returns c = λ asked files story status other text more plain one another. answers_one asked files story plain status other text more one another
