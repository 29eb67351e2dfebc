use Rattle.history.proofs.Prefixes.{IsLegal-front}
use Rattle.history.proofs.laws.prefixes_are_legal.Goals as goal

pub returns : goal.returns
returns c = IsLegal-front _ _ c.args.front.now c.args.back.now c.requires
