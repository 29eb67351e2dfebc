use Rattle.std.proofs.Common.{◌∷◌, ◌++◌}
use Rattle.run_explainer.proofs.Marked.{legal_front}
use Rattle.run_explainer.proofs.Told.{legal_of, told_first}
use Rattle.run_explainer.proofs.laws.told_writes_ended_the_mark.Goals as goal

pub returns : goal.returns
returns g c program size run before after failed load writes came_back good is =
    let legal = legal_of g.C.Core.set program size run (before ++ (failed ∷ after)) good (c.good_records_are_legal.ensures.legal program size run good.is_record good.threads good.good) in
    told_first program size before failed load writes came_back (legal_front program size before (failed ∷ after) legal) is
