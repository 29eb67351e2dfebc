use Rattle.std.proofs.Common.{◌++◌}
use Rattle.run_explainer.proofs.Marked.{legal_front, mark_is}
use Rattle.run_explainer.proofs.Told.{legal_of}
use Rattle.run_explainer.proofs.laws.reservations_are_marks.Goals as goal

pub returns : goal.returns
returns g c program size run before after thread good =
    let legal = legal_of g.C.Core.set program size run (before ++ after) good (c.good_records_are_legal.ensures.legal program size run good.is_record good.threads good.good) in
    mark_is program size thread before (legal_front program size before after legal)
