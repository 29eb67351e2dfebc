use Rattle.std.proofs.Common.{[], ◌∷◌, ◌++◌, sym, subst, append_assoc}
use Rattle.run_explainer.proofs.Marked.{AreLegal, legal_front}
use Rattle.run_explainer.proofs.Told.{legal_of, stored_freely}
use Rattle.run_explainer.proofs.laws.successes_have_no_cause.Goals as goal

pub returns : goal.returns
returns g c program size run before after stored good is =
    let legal = legal_of g.C.Core.set program size run (before ++ (stored ∷ after)) good (c.good_records_are_legal.ensures.legal program size run good.is_record good.threads good.good) in
    stored_freely program size before stored is
    (legal_front program size (before ++ (stored ∷ [])) after (subst (AreLegal program size) (sym (append_assoc before (stored ∷ []) after)) legal))
