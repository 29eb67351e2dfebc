use Rattle.std.proofs.Common.{◌≡◌, ◌∷◌, ◌++◌, [], sym, ap, subst, ◌∙◌, append-nil}
use Rattle.std.proofs.lemmas.List.{with_items_is}
use Rattle.run_explainer.specs.Attempts.{attempt_in, attempts_of}
use Rattle.run_explainer.specs.Explaining.{HasTallied, Knows}
use Rattle.run_explainer.proofs.Counting.{attempts_more, no_outcome}
use Rattle.run_explainer.proofs.explainer.Explainer.take_in.Goals as goal

pub returns-clause-seen : goal.returns-clause-seen
returns-clause-seen c seen has =
    let granule = c.args.self.now.granule in
    let event = c.args.event.now in
    let attempts : attempts_of granule seen ≡ attempts_of granule (seen ++ event ∷ []) =
    sym (attempts_more granule seen event ∙ ap (λ o. attempts_of granule seen ++ attempt_in event o) (no_outcome granule seen event c.requires.other) ∙ append-nil (attempts_of granule seen)) in
    let tallied = subst (HasTallied c.args.self.now) attempts has.tallied in
    record {
      reservations =
          subst (λ r. Knows granule r (seen ++ event ∷ [])) (sym (with_items_is c.args.self.now.reservations c.see.new.reservations (c.see.ensures.length ∙ c.deref_mut.ensures.len)))
          (c.see.ensures.seen seen (subst (λ r. Knows granule r seen) (sym c.deref_mut.ensures.value) has.reservations));
      tallied = record { tallies = tallied.tallies; all = tallied.all };
    }
