use Rattle.std.proofs.Common.{◌≡◌, ◌∷◌, ◌++◌, [], Some, sym, ap, subst, ◌∙◌, arith}
use Rattle.std.proofs.lemmas.List.{with_items_is}
use Rattle.run_explainer.specs.Attempts.{attempt_in, attempts_of}
use Rattle.run_explainer.specs.Explaining.{HasTallied, Knows}
use Rattle.run_explainer.proofs.Counting.{attempts_few, attempts_more}
use Rattle.run_explainer.proofs.explainer.Explainer.take_in_attempt.Goals as goal

pub count-requires-clause-few : goal.count-requires-clause-few
count-requires-clause-few c =
    let seen = c.requires.few.0 in
    let few = attempts_few c.args.self.now.granule seen in
    let less = c.requires.few.2 in
    (attempts_of c.args.self.now.granule seen, c.requires.few.1.tallied, omega (arith, few, less))

pub returns-clause-seen : goal.returns-clause-seen
returns-clause-seen c seen has =
    let granule = c.args.self.now.granule in
    let event = c.args.event.now in
    let same : granule ≡ c.count.new.self.granule = sym c.count.ensures.granule in
    let items : c.args.self.now.reservations.items ≡ c.deref_mut.result.now = ap (λ v. v.items) (sym c.count.ensures.reservations) ∙ sym c.deref_mut.ensures.value in
    let attempts : attempts_of granule seen ++ attempt_in event (Some c.outcome-outcome.result) ≡ attempts_of c.count.new.self.granule (seen ++ event ∷ []) =
    ap (λ o. attempts_of granule seen ++ attempt_in event o) (sym (c.outcome-outcome.ensures seen has)) ∙ sym (attempts_more granule seen event) ∙ ap (λ g. attempts_of g (seen ++ event ∷ [])) same in
    let tallied = subst (HasTallied c.count.new.self) attempts (c.count.ensures.tallied (attempts_of granule seen) has.tallied) in
    record {
      reservations =
          subst (λ r. Knows c.count.new.self.granule r (seen ++ event ∷ [])) (sym (with_items_is c.count.new.self.reservations c.see.new.reservations (c.see.ensures.length ∙ c.deref_mut.ensures.len)))
          (c.see.ensures.seen seen (subst (λ g. Knows g c.deref_mut.result.now seen) same (subst (λ r. Knows granule r seen) items has.reservations)));
      tallied = record { tallies = tallied.tallies; all = tallied.all };
    }
