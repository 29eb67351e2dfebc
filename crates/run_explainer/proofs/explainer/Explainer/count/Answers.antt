use Rattle.std.proofs.Common.{◌≡◌, ◌*◌, ◌/◌, ◌<◌, true, false, inl, inr, [], ◌∷◌, ◌++◌, length, set, get_or, sym, ap, subst, ◌∙◌, length-set, arith}
use Rattle.std.proofs.lemmas.Bool.{cases_eq, eq-eqb, ne_eqb}
use Rattle.std.proofs.lemmas.List.{get_or-set_same, get_or-set_other}
use Rattle.run_explainer.specs.Attempts.{attempts_at, tally_of}
use Rattle.run_explainer.specs.inner.Steps.{CanTally, counted}
use Rattle.run_explainer.specs.declared.attempts.Attempt.{Attempt}
use Rattle.run_explainer.proofs.Counting.{at_few, can_tally, tally_at_more, tally_more}
use Rattle.run_explainer.proofs.explainer.Explainer.count.Goals as goal

pub count-requires-then-word-len : goal.count-requires-then-word-len
count-requires-then-word-len c =
    let attempts = c.requires.few.0 in
    let less = c.requires.few.2 in
    let word = c.args.event.now.sighting.pc / 4 in
    let inside : word < length c.args.self.now.tallies.items = omega (arith, c.if-word-len.true, c.len.ensures) in
    let few = at_few (4 * word) attempts in
    subst CanTally (sym (c.index_mut.ensures.value ∙ c.requires.few.1.tallies word c.index_mut.result.now inside)) (can_tally (attempts_at (4 * word) attempts) (omega (arith, few, less)))

pub returns-then-word-len-clause-tallied : goal.returns-then-word-len-clause-tallied
returns-then-word-len-clause-tallied c attempts tallied =
    let pc = c.args.event.now.sighting.pc in
    let at = pc / 4 in
    let items = c.args.self.now.tallies.items in
    let new = c.count-then-word-len.new.self in
    let attempt : Attempt = record { event = c.args.event.now; outcome = c.args.outcome.now } in
    let inside : at < length items = omega (arith, c.if-word-len.true, c.len.ensures) in
    let aligned : pc ≡ 4 * at = omega (arith, c.requires.aligned) in
    record {
      tallies = λ word other known.
          let there : word < length items = subst (λ n. word < n) (length-set items at new) known in
          elim (cases_eq word at) [
            | inl same ↦
                ap (λ k. get_or (set items at new) k other) same
                ∙ get_or-set_same items at new other inside
                ∙ c.count-then-word-len.ensures
                ∙ ap (λ t. counted t c.args.outcome.now) (c.index_mut.ensures.value ∙ tallied.tallies at c.index_mut.result.now inside)
                ∙ sym (tally_at_more (4 * at) attempts attempt true (eq-eqb pc (4 * at) aligned))
                ∙ ap (λ k. tally_of (attempts_at (4 * k) (attempts ++ attempt ∷ []))) (sym same)
            | inr apart ↦
                get_or-set_other items at word new other apart
                ∙ tallied.tallies word other there
                ∙ sym (tally_at_more (4 * word) attempts attempt false (ne_eqb pc (4 * word) (λ same. apart (omega (arith, same, aligned)))))
          ];
      all = c.count.ensures ∙ ap (λ t. counted t c.args.outcome.now) tallied.all ∙ sym (tally_more attempts attempt);
    }
