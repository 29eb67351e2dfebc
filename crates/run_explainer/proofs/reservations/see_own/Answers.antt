use Rattle.std.proofs.Common.{◌<◌, inl, inr, None, [], ◌∷◌, ◌++◌, length, set, get_or, sym, ap, subst, ◌∙◌, length-set, arith}
use Rattle.std.proofs.lemmas.Bool.{cases_eq}
use Rattle.std.proofs.lemmas.List.{get_or-set_other, get_or-set_same}
use Rattle.run_explainer.specs.Reservations.{reservation_of}
use Rattle.run_explainer.specs.inner.Steps.{CanCount, reservation_after}
use Rattle.run_explainer.proofs.Since.{can_count, others_keep, reservation_few, reservation_more}
use Rattle.run_explainer.proofs.reservations.see_own.Goals as goal

pub take_in-requires-clause-few : goal.take_in-requires-clause-few
take_in-requires-clause-few c =
    let thread = c.args.event.now.access.thread in
    let seen = c.requires.few.0 in
    subst CanCount (sym (c.requires.few.1 thread None c.requires.thread)) (can_count _ (length seen) c.requires.few.2 (reservation_few c.args.granule thread seen))

pub returns-clause-seen : goal.returns-clause-seen
returns-clause-seen c seen knows thread other known =
    let granule = c.args.granule in
    let event = c.args.event.now in
    let own = event.access.thread in
    let items = c.args.reservations.now in
    let new = c.take_in.new.reservation in
    let inside : thread < length items = omega (arith, length-set items own new, known) in
    elim (cases_eq thread own) [
      | inl same ↦
          ap (λ n. get_or (set items own new) n other) same
          ∙ get_or-set_same items own new other c.requires.thread
          ∙ c.take_in.ensures
          ∙ ap (λ r. reservation_after granule own r event) (knows own None c.requires.thread)
          ∙ sym (reservation_more granule own seen event)
          ∙ ap (λ n. reservation_of granule n (seen ++ event ∷ [])) (sym same)
      | inr apart ↦
          get_or-set_other items own thread new other apart
          ∙ knows thread other inside
          ∙ sym (reservation_more granule thread seen event ∙ others_keep granule thread _ event (λ same. apart (sym same)) c.requires.harmless)
    ]
