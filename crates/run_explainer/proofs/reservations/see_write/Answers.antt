use Rattle.std.proofs.Common.{◌≡◌, ◌<◌, inl, inr, None, length, set, get_or, refl, sym, ap, subst, ◌∙◌, length-set, arith}
use Rattle.std.proofs.lemmas.Bool.{cases_eq}
use Rattle.std.proofs.lemmas.List.{get_or_default, get_or-set_same, get_or-set_other}
use Rattle.run_explainer.specs.inner.Steps.{CanCount, reservation_after}
use Rattle.run_explainer.proofs.Since.{can_count, reservation_few, reservation_more}
use Rattle.run_explainer.proofs.reservations.see_write.Goals as goal

pub loop-thread-init : goal.loop-thread-init
loop-thread-init c = record {
  long = refl;
  done = λ k other less. absurd (omega (arith, less));
  left = λ k other less. refl;
}

pub take_in-requires-clause-few : goal.take_in-requires-clause-few
take_in-requires-clause-few c =
    let was = c.loop-thread.invariant in
    let thread = c.loop-thread.thread in
    let long = was.long in
    let known : thread < length c.args.reservations.now = omega (arith, long, c.loop-thread-test.true) in
    let seen = c.requires.few.0 in
    subst CanCount (sym (was.left thread None (omega arith) ∙ c.requires.few.1 thread None known)) (can_count _ (length seen) c.requires.few.2 (reservation_few c.args.granule thread seen))

pub loop-thread-preserved : goal.loop-thread-preserved
loop-thread-preserved c =
    let was = c.loop-thread.invariant in
    let thread = c.loop-thread.thread in
    let items = c.loop-thread.reservations in
    let new = c.take_in.new.reservation in
    let long = was.long in
    let inside : thread < length items = omega arith in
    record {
      long = length-set items thread new ∙ was.long;
      done = λ k other less.
          elim (cases_eq k thread) [
            | inl same ↦
                let old : get_or items thread None ≡ get_or c.args.reservations.now thread other = get_or_default items thread None other inside ∙ was.left thread other (omega arith) in
                ap (λ n. get_or (set items thread new) n other) same
                ∙ get_or-set_same items thread new other inside
                ∙ c.take_in.ensures
                ∙ ap (λ r. reservation_after c.args.granule thread r c.args.event.now) old
                ∙ ap (λ n. reservation_after c.args.granule n (get_or c.args.reservations.now n other) c.args.event.now) (sym same)
            | inr apart ↦ get_or-set_other items thread k new other apart ∙ was.done k other (omega (arith, less, apart))
          ];
      left = λ k other less. get_or-set_other items thread k new other (λ same. omega (arith, less, same)) ∙ was.left k other (omega (arith, less));
    }

pub returns-clause-seen : goal.returns-clause-seen
returns-clause-seen c seen knows thread other known =
    let was = c.loop-thread.invariant in
    let long = was.long in
    let inside : thread < length c.args.reservations.now = omega (arith, long, known) in
    was.done thread other (omega (arith, long, known))
    ∙ ap (λ r. reservation_after c.args.granule thread r c.args.event.now) (knows thread other inside)
    ∙ sym (reservation_more c.args.granule thread seen c.args.event.now)
