use Rattle.std.proofs.Common.{◌<◌, All, [], ◌++◌, length, refl, sym, ap, subst, ◌∙◌, append-nil, arith, length-append}
use Rattle.std.proofs.lemmas.List.Elements.{All-head, All-rest}
use Rattle.llsc_host.specs.Writes.{Broke}
use Rattle.llsc_texts.specs.Paging.{Holds}
use Rattle.llsc_texts.proofs.Paging.{holds_here}
use Rattle.run_explainer.specs.Explaining.{HasSeen}
use Rattle.run_explainer.specs.inner.Texts.{event_text, failures_text}
use Rattle.run_explainer.specs.declared.events.Event.{Event}
use Rattle.run_explainer.proofs.Paged.{amid_all, amid_broke, amid_more, goes_stopped}
use Rattle.run_explainer.proofs.explanations.add_failures.Goals as goal

pub loop-event-init : goal.loop-event-init
loop-event-init g c = record {
  amid = record {
    seen = [];
    parts = refl;
    has = c.requires.start;
    holds = subst (Holds g.H.Host c.args.host.now c.args.host.now c.args.page.now) (sym (append-nil c.args.page.now)) (holds_here g.H.Host c.args.host.now c.args.page.now);
  };
  program = refl;
  granule = refl;
  numbers = refl;
  words = refl;
  threads = c.requires.threads;
}

pub add_event-requires-clause-thread : goal.add_event-requires-clause-thread
add_event-requires-clause-thread g c =
    let was = c.loop-event.invariant in
    let threads = length c.args.explainer.now.reservations.items in
    let head = All-head (λ (event : Event). event.access.thread < threads) c.in-Some.event c.next.new.self (subst (All (λ (event : Event). event.access.thread < threads)) c.in-Some.ensures.some was.threads) in
    subst (λ n. c.in-Some.event.access.thread < n) (sym was.numbers) head

pub add_event-requires-clause-few : goal.add_event-requires-clause-few
add_event-requires-clause-few g c =
    let amid = c.loop-event.invariant.amid in
    let all = ap length amid.parts ∙ length-append amid.seen c.loop-event.events in
    let some = ap length c.in-Some.ensures.some in
    let few = c.requires.few in
    (amid.seen, amid.has, omega (arith, all, some, few))

pub loop-event-preserved : goal.loop-event-preserved
loop-event-preserved g c =
    let was = c.loop-event.invariant in
    let amid = was.amid in
    let event = c.in-Some.event in
    let image = c.args.shown.now in
    let step =
    subst (λ n. Holds g.H.Host c.loop-event.host c.add_event.new.host c.add_event.new.page (c.loop-event.page ++ event_text n image amid.seen event)) was.granule
    (subst (λ p. Holds g.H.Host c.loop-event.host c.add_event.new.host c.add_event.new.page (c.loop-event.page ++ event_text c.loop-event.explainer.granule p amid.seen event)) was.program
    (c.in_ok-add_event.ensures.text amid.seen amid.has)) in
    record {
      amid =
          amid_more g.H.Host c.args.host.now image c.args.explainer.now.granule c.args.page.now c.args.events.now c.loop-event.host c.add_event.new.host c.loop-event.page c.add_event.new.page
          c.loop-event.events c.next.new.self event c.loop-event.explainer c.add_event.new.explainer c.in-Some.ensures.some amid step (c.in_ok-add_event.ensures.seen amid.seen amid.has);
      program = c.in_ok-add_event.ensures.program ∙ was.program;
      granule = c.in_ok-add_event.ensures.granule ∙ was.granule;
      numbers = c.in_ok-add_event.ensures.threads ∙ was.numbers;
      words = c.in_ok-add_event.ensures.words ∙ was.words;
      threads = All-rest (λ (event : Event). event.access.thread < length c.args.explainer.now.reservations.items) event c.next.new.self c.loop-event.events c.in-Some.ensures.some was.threads;
    }

pub returns-in_err-add_event-clause-text : goal.returns-in_err-add_event-clause-text
returns-in_err-add_event-clause-text g c =
    let was = c.loop-event.invariant in
    let amid = was.amid in
    let event = c.in-Some.event in
    let image = c.args.shown.now in
    let granule = c.args.explainer.now.granule in
    let broke =
    subst (λ n. Broke g.H.Host c.loop-event.host c.add_event.new.host (c.loop-event.page ++ event_text n image amid.seen event)) was.granule
    (subst (λ p. Broke g.H.Host c.loop-event.host c.add_event.new.host (c.loop-event.page ++ event_text c.loop-event.explainer.granule p amid.seen event)) was.program
    (c.in_err-add_event.ensures.text amid.seen amid.has)) in
    goes_stopped g.H.Host c.args.host.now c.add_event.new.host c.add_event.new.page (c.args.page.now ++ failures_text granule image c.args.events.now) c.from_residual.result _ c.from_residual.ensures.1
    (amid_broke g.H.Host c.args.host.now image granule c.args.page.now c.args.events.now c.loop-event.host c.add_event.new.host c.loop-event.page c.add_event.new.page
    c.loop-event.events c.next.new.self event c.loop-event.explainer c.in-Some.ensures.some amid broke)

pub returns-clause-text : goal.returns-clause-text
returns-clause-text g c =
    let amid = c.loop-event.invariant.amid in
    let image = c.args.shown.now in
    let granule = c.args.explainer.now.granule in
    let all = amid_all g.H.Host c.args.host.now image granule c.args.page.now c.args.events.now c.loop-event.host c.loop-event.page c.loop-event.events c.loop-event.explainer c.in_default.ensures.none amid in
    subst (λ seen. Holds g.H.Host c.args.host.now c.loop-event.host c.loop-event.page (c.args.page.now ++ failures_text granule image seen)) all amid.holds

pub returns-clause-seen : goal.returns-clause-seen
returns-clause-seen g c =
    let amid = c.loop-event.invariant.amid in
    let all =
    amid_all g.H.Host c.args.host.now c.args.shown.now c.args.explainer.now.granule c.args.page.now c.args.events.now c.loop-event.host c.loop-event.page c.loop-event.events c.loop-event.explainer c.in_default.ensures.none amid in
    subst (HasSeen c.loop-event.explainer) all amid.has
