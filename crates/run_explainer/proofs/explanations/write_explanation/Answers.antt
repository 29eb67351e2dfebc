use Rattle.std.proofs.Common.{◌≡◌, ◌<◌, ◌≤◌, ◌/◌, All, [], ◌++◌, codes, length, sym, ap, subst, ◌∙◌, arith}
use Rattle.history.specs.declared.entry.Access.{Access}
use Rattle.llsc_host.specs.Writes.{Broke, Writes}
use Rattle.llsc_host.proofs.Kept.{broke_first, stopped}
use Rattle.llsc_texts.specs.Paging.{Holds}
use Rattle.llsc_texts.proofs.Paging.{holds_written}
use Rattle.run_explainer.specs.Attempts.{attempts_of, tally_of}
use Rattle.run_explainer.specs.Events.{events_of}
use Rattle.run_explainer.specs.Explaining.{AreTallies}
use Rattle.run_explainer.specs.Text.{attempts_text, instructions_text, tally_text}
use Rattle.run_explainer.specs.inner.Texts.{failures_text}
use Rattle.run_explainer.proofs.Made.{events_few, events_known}
use Rattle.run_explainer.proofs.Paged.{broke_last_part, broke_second_part, holds_all, holds_two}
use Rattle.run_explainer.proofs.explanations.write_explanation.Goals as goal

pub add_failures-requires-clause-few : goal.add_failures-requires-clause-few
add_failures-requires-clause-few g c =
    let few = events_few 0 c.as_slice.result.now (c.as_slice-2).result.now in
    subst (λ e. length e ≤ 1000000) (sym c.new-events.ensures)
    (omega (arith, few, ap length c.as_slice.ensures, c.explanation.invariant.0.few))

pub add_failures-requires-clause-threads : goal.add_failures-requires-clause-threads
add_failures-requires-clause-threads g c =
    let threads = length c.explanation.inside.explainer.reservations.items in
    subst (All (λ event. event.access.thread < threads)) (sym c.new-events.ensures)
    (events_known threads 0 c.as_slice.result.now (c.as_slice-2).result.now
    (subst (All (λ (access : Access). access.thread < threads)) (sym c.as_slice.ensures) c.explanation.invariant.0.threads))

pub returns-in_err-add_failures : goal.returns-in_err-add_failures
returns-in_err-add_failures g c =
    let H = g.H.Host in
    let start = c.args.host.now in
    let image = c.explanation.inside.shown in
    let e = c.explanation.inside.explainer in
    let events = c.new-events.result in
    let attempts = attempts_of e.granule events in
    let failures = failures_text e.granule image events in
    let instructions = instructions_text image attempts (length image.bytes / 4) in
    let all = codes "all" ++ tally_text (tally_of attempts) in
    let events_are : events ≡ events_of c.explanation.inside.accesses c.explanation.inside.sightings =
    c.new-events.ensures ∙ ap (λ a. events_of a (c.as_slice-2).result.now) c.as_slice.ensures ∙ ap (events_of c.explanation.inside.accesses) (c.as_slice-2).ensures.sightings in
    let whole : failures ++ (instructions ++ all) ≡ c.args.explanation = ap (λ l. attempts_text image (attempts_of e.granule l)) events_are ∙ c.explanation.view_is in
    let last = c.add_failures.new.host in
    stopped H start last c.args.explanation c.from_residual.result _ c.from_residual.ensures.1
    (subst (Broke H start last) whole
    (broke_first H start last failures (instructions ++ all) (subst (λ p. Broke H start last (p ++ failures)) c.explanation.invariant.1 c.in_err-add_failures.ensures.text)))

pub returns-in_err-add_instructions : goal.returns-in_err-add_instructions
returns-in_err-add_instructions g c =
    let H = g.H.Host in
    let start = c.args.host.now in
    let image = c.explanation.inside.shown in
    let e = c.explanation.inside.explainer in
    let events = c.new-events.result in
    let attempts = attempts_of e.granule events in
    let failures = failures_text e.granule image events in
    let instructions = instructions_text image attempts (length image.bytes / 4) in
    let all = codes "all" ++ tally_text (tally_of attempts) in
    let events_are : events ≡ events_of c.explanation.inside.accesses c.explanation.inside.sightings =
    c.new-events.ensures ∙ ap (λ a. events_of a (c.as_slice-2).result.now) c.as_slice.ensures ∙ ap (events_of c.explanation.inside.accesses) (c.as_slice-2).ensures.sightings in
    let whole : failures ++ (instructions ++ all) ≡ c.args.explanation = ap (λ l. attempts_text image (attempts_of e.granule l)) events_are ∙ c.explanation.view_is in
    let one = c.add_failures.new.host in
    let page = c.add_failures.new.page in
    let new = c.add_failures.new.explainer in
    let held : Holds H start one page failures = subst (λ p. Holds H start one page (p ++ failures)) c.explanation.invariant.1 c.in_ok-add_failures.ensures.text in
    let has = c.in_ok-add_failures.ensures.seen in
    let granules : new.granule ≡ e.granule = c.in_ok-add_failures.ensures.granule in
    let tallies : AreTallies c.tallies.result.now attempts =
    subst (λ t. AreTallies t attempts) (sym c.tallies.ensures) (subst (λ n. AreTallies new.tallies.items (attempts_of n events)) granules has.tallied.tallies) in
    let words : length c.tallies.result.now ≡ length image.bytes / 4 = ap length c.tallies.ensures ∙ c.in_ok-add_failures.ensures.words ∙ c.explanation.invariant.0.words in
    let last = c.add_instructions.new.host in
    stopped H start last c.args.explanation c.from_residual-in_err-add_instructions.result _ c.from_residual-in_err-add_instructions.ensures.1
    (subst (Broke H start last) whole
    (broke_second_part H start one last last page [] failures instructions all held
    (subst (λ n. Broke H one last (page ++ instructions_text image attempts n)) words
    (subst (λ p. Broke H one last (page ++ instructions_text p attempts (length c.tallies.result.now))) c.in_ok-add_failures.ensures.program (c.in_err-add_instructions.ensures.text attempts tallies)))))

pub returns-in_err-add_all : goal.returns-in_err-add_all
returns-in_err-add_all g c =
    let H = g.H.Host in
    let start = c.args.host.now in
    let image = c.explanation.inside.shown in
    let e = c.explanation.inside.explainer in
    let events = c.new-events.result in
    let attempts = attempts_of e.granule events in
    let failures = failures_text e.granule image events in
    let instructions = instructions_text image attempts (length image.bytes / 4) in
    let all = codes "all" ++ tally_text (tally_of attempts) in
    let events_are : events ≡ events_of c.explanation.inside.accesses c.explanation.inside.sightings =
    c.new-events.ensures ∙ ap (λ a. events_of a (c.as_slice-2).result.now) c.as_slice.ensures ∙ ap (events_of c.explanation.inside.accesses) (c.as_slice-2).ensures.sightings in
    let whole : failures ++ (instructions ++ all) ≡ c.args.explanation = ap (λ l. attempts_text image (attempts_of e.granule l)) events_are ∙ c.explanation.view_is in
    let one = c.add_failures.new.host in
    let page = c.add_failures.new.page in
    let new = c.add_failures.new.explainer in
    let held : Holds H start one page failures = subst (λ p. Holds H start one page (p ++ failures)) c.explanation.invariant.1 c.in_ok-add_failures.ensures.text in
    let has = c.in_ok-add_failures.ensures.seen in
    let granules : new.granule ≡ e.granule = c.in_ok-add_failures.ensures.granule in
    let tallies : AreTallies c.tallies.result.now attempts =
    subst (λ t. AreTallies t attempts) (sym c.tallies.ensures) (subst (λ n. AreTallies new.tallies.items (attempts_of n events)) granules has.tallied.tallies) in
    let words : length c.tallies.result.now ≡ length image.bytes / 4 = ap length c.tallies.ensures ∙ c.in_ok-add_failures.ensures.words ∙ c.explanation.invariant.0.words in
    let two = c.add_instructions.new.host in
    let next = c.add_instructions.new.page in
    let more : Holds H one two next (page ++ instructions) =
    subst (λ n. Holds H one two next (page ++ instructions_text image attempts n)) words
    (subst (λ p. Holds H one two next (page ++ instructions_text p attempts (length c.tallies.result.now))) c.in_ok-add_failures.ensures.program (c.in_ok-add_instructions.ensures.text attempts tallies)) in
    let both : Holds H start two next (failures ++ instructions) = holds_two H start one two two page next failures instructions all held more in
    let tally : c.all.result.now ≡ tally_of attempts = c.all.ensures ∙ has.tallied.all ∙ ap (λ n. tally_of (attempts_of n events)) granules in
    let last = c.add_all.new.host in
    stopped H start last c.args.explanation c.from_residual-in_err-add_all.result _ c.from_residual-in_err-add_all.ensures.1
    (subst (Broke H start last) whole
    (broke_last_part H start one two last page next failures instructions all both
    (subst (λ t. Broke H two last (next ++ (codes "all" ++ tally_text t))) tally c.in_err-add_all.ensures)))

pub returns : goal.returns
returns g c =
    let H = g.H.Host in
    let start = c.args.host.now in
    let image = c.explanation.inside.shown in
    let e = c.explanation.inside.explainer in
    let events = c.new-events.result in
    let attempts = attempts_of e.granule events in
    let failures = failures_text e.granule image events in
    let instructions = instructions_text image attempts (length image.bytes / 4) in
    let all = codes "all" ++ tally_text (tally_of attempts) in
    let events_are : events ≡ events_of c.explanation.inside.accesses c.explanation.inside.sightings =
    c.new-events.ensures ∙ ap (λ a. events_of a (c.as_slice-2).result.now) c.as_slice.ensures ∙ ap (events_of c.explanation.inside.accesses) (c.as_slice-2).ensures.sightings in
    let whole : failures ++ (instructions ++ all) ≡ c.args.explanation = ap (λ l. attempts_text image (attempts_of e.granule l)) events_are ∙ c.explanation.view_is in
    let one = c.add_failures.new.host in
    let page = c.add_failures.new.page in
    let new = c.add_failures.new.explainer in
    let held : Holds H start one page failures = subst (λ p. Holds H start one page (p ++ failures)) c.explanation.invariant.1 c.in_ok-add_failures.ensures.text in
    let has = c.in_ok-add_failures.ensures.seen in
    let granules : new.granule ≡ e.granule = c.in_ok-add_failures.ensures.granule in
    let tallies : AreTallies c.tallies.result.now attempts =
    subst (λ t. AreTallies t attempts) (sym c.tallies.ensures) (subst (λ n. AreTallies new.tallies.items (attempts_of n events)) granules has.tallied.tallies) in
    let words : length c.tallies.result.now ≡ length image.bytes / 4 = ap length c.tallies.ensures ∙ c.in_ok-add_failures.ensures.words ∙ c.explanation.invariant.0.words in
    let two = c.add_instructions.new.host in
    let next = c.add_instructions.new.page in
    let more : Holds H one two next (page ++ instructions) =
    subst (λ n. Holds H one two next (page ++ instructions_text image attempts n)) words
    (subst (λ p. Holds H one two next (page ++ instructions_text p attempts (length c.tallies.result.now))) c.in_ok-add_failures.ensures.program (c.in_ok-add_instructions.ensures.text attempts tallies)) in
    let both : Holds H start two next (failures ++ instructions) = holds_two H start one two two page next failures instructions all held more in
    let tally : c.all.result.now ≡ tally_of attempts = c.all.ensures ∙ has.tallied.all ∙ ap (λ n. tally_of (attempts_of n events)) granules in
    let three = c.add_all.new.host in
    let end = c.add_all.new.page in
    let held_all : Holds H start three end c.args.explanation =
    subst (Holds H start three end) whole
    (holds_all H start one two three page next failures instructions all end both
    (subst (λ t. Holds H two three end (next ++ (codes "all" ++ tally_text t))) tally c.in_ok-add_all.ensures)) in
    holds_written H start three c.write.new.host end c.args.explanation c.write.result held_all
    (subst (λ t. Writes H three c.write.new.host t c.write.result) c.bytes.ensures.text c.write.ensures)
