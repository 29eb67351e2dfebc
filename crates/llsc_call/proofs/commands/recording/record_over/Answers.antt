use Rattle.std.proofs.Common.{◌≤◌, ◌^◌, inr, length, rules, arith, ap, subst, sym}
use Rattle.llsc_base.specs.Sizes.{Numbers}
use Rattle.history.specs.Legal.{IsLegal}
use Rattle.version_memory.specs.Memory.{memory_origin, pass_seen, story_history}
use Rattle.llsc_call.proofs.RecordAnswers.{accesses_of_merge, closed_record}
use Rattle.llsc_call.proofs.commands.recording.record_over.Goals as goal

pub told-requires-clause-accesses : goal.told-requires-clause-accesses
told-requires-clause-accesses g c =
    let origin = memory_origin c.args.memory in
    let run = c.log_all-run.result in
    let most : origin.size.mem ≤ 16777216 = search rules in
    let small : length origin.bytes ≤ 2 ^ 32 = omega (arith, most, c.requires.whole, ap length c.requires.bytes) in
    accesses_of_merge run.size origin.bytes (pass_seen run.pass) c.merge-merged.result
    (subst (λ (n : Numbers). IsLegal n origin.bytes (pass_seen run.pass)) (sym c.log_all-run.ensures.size) c.log_all-run.ensures.legal.legal)
    small c.merge-merged.ensures.merge c.merge-merged.ensures.form

pub returns : goal.returns
returns g c =
    let origin = memory_origin c.args.memory in
    let run = c.log_all-run.result in
    let closed = c.close-story.ensures in
    inr (closed_record c.args.image.now origin run.size c.args.budget (pass_seen run.pass) (story_history c.close-story.result.1) run.ends.items c.merge-merged.result c.in-Some.outcome
    c.log_all-run.ensures.size closed.story c.requires.bytes c.requires.first c.requires.spare closed.legal closed.complete
    (record { few = closed.few c.requires.spends; steady = closed.steady c.requires.steady }) c.log_all-run.ensures.ends
    c.merge-merged.ensures.merge c.merge-merged.ensures.few c.merge-merged.ensures.long c.in-Some.ensures)
