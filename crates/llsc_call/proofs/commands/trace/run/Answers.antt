use Rattle.std.proofs.Common.{inl, inr, refl, codes, Some, ap, ◌∙◌}
use Rattle.llsc_call.specs.inner.Outcome.{refused_by}
use Rattle.llsc_call.specs.Trace.{Traces}
use Rattle.llsc_call.proofs.Outcomes.{gives_refused}
use Rattle.llsc_call.proofs.Statuses.{all_done}
use Rattle.llsc_call.proofs.commands.trace.run.Goals as goal

pub returns-in-Err : goal.returns-in-Err
returns-in-Err c =
    let named = c.refuse_trace.ensures.named in
    elim c.in-Err.ensures.fault [
      | inl long ↦
          gives_refused (Traces c.args.image.now c.args.size.now c.args.seed c.args.budget) (Some (codes "TooLong")) c.from.result c.refuse_trace.result c.from.ensures named (λ name is. inr (long.1, (refl, cc)))
      | inr wanting ↦ inl (c.from.ensures ∙ ap refused_by (c.refuse_trace.ensures.memory wanting))
    ]

pub returns-in-Ok-print_record : goal.returns-in-Ok-print_record
returns-in-Ok-print_record c =
    let traced = c.in-Ok.traced in
    inr (record {
      sayable = tt;
      done = all_done traced.ends.items;
      is = inl (traced.run, traced.ends.items, (c.in-Ok.ensures.run, (c.in-Ok.ensures.ends, (refl, c.in-Ok-print_record.ensures))));
    })
