-- The handle of the memory that was made, whose numbers are those that were asked for.
use Rattle.std.proofs.Common.{rules, ◌≡◌, inl, inr, true, length, ap, refl, sym, ◌∙◌}
use Rattle.llsc_base.specs.Sizes.{Numbers, size_fault}
use Rattle.shared_memory.specs.Origin.{Origin}
use Rattle.llsc_c.proofs.Cases.{open-empty}
use Rattle.llsc_c.proofs.opening.llsc_open.Goals as goal

pub returns-clause-opened : goal.returns-clause-opened
returns-clause-opened c z =
    let a = c.args in
    let asked : Numbers = record { mem = length a.bytes.now; threads = a.threads; classes = a.classes; limit = a.limit; granule = a.granule } in
    let same : c.in-Ok-with_granule.size ≡ asked = c.in-Ok-with_granule.ensures.machine.1 ∙ ap (λ (s : Numbers). record s { granule = a.granule }) c.in-Ok.ensures.1 in
    let made : Numbers → Origin = λ s. record { size = s; first = s.threads; spare = 0; bytes = a.bytes.now; spends = true; steady = true } in
    let told = c.in-Ok-open.ensures in
    record {
      handle = c.in-Ok-open.handle;
      is = search rules;
      range = ap size_fault (sym (ap (λ (s : Numbers). record s { granule = a.granule }) c.in-Ok.ensures.1)) ∙ c.in-Ok-with_granule.ensures.kinds;
      sized = refl;
      origin = told.origin ∙ ap made same;
      seen = told.seen;
      fresh = told.fresh;
      all = (told.all.0, told.all.1 ∙ ap (λ (s : Numbers). s.threads) same);
    }

pub returns-in-Some-clause-answer : goal.returns-in-Some-clause-answer
returns-in-Some-clause-answer c = inl (sym (open-empty _ c.args.granule c.in-Ok.ensures.0 c.in-Ok-with_granule.ensures.machine.0 c.in-Some.ensures.handle))

pub returns-in_default-open-clause-answer : goal.returns-in_default-open-clause-answer
returns-in_default-open-clause-answer c = inr (open-empty _ c.args.granule c.in-Ok.ensures.0 c.in-Ok-with_granule.ensures.machine.0 c.in_default-taken.ensures.handle, refl)

pub returns-in_default-new-clause-answer : goal.returns-in_default-new-clause-answer
returns-in_default-new-clause-answer c = inr (open-empty _ c.args.granule c.in-Ok.ensures.0 c.in-Ok-with_granule.ensures.machine.0 c.in_default-taken.ensures.handle, refl)

pub returns-clause-answer : goal.returns-clause-answer
returns-clause-answer c = inl (sym (open-empty _ c.args.granule c.in-Ok.ensures.0 c.in-Ok-with_granule.ensures.machine.0 c.in_default-taken.ensures.handle))
