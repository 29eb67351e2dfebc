-- The handles before and after a split; and, where a box can't be had, that the threads are together again.
use Rattle.std.proofs.Common.{rules, Some, ap, sym, subst, ◌∙◌, ◌-◌, ◌==◌}
use Rattle.std.specs.Arc.{arc_value}
use Rattle.memory_handle.specs.Handles.{IsUnused, handle_seen}
use Rattle.memory_handle.specs.declared.handles.Handle.{Handle}
use Rattle.llsc_c.proofs.Cases.{either-same, misuse-not_done, split-refused, splits-fresh}
use Rattle.llsc_c.proofs.Same.{as_before}
use Rattle.llsc_c.proofs.parts.llsc_split.Goals as goal

pub returns-in-Ok-new-clause-split : goal.returns-in-Ok-new-clause-split
returns-in-Ok-new-clause-split c z =
    let told = c.in-Ok.ensures in
    record {
      from = c.deref_mut.result.now;
      to = c.split.new.self;
      other = c.in-Ok.other;
      was = search rules;
      is = search rules;
      last_is = search rules;
      memory = told.same;
      numbers = (told.last.0, told.last.1, told.rest.0, told.rest.1);
      seen = told.seen;
      fresh = told.fresh;
    }

pub returns-in-Err-clause-split : goal.returns-in-Err-clause-split
returns-in-Err-clause-split c z = absurd (misuse-not_done c.in-Err.misuse (sym c.answer_to.ensures ∙ z))

pub returns-in-Err-clause-wanting : goal.returns-in-Err-clause-wanting
returns-in-Err-clause-wanting c z =
    let same = c.in-Err.ensures.refused in
    as_before _ _ c.deref_mut.result.now c.split.new.self (search rules) (search rules) (record {
      memory = ap (λ (h : Handle). arc_value h.memory) same;
      numbers = (ap (λ (h : Handle). h.first) same, ap (λ (h : Handle). h.upto) same);
      seen = ap handle_seen same;
      fresh = ap (λ (h : Handle). h.fresh) same;
    })

pub returns-in-Err-new-clause-wanting : goal.returns-in-Err-new-clause-wanting
returns-in-Err-new-clause-wanting c z =
    let told = c.in-Ok.ensures in
    let mine = c.deref_mut-in-Err-new.ensures.value in
    let back = c.in-Err-new.ensures.value_returned in
    as_before _ _ c.deref_mut.result.now c.put_back.new.self (search rules) (search rules) (record {
      memory = c.put_back.ensures.memory ∙ ap (λ (h : Handle). arc_value h.memory) mine ∙ told.same.1;
      numbers = (c.put_back.ensures.numbers.0 ∙ ap (λ (h : Handle). h.first) mine ∙ told.rest.0, c.put_back.ensures.numbers.1 ∙ ap (λ (h : Handle). h.upto) back ∙ told.last.1);
      seen = c.put_back.ensures.seen ∙ either-same _ _ _ _ (ap handle_seen mine ∙ told.seen.1) (ap handle_seen back ∙ told.seen.0);
      fresh = c.put_back.ensures.fresh ∙ sym (splits-fresh (c.deref_mut.result.now.upto - c.deref_mut.result.now.first == 1) c.deref_mut.result.now.fresh told.fault);
    })

pub put_back-requires-clause-unused : goal.put_back-requires-clause-unused
put_back-requires-clause-unused c = subst IsUnused (sym c.deref_mut-in-Err-new.ensures.value) c.in-Ok.ensures.unused.1

pub put_back-requires-clause-last : goal.put_back-requires-clause-last
put_back-requires-clause-last c = subst IsUnused (sym c.in-Err-new.ensures.value_returned) c.in-Ok.ensures.unused.0

pub returns-in-Err-clause-answer : goal.returns-in-Err-clause-answer
returns-in-Err-clause-answer c =
    let held = c.in-Some-taken.ensures.handle ∙ ap (λ (h : Handle). Some h) (sym c.deref_mut.ensures.value) in
    split-refused c.deref_mut.result.now c.in-Err.misuse _ held c.in_default.ensures.handle c.answer_to.ensures c.in-Err.ensures.fault
