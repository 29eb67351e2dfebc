-- The handle before and after a store; and which refusals leave it as it was.
use Rattle.std.proofs.Common.{rules, inl, inr, ap, sym, ◌∙◌}
use Rattle.llsc_c.specs.Answers.{misuse_answer}
use Rattle.llsc_c.proofs.Cases.{misuse-busy, misuse-not_done, misuse-spent}
use Rattle.llsc_c.proofs.plain.llsc_store_now.Goals as goal

pub returns-in-Ok-clause-stored : goal.returns-in-Ok-clause-stored
returns-in-Ok-clause-stored c z = record { from = c.deref_mut.result.now; to = c.store.new.self; was = search rules; is = search rules; alike = search rules; does = search rules }

pub returns-in-Err-clause-stored : goal.returns-in-Err-clause-stored
returns-in-Err-clause-stored c z = absurd (misuse-not_done c.in-Err.misuse (sym c.answer_to.ensures ∙ z))

pub returns-in-Err-clause-busy : goal.returns-in-Err-clause-busy
returns-in-Err-clause-busy c z =
    let met = c.in-Err.ensures.busy (misuse-busy c.in-Err.misuse (sym c.answer_to.ensures ∙ z)) in
    record { from = c.deref_mut.result.now; to = c.store.new.self; was = search rules; is = search rules; alike = search rules; does = met }

pub returns-in-Err-clause-spent : goal.returns-in-Err-clause-spent
returns-in-Err-clause-spent c z =
    let found = c.in-Err.ensures.spent (misuse-spent c.in-Err.misuse (sym c.answer_to.ensures ∙ z)) in
    record { from = c.deref_mut.result.now; to = c.store.new.self; was = search rules; is = search rules; alike = search rules; does = found }

pub returns-in-Err-clause-kept : goal.returns-in-Err-clause-kept
returns-in-Err-clause-kept c done busy spent = elim c.in-Err.ensures.fault [
  | inl stands ↦ (let same = c.store.ensures.refused (λ none. cc) in search rules)
  | inr refused ↦ elim refused.why [
    | inl is ↦ absurd (busy (c.answer_to.ensures ∙ ap misuse_answer is))
    | inr is ↦ absurd (spent (c.answer_to.ensures ∙ ap misuse_answer is))
  ]
]
