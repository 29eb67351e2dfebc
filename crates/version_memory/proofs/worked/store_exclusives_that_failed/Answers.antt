-- The Fail, what stands before it, and whether the thread was undisturbed or overtaken by that.
use Rattle.std.proofs.Common.{◌≡◌, ◌<◌, false, true, None, Some, [], ◌∷◌, arith, inl, inr, lit<, refl, subst, sym}
use Rattle.llsc_base.specs.Memory.{class_of, row_of}
use Rattle.history.specs.Worked.{next_row, word}
use Rattle.history.specs.declared.entry.Cause.TheVariants.{Absent, Limit, Lost}
use Rattle.history.specs.declared.entry.Entry.TheVariants.{Begin, Watch, Write}
use Rattle.history.proofs.SmallMemory.{apart}
use Rattle.shared_memory.proofs.SmallHistories.{at_one, at_three, at_two, not_behind_all}
use Rattle.version_rule.specs.Exact.{IsOvertaken, IsUndisturbed}
use Rattle.shared_memory.specs.Worked.{limited_machine}
use Rattle.version_memory.proofs.worked.store_exclusives_that_failed.Goals as goal

pub returns-clause-absent : goal.returns-clause-absent
unfolding class_of row_of
returns-clause-absent c = record {
  cause = Absent;
  exact = record { past = []; later = []; are = refl; since = ([], refl); fact = λ undisturbed. let none : None ≡ Some 1 = undisturbed.reserved in cc };
  steady = λ is. absurd (let f : ⊥ = cc in f);
}

pub returns-clause-lost : goal.returns-clause-lost
unfolding class_of row_of
returns-clause-lost c = record {
  cause = Lost;
  exact = record {
    past = Watch 0 word ∷ Begin 1 next_row ∷ [];
    later = [];
    are = refl;
    since = (Begin 1 next_row ∷ [], refl);
    fact = λ undisturbed. let begun : true ≡ false = undisturbed.quiet in cc;
  };
  steady = λ _. record {
    past = Watch 0 word ∷ Begin 1 next_row ∷ [];
    later = [];
    are = refl;
    since = (Begin 1 next_row ∷ [], refl);
    fact = record { reserved = refl; begun = refl };
  };
}

pub returns-clause-full : goal.returns-clause-full
unfolding class_of row_of
returns-clause-full c = record {
  cause = Limit;
  exact = record {
    past = Write 1 word 5 false ∷ Watch 0 word ∷ [];
    later = [];
    are = refl;
    since = (Watch 0 word ∷ [], refl);
    fact = λ undisturbed. let full : 1 < 1 = undisturbed.room in omega (arith, full);
  };
  steady = λ is. absurd (let f : ⊥ = cc in f);
}

pub returns-clause-undisturbed : goal.returns-clause-undisturbed
unfolding class_of row_of
returns-clause-undisturbed c = λ failed. elim (at_two _ _ _ _ _ failed.exact.are) [
  | inl at ↦ let wrong = at.1 in cc
  | inr at ↦ failed.exact.fact (subst (λ past. IsUndisturbed (limited_machine 1 1) 0 word past) (sym at.0) (record { reserved = refl; quiet = refl; room = lit< tt }))
]

pub returns-clause-not_full : goal.returns-clause-not_full
unfolding class_of row_of
returns-clause-not_full c = λ failed. elim (at_three _ _ _ _ _ _ failed.exact.are) [
  | inl at ↦ let wrong = at.1 in cc
  | inr (inl at) ↦ let wrong = at.1 in cc
  | inr (inr at) ↦ failed.exact.fact (subst (λ past. IsUndisturbed (limited_machine 1 2) 0 word past) (sym at.0) (record { reserved = refl; quiet = refl; room = lit< tt }))
]

pub returns-clause-reserved_by_another : goal.returns-clause-reserved_by_another
unfolding class_of row_of
returns-clause-reserved_by_another c = λ failed. elim (at_three _ _ _ _ _ _ failed.exact.are) [
  | inl at ↦ let wrong = at.1 in cc
  | inr (inl at) ↦ let wrong = at.1 in cc
  | inr (inr at) ↦ failed.exact.fact (subst (λ past. IsUndisturbed (limited_machine 1 1) 0 word past) (sym at.0) (record { reserved = refl; quiet = refl; room = lit< tt }))
]

pub returns-clause-begun_elsewhere : goal.returns-clause-begun_elsewhere
unfolding class_of row_of
returns-clause-begun_elsewhere c = λ failed. elim (at_three _ _ _ _ _ _ failed.exact.are) [
  | inl at ↦ let wrong = at.1 in cc
  | inr (inl at) ↦ let wrong = at.1 in cc
  | inr (inr at) ↦ failed.exact.fact (subst (λ past. IsUndisturbed (limited_machine 4096 1) 0 word past) (sym at.0) (record { reserved = refl; quiet = refl; room = lit< tt }))
]

pub returns-clause-lost_without_a_reservation : goal.returns-clause-lost_without_a_reservation
unfolding class_of row_of
returns-clause-lost_without_a_reservation c = λ failed.
    let is = (at_one _ _ _ _ failed.exact.are).1 in
    let lost : failed.cause ≡ Lost = cc in
    let at = at_one _ _ _ _ (failed.steady lost).are in
    let overtaken = subst (λ past. IsOvertaken (limited_machine 1 1) 0 word past) at.0 (failed.steady lost).fact in
    let none : None ≡ Some 1 = overtaken.reserved in cc

pub returns-clause-another_value : goal.returns-clause-another_value
returns-clause-another_value c = λ failed. let at = (at_one _ _ _ _ failed.exact.are).1 in apart 9 8 refl cc

pub returns-clause-seen_before : goal.returns-clause-seen_before
returns-clause-seen_before c = λ failed. not_behind_all _ _ _ _ failed.exact.since failed.exact.are
