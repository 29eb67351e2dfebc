-- The Begin, what stands before it, and whether the thread was undisturbed by that.
use Rattle.std.proofs.Common.{◌≡◌, false, true, [], ◌∷◌, ap, inl, inr, refl, subst}
use Rattle.llsc_base.specs.Memory.{class_of, row_of}
use Rattle.llsc_base.specs.declared.access.Place.{Place}
use Rattle.history.specs.Worked.{next_row, small_machine, word}
use Rattle.history.specs.declared.entry.Entry.TheVariants.{Begin, Watch}
use Rattle.history.proofs.SmallMemory.{apart}
use Rattle.shared_memory.proofs.SmallHistories.{at_three, at_two, not_behind_all}
use Rattle.hst_memory.specs.Exact.{IsUndisturbed}
use Rattle.hst_memory.proofs.worked.store_exclusives_that_succeeded.Goals as goal

pub returns-clause-undisturbed : goal.returns-clause-undisturbed
unfolding class_of row_of
returns-clause-undisturbed c = record {
  past = Watch 0 word ∷ [];
  entry = Begin 0 word;
  later = [];
  are = refl;
  since = ([], refl);
  decides = refl;
  succeeds = λ _. refl;
  succeeded = λ _. record { reserved = refl; quiet = refl };
}

pub returns-clause-written_elsewhere : goal.returns-clause-written_elsewhere
unfolding class_of row_of
returns-clause-written_elsewhere c = record {
  past = Watch 0 word ∷ Begin 1 next_row ∷ [];
  entry = Begin 0 word;
  later = [];
  are = refl;
  since = (Begin 1 next_row ∷ [], refl);
  decides = refl;
  succeeds = λ _. refl;
  succeeded = λ _. record { reserved = refl; quiet = refl };
}

pub returns-clause-written_after : goal.returns-clause-written_after
unfolding class_of row_of
returns-clause-written_after c = record {
  past = Watch 0 word ∷ [];
  entry = Begin 0 word;
  later = Begin 1 next_row ∷ [];
  are = refl;
  since = ([], refl);
  decides = refl;
  succeeds = λ _. refl;
  succeeded = λ _. record { reserved = refl; quiet = refl };
}

pub returns-clause-written_before : goal.returns-clause-written_before
unfolding class_of row_of
returns-clause-written_before c = λ exact. elim (at_three _ _ _ _ _ _ exact.are) [
  | inl at ↦ let wrong = at.1 in let is = exact.decides in cc
  | inr (inl at) ↦ let wrong = at.1 in let is = exact.decides in apart 1 0 refl cc
  | inr (inr at) ↦
      let undisturbed = subst (λ past. IsUndisturbed (small_machine 1) 0 word past) at.0 (exact.succeeded refl) in
      let wrong : true ≡ false = undisturbed.quiet in cc
]

pub returns-clause-reserved_by_another : goal.returns-clause-reserved_by_another
unfolding class_of row_of
returns-clause-reserved_by_another c = λ exact. elim (at_three _ _ _ _ _ _ exact.are) [
  | inl at ↦ let wrong = at.1 in let is = exact.decides in cc
  | inr (inl at) ↦ let wrong = at.1 in let is = exact.decides in cc
  | inr (inr at) ↦
      let undisturbed = subst (λ past. IsUndisturbed (small_machine 1) 0 word past) at.0 (exact.succeeded refl) in
      let wrong : true ≡ false = undisturbed.quiet in cc
]

pub returns-clause-of_another : goal.returns-clause-of_another
returns-clause-of_another c = λ exact. elim (at_two _ _ _ _ _ exact.are) [
  | inl at ↦ let wrong = at.1 in let is = exact.decides in cc
  | inr at ↦ let wrong = at.1 in let is = exact.decides in apart 1 0 refl cc
]

pub returns-clause-elsewhere : goal.returns-clause-elsewhere
returns-clause-elsewhere c = λ exact. elim (at_two _ _ _ _ _ exact.are) [
  | inl at ↦ let wrong = at.1 in let is = exact.decides in cc
  | inr at ↦
      let there = at.1 in let is = exact.decides in
      let same : next_row ≡ word = cc in apart 16 8 refl (ap (λ (place : Place). place.addr) same)
]

pub returns-clause-seen_before : goal.returns-clause-seen_before
returns-clause-seen_before c = λ exact. not_behind_all _ _ _ _ exact.since exact.are
