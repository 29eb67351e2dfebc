-- The Fail, what stands before it, and whether the thread was undisturbed by that.
use Rattle.std.proofs.Common.{◌≡◌, false, true, [], ◌∷◌, inl, inr, refl, subst, sym}
use Rattle.llsc_base.specs.Memory.{class_of, row_of}
use Rattle.history.specs.Worked.{next_row, small_machine, word}
use Rattle.history.specs.declared.entry.Cause.TheVariants.{Absent, Lost}
use Rattle.history.specs.declared.entry.Entry.TheVariants.{Begin, Fail, Watch}
use Rattle.history.proofs.SmallMemory.{apart}
use Rattle.shared_memory.proofs.SmallHistories.{at_one, at_three, at_two, not_behind_all}
use Rattle.hst_memory.specs.Exact.{IsUndisturbed}
use Rattle.hst_memory.proofs.worked.store_exclusives_that_failed.Goals as goal

pub returns-clause-absent : goal.returns-clause-absent
unfolding class_of row_of
returns-clause-absent c = record {
  past = [];
  entry = Fail 0 word 9 Absent;
  later = Watch 0 word ∷ [];
  are = refl;
  since = ([], refl);
  decides = (Absent, refl);
  succeeds = λ undisturbed. let none = undisturbed.reserved in absurd (let f : ⊥ = cc in f);
  succeeded = λ done. absurd (let f : ⊥ = cc in f);
}

pub returns-clause-own_store : goal.returns-clause-own_store
unfolding class_of row_of
returns-clause-own_store c = record {
  past = Watch 0 word ∷ Begin 0 next_row ∷ [];
  entry = Fail 0 word 9 Absent;
  later = [];
  are = refl;
  since = ([], refl);
  decides = (Absent, refl);
  succeeds = λ undisturbed. let none = undisturbed.reserved in absurd (let f : ⊥ = cc in f);
  succeeded = λ done. absurd (let f : ⊥ = cc in f);
}

pub returns-clause-written : goal.returns-clause-written
unfolding class_of row_of
returns-clause-written c = record {
  past = Watch 0 word ∷ Begin 1 next_row ∷ [];
  entry = Fail 0 word 9 Lost;
  later = [];
  are = refl;
  since = (Begin 1 next_row ∷ [], refl);
  decides = (Lost, refl);
  succeeds = λ undisturbed. let begun : true ≡ false = undisturbed.quiet in absurd (let f : ⊥ = cc in f);
  succeeded = λ done. absurd (let f : ⊥ = cc in f);
}

pub returns-clause-reserved_by_another : goal.returns-clause-reserved_by_another
unfolding class_of row_of
returns-clause-reserved_by_another c = record {
  past = Watch 0 word ∷ Watch 1 next_row ∷ [];
  entry = Fail 0 word 9 Lost;
  later = [];
  are = refl;
  since = (Watch 1 next_row ∷ [], refl);
  decides = (Lost, refl);
  succeeds = λ undisturbed. let begun : true ≡ false = undisturbed.quiet in absurd (let f : ⊥ = cc in f);
  succeeded = λ done. absurd (let f : ⊥ = cc in f);
}

pub returns-clause-undisturbed : goal.returns-clause-undisturbed
unfolding class_of row_of
returns-clause-undisturbed c = λ exact. elim (at_two _ _ _ _ _ exact.are) [
  | inl at ↦ let wrong = at.1 in let is = exact.decides.1 in cc
  | inr at ↦
      let wrong : false ≡ true = exact.succeeds (subst (λ past. IsUndisturbed (small_machine 1) 0 word past) (sym at.0) (record { reserved = refl; quiet = refl })) in cc
]

pub returns-clause-written_elsewhere : goal.returns-clause-written_elsewhere
unfolding class_of row_of
returns-clause-written_elsewhere c = λ exact. elim (at_three _ _ _ _ _ _ exact.are) [
  | inl at ↦ let wrong = at.1 in let is = exact.decides.1 in cc
  | inr (inl at) ↦ let wrong = at.1 in let is = exact.decides.1 in cc
  | inr (inr at) ↦
      let wrong : false ≡ true = exact.succeeds (subst (λ past. IsUndisturbed (small_machine 4096) 0 word past) (sym at.0) (record { reserved = refl; quiet = refl })) in cc
]

pub returns-clause-another_value : goal.returns-clause-another_value
returns-clause-another_value c = λ exact. let at = (at_one _ _ _ _ exact.are).1 in let is = exact.decides.1 in apart 8 9 refl cc

pub returns-clause-of_another : goal.returns-clause-of_another
returns-clause-of_another c = λ exact. let at = (at_one _ _ _ _ exact.are).1 in let is = exact.decides.1 in apart 1 0 refl cc

pub returns-clause-seen_before : goal.returns-clause-seen_before
returns-clause-seen_before c = λ exact. not_behind_all _ _ _ _ exact.since exact.are
