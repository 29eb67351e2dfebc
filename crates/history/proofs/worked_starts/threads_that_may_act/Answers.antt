use Rattle.std.proofs.Common.{[], ◌∷◌, inl, inr, refl, lit<, lit≤}
use Rattle.history.specs.declared.entry.Entry.TheVariants.{Start}
use Rattle.history.proofs.Born.{may-not_act}
use Rattle.history.proofs.worked_starts.threads_that_may_act.Goals as goal

pub returns-clause-first : goal.returns-clause-first
returns-clause-first c = inl (lit< tt)

pub returns-clause-started : goal.returns-clause-started
returns-clause-started c = inr refl

pub returns-clause-not_started : goal.returns-clause-not_started
returns-clause-not_started c = may-not_act 1 1 [] (lit≤ tt) refl

pub returns-clause-another_started : goal.returns-clause-another_started
returns-clause-another_started c = may-not_act 1 1 (Start 0 2 4096 7 ∷ []) (lit≤ tt) refl
