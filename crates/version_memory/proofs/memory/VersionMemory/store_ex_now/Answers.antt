use Rattle.std.proofs.Common.{◌≡◌, ℕ, false, Option, IfSome, None, Some, refl, sym, ◌∙◌}
use Rattle.std.proofs.lemmas.Bool.{OnFalse_from}
use Rattle.std.specs.Bool.{OnTrue}
use Rattle.std.specs.Option.{is_some}
use Rattle.version_memory.proofs.memory.VersionMemory.store_ex_now.Goals as goal

none-of : (result : Option ℕ) → is_some result ≡ false → result ≡ None
none-of None not = refl
none-of (Some stamp) not = absurd (let f : ⊥ = cc in f)

on-some : (A : Type 0) (result : Option ℕ) → IfSome result (λ _. A) → OnTrue (is_some result) A
on-some A None told = tt
on-some A (Some stamp) told = told

pub returns-clause-done : goal.returns-clause-done
returns-clause-done c = rw c.is_some.ensures (on-some _ c.store_ex_stamped.result c.store_ex_stamped.ensures.done)

pub returns-clause-failed : goal.returns-clause-failed
returns-clause-failed c = OnFalse_from c.is_some.result _ (λ not. c.store_ex_stamped.ensures.failed (none-of c.store_ex_stamped.result (sym c.is_some.ensures ∙ not)))

pub returns-clause-exact_done : goal.returns-clause-exact_done
returns-clause-exact_done c = rw c.is_some.ensures (on-some _ c.store_ex_stamped.result c.store_ex_stamped.ensures.exact_done)

pub returns-clause-exact_failed : goal.returns-clause-exact_failed
returns-clause-exact_failed c = OnFalse_from c.is_some.result _ (λ not. c.store_ex_stamped.ensures.exact_failed (none-of c.store_ex_stamped.result (sym c.is_some.ensures ∙ not)))
