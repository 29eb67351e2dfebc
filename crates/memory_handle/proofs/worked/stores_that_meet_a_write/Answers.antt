use Rattle.std.proofs.Common.{◌≡◌, ◌≢◌, ◌⊎◌, ◌%◌, List, [], ◌∷◌, ◌++◌, inl, inr, refl, subst, sym, false, arith}
use Rattle.llsc_base.specs.Memory.{class_of, row_of}
use Rattle.history.specs.Class.{edges_of}
use Rattle.history.specs.Worked.{next_row, word}
use Rattle.history.specs.declared.entry.Entry.{Entry}
use Rattle.history.specs.declared.entry.Entry.TheVariants.{Begin, End, Write}
use Rattle.shared_memory.specs.Worked.{limited_machine}
use Rattle.memory_handle.proofs.worked.stores_that_meet_a_write.Goals as goal

-- a front of nothing is nothing
nothing : (past rest : List Entry) → [] ≡ past ++ rest → past ≡ []
nothing [] rest same = refl
nothing (entry ∷ past) rest same = absurd (let f : ⊥ = cc in f)

-- nothing is met there
unmet : (past : List Entry) → past ≡ [] → (edges_of (limited_machine 1 2) 1 past % 2 ≡ 1) ⊎ (edges_of (limited_machine 1 2) 1 [] ≢ edges_of (limited_machine 1 2) 1 past) → ⊥
unmet past is (inl odd) = let wrong : 0 ≡ 1 = subst (λ (es : List Entry). edges_of (limited_machine 1 2) 1 es % 2 ≡ 1) is odd in omega (arith, wrong)
unmet past is (inr more) = more (subst (λ (es : List Entry). edges_of (limited_machine 1 2) 1 [] ≡ edges_of (limited_machine 1 2) 1 es) (sym is) refl)

pub returns-clause-in_flight : goal.returns-clause-in_flight
unfolding class_of row_of
returns-clause-in_flight c = record { past = Begin 1 next_row ∷ []; since = ([], refl); until = ([], refl); met = inl refl }

pub returns-clause-begun_since : goal.returns-clause-begun_since
unfolding class_of row_of
returns-clause-begun_since c = record {
  past = [];
  since = ([], refl);
  until = (Begin 1 word ∷ Write 1 word 5 false ∷ End 1 word ∷ [], refl);
  met = inr (λ same. let wrong : 2 ≡ 0 = same in absurd (omega (arith, wrong)));
}

pub returns-clause-none : goal.returns-clause-none
unfolding row_of
returns-clause-none c = λ met. unmet met.past (nothing met.past met.until.0 met.until.1) met.met
