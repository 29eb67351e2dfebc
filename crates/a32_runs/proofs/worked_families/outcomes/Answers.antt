use Rattle.std.proofs.Common.{◌≡◌, ℕ, List, [], ◌∷◌, sym, arith}
use Rattle.a32_runs.proofs.SmallFamilies.{of_one, of_two}
use Rattle.a32_runs.proofs.worked_families.outcomes.Goals as goal

-- two lists are one only with one first number
same_first : (x y : ℕ) (xs ys : List ℕ) → x ∷ xs ≡ y ∷ ys → x ≡ y
same_first x y xs ys same = cc

pub returns-clause-of_one : goal.returns-clause-of_one
returns-clause-of_one c = of_one

pub returns-clause-of_two : goal.returns-clause-of_two
returns-clause-of_two c = of_two

-- two numbers aren't one
longer : (x y : ℕ) → x ∷ y ∷ [] ≡ x ∷ [] → ⊥
longer x y same = cc

pub returns-clause-not_begun : goal.returns-clause-not_begun
returns-clause-not_begun c = λ outcome. longer 0 1 outcome.ends.threads

pub returns-clause-one_missing : goal.returns-clause-one_missing
returns-clause-one_missing c = λ outcome. longer 0 1 (sym outcome.ends.threads)

pub returns-clause-exchanged : goal.returns-clause-exchanged
returns-clause-exchanged c = λ outcome.
    let wrong : 1 ≡ 0 = same_first 1 0 (0 ∷ []) (1 ∷ []) outcome.ends.threads in absurd (omega (arith, wrong))
