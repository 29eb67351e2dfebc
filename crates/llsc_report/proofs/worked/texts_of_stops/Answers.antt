-- The numbers in decimal, digit by digit.
use Rattle.std.proofs.Common.{ℕ, List, [], ◌∷◌, ◌++◌, ◌∙◌, ap, arith, codes}
use Rattle.number_text.proofs.Decimals.{decimal_digit, decimal_step}
use Rattle.llsc_report.proofs.worked.texts_of_stops.Goals as goal

pub returns-clause-exit : goal.returns-clause-exit
returns-clause-exit c = ap (λ (text : List ℕ). codes "exit " ++ text) (decimal_digit 7 (omega arith))

pub returns-clause-budget : goal.returns-clause-budget
returns-clause-budget c =
    ap (λ (text : List ℕ). codes "budget " ++ text)
    (decimal_step 42 (omega arith) (omega arith) ∙ ap (λ (text : List ℕ). text ++ 50 ∷ []) (decimal_digit 4 (omega arith)))
