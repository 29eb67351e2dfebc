-- Decimal texts of the numbers of worked words.
use Rattle.std.proofs.Common.{◌≡◌, ◌++◌, ◌∷◌, [], List, ℕ, arith, ap, ◌∙◌, codes}
use Rattle.std.specs.Fmt.{decimal}
use Rattle.number_text.proofs.Decimals.{decimal_digit, decimal_step}

pub shows_0 : decimal 0 ≡ codes "0"
shows_0 = decimal_digit 0 (omega arith)

pub shows_1 : decimal 1 ≡ codes "1"
shows_1 = decimal_digit 1 (omega arith)

shows_2 : decimal 2 ≡ codes "2"
shows_2 = decimal_digit 2 (omega arith)

pub shows_3 : decimal 3 ≡ codes "3"
shows_3 = decimal_digit 3 (omega arith)

pub shows_4 : decimal 4 ≡ codes "4"
shows_4 = decimal_digit 4 (omega arith)

pub shows_8 : decimal 8 ≡ codes "8"
shows_8 = decimal_digit 8 (omega arith)

pub shows_15 : decimal 15 ≡ codes "15"
shows_15 = decimal_step 15 (omega arith) (omega arith) ∙ ap (λ (text : List ℕ). text ++ 53 ∷ []) shows_1

pub shows_18 : decimal 18 ≡ codes "18"
shows_18 = decimal_step 18 (omega arith) (omega arith) ∙ ap (λ (text : List ℕ). text ++ 56 ∷ []) shows_1

pub shows_25 : decimal 25 ≡ codes "25"
shows_25 = decimal_step 25 (omega arith) (omega arith) ∙ ap (λ (text : List ℕ). text ++ 53 ∷ []) shows_2

shows_26 : decimal 26 ≡ codes "26"
shows_26 = decimal_step 26 (omega arith) (omega arith) ∙ ap (λ (text : List ℕ). text ++ 54 ∷ []) shows_2

pub shows_28 : decimal 28 ≡ codes "28"
shows_28 = decimal_step 28 (omega arith) (omega arith) ∙ ap (λ (text : List ℕ). text ++ 56 ∷ []) shows_2

pub shows_30 : decimal 30 ≡ codes "30"
shows_30 = decimal_step 30 (omega arith) (omega arith) ∙ ap (λ (text : List ℕ). text ++ 48 ∷ []) shows_3

pub shows_32 : decimal 32 ≡ codes "32"
shows_32 = decimal_step 32 (omega arith) (omega arith) ∙ ap (λ (text : List ℕ). text ++ 50 ∷ []) shows_3

shows_81 : decimal 81 ≡ codes "81"
shows_81 = decimal_step 81 (omega arith) (omega arith) ∙ ap (λ (text : List ℕ). text ++ 49 ∷ []) shows_8

pub shows_260 : decimal 260 ≡ codes "260"
shows_260 = decimal_step 260 (omega arith) (omega arith) ∙ ap (λ (text : List ℕ). text ++ 48 ∷ []) shows_26

shows_261 : decimal 261 ≡ codes "261"
shows_261 = decimal_step 261 (omega arith) (omega arith) ∙ ap (λ (text : List ℕ). text ++ 49 ∷ []) shows_26

shows_819 : decimal 819 ≡ codes "819"
shows_819 = decimal_step 819 (omega arith) (omega arith) ∙ ap (λ (text : List ℕ). text ++ 57 ∷ []) shows_81

shows_2612 : decimal 2612 ≡ codes "2612"
shows_2612 = decimal_step 2612 (omega arith) (omega arith) ∙ ap (λ (text : List ℕ). text ++ 50 ∷ []) shows_261

pub shows_8192 : decimal 8192 ≡ codes "8192"
shows_8192 = decimal_step 8192 (omega arith) (omega arith) ∙ ap (λ (text : List ℕ). text ++ 50 ∷ []) shows_819

pub shows_26125 : decimal 26125 ≡ codes "26125"
shows_26125 = decimal_step 26125 (omega arith) (omega arith) ∙ ap (λ (text : List ℕ). text ++ 53 ∷ []) shows_2612
