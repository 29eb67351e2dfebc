-- A text with too few forms has none at a place.
use Rattle.std.proofs.Common.{◌≡◌, ℕ, ◌+◌, ◌-◌, ◌<◌, List, [], ◌∷◌, drop, length, get_or, length-drop, arith, sym, ap, ◌∙◌}
use Rattle.std.proofs.lemmas.List.{get_or-drop, drop_more}
use Rattle.a32_forms.specs.Cuts.{before_code, from_code}
use Rattle.a32_forms.specs.Forms.{forms_in, form_in}
use Rattle.a32_forms.proofs.CutTexts.{split_cut, more_pieces}

-- behind the last form there is none
last_alone : (xs : List (List ℕ)) (i : ℕ) (x : List ℕ) → drop i xs ≡ x ∷ [] → drop (i + 1) xs ≡ []
last_alone xs i x h =
    let many : length xs - i ≡ 1 = sym (length-drop i xs) ∙ ap length h in
    let here : drop i xs ≡ get_or xs i [] ∷ drop (i + 1) xs = drop_more xs i [] (omega arith) in
    let same : get_or xs i [] ∷ drop (i + 1) xs ≡ x ∷ [] = sym here ∙ h in
    cc

pub none_there : (forms left : List ℕ) (i at : ℕ) → drop i (forms_in forms) ≡ forms_in left → from_code 124 left ≡ [] → i < at → form_in forms at ≡ []
none_there forms left i at h end less =
    let none : drop (i + 1) (forms_in forms) ≡ [] =
    last_alone (forms_in forms) i (before_code 124 left) (h ∙ split_cut 124 left ∙ ap (λ (text : List ℕ). before_code 124 left ∷ more_pieces 124 text) end) in
    let place : (i + 1) + (at - (i + 1)) ≡ at = omega arith in
    let beyond : get_or (drop (i + 1) (forms_in forms)) (at - (i + 1)) [] ≡ get_or (forms_in forms) at [] =
    get_or-drop (i + 1) (forms_in forms) (at - (i + 1)) [] ∙ ap (λ (n : ℕ). get_or (forms_in forms) n []) place in
    sym beyond ∙ ap (λ (forms : List (List ℕ)). get_or forms (at - (i + 1)) []) none
