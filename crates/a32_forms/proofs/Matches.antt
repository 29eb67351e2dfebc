-- Forms sign by sign, and the forms of a text one after another.
use Rattle.std.proofs.Common.{◌≡◌, ℕ, ◌+◌, ◌-◌, ◌<◌, ◌≤◌, ◌&&◌, append_assoc, cond, if◌then◌else◌, Bool, true, false, List, [], ◌∷◌, ◌++◌, length, take, drop, get_or, count_by, Option, Some, None, IfSome, refl, sym, ap, subst, ◌∙◌, arith}
use Rattle.std.specs.List.{list_all}
use Rattle.std.proofs.lemmas.List.{at_drop_more, at_drop_all, drop_more, length-append, length-drop, take_all, take_more, take-append-drop}
use Rattle.std.proofs.Math.Seq.{get_or-append_seam}
use Rattle.std.proofs.lemmas.List.Sums.{count_by_more_yes, sum_by-append, sum_by-cons}
use Rattle.std.proofs.lemmas.Bool.{and_parts, leb-true}
use Rattle.a32_forms.specs.Text.{Part, parts}
use Rattle.a32_forms.specs.inner.Fronts.{parts_from}
use Rattle.a32_forms.specs.Cuts.{before_code, from_code}
use Rattle.a32_forms.specs.Forms.{Fields, Took, and_then_takes, chosen_from, form_in, forms_in, or_later, takes, takes_from, takes_sign}
use Rattle.a32_forms.specs.Written.{has_number}
use Rattle.a32_forms.specs.Within.{are_within, are_within_from, has_room, have_room, is_within}
use Rattle.a32_forms.specs.declared.text.Front.{Front}
use Rattle.a32_forms.specs.declared.text.Front.TheVariants as front
use Rattle.a32_forms.proofs.CutTexts.{more_pieces, split_cut}
use Rattle.a32_forms.proofs.Withins.{Leaves, with_one, with_none, sign_leaves}

-- ---- the signs of a form

takes_cons : (sign : ℕ) (form : List ℕ) (fields : Fields) (ps : List Part)
    → takes_from (sign ∷ form) fields ps ≡ and_then_takes (λ so_far. takes_from form so_far.fields so_far.rest) (takes_sign sign fields ps)
unfolding takes_from
takes_cons sign form fields ps = refl

takes_more : (form : List ℕ) (i : ℕ) (fields : Fields) (ps : List Part) → i < length form
    → takes_from (drop i form) fields ps
    ≡ and_then_takes (λ so_far. takes_from (drop (i + 1) form) so_far.fields so_far.rest) (takes_sign (get_or form i 0) fields ps)
takes_more form i fields ps h = at_drop_more (λ signs. takes_from signs fields ps) form i 0 h ∙ takes_cons (get_or form i 0) (drop (i + 1) form) fields ps

-- a sign that takes nothing
pub sign_refuses : (form : List ℕ) (i : ℕ) (fields : Fields) (ps : List Part) → i < length form → None ≡ takes_sign (get_or form i 0) fields ps
    → takes_from (drop i form) fields ps ≡ None
sign_refuses form i fields ps h e =
    takes_more form i fields ps h ∙ ap (and_then_takes (λ so_far. takes_from (drop (i + 1) form) so_far.fields so_far.rest)) (sym e)

-- what a sign takes
pub sign_takes : (form : List ℕ) (i : ℕ) (fields : Fields) (ps : List Part) (t : Took) → i < length form → Some t ≡ takes_sign (get_or form i 0) fields ps
    → takes_from (drop i form) fields ps ≡ takes_from (drop (i + 1) form) t.fields t.rest
sign_takes form i fields ps t h e =
    takes_more form i fields ps h ∙ ap (and_then_takes (λ so_far. takes_from (drop (i + 1) form) so_far.fields so_far.rest)) (sym e)

nothing_left : (fields : Fields) → takes_from [] fields [] ≡ Some fields
unfolding takes_from
nothing_left fields = refl

something_left : (fields : Fields) (part : Part) (ps : List Part) → takes_from [] fields (part ∷ ps) ≡ None
unfolding takes_from
something_left fields part ps = refl

-- all signs have taken, and nothing is left
pub form_done : (form : List ℕ) (i : ℕ) (fields : Fields) (ps : List Part) → length form ≤ i → [] ≡ ps → takes_from (drop i form) fields ps ≡ Some fields
form_done form i fields ps h e =
    at_drop_all (λ signs. takes_from signs fields ps) form i h ∙ ap (takes_from [] fields) (sym e) ∙ nothing_left fields

-- something is left
left_at : (fields : Fields) (here : Front) → (here ≡ front.End → ⊥) → takes_from [] fields (parts_from here) ≡ None
left_at fields front.End h = absurd (h refl)
left_at fields (front.Word word rest) h = something_left fields _ _
left_at fields (front.Mark code rest) h = something_left fields _ _

pub form_left : (form : List ℕ) (i : ℕ) (fields : Fields) (ps : List Part) (here : Front) → length form ≤ i → (here ≡ front.End → ⊥) → parts_from here ≡ ps
    → takes_from (drop i form) fields ps ≡ None
form_left form i fields ps here h end e =
    at_drop_all (λ signs. takes_from signs fields ps) form i h ∙ ap (takes_from [] fields) (sym e) ∙ left_at fields here end

-- ---- the numbers of the signs so far

-- the first number is one that a sign may take, and so are those behind it
abbrev pub first_within : ℕ → (List ℕ → Bool) → List ℕ → Bool
first_within sign others [] = false
first_within sign others (number ∷ numbers) = is_within sign number && others numbers

-- a number for each sign that has one, which that sign may take, and no others
abbrev pub each_within : List ℕ → List ℕ → Bool
each_within [] [] = true
each_within [] (number ∷ numbers) = false
each_within (sign ∷ form) numbers = if has_number sign then first_within sign (each_within form) numbers else each_within form numbers

and_both : (x y : Bool) → x ≡ true → y ≡ true → (x && y) ≡ true
and_both true y h g = g
and_both false y h g = cc

-- one number more, and none more
push_at : (test : Bool) (head sign : ℕ) (form numbers : List ℕ) (value : ℕ) → has_number head ≡ test
    → ((others : List ℕ) → each_within form others ≡ true → each_within (form ++ sign ∷ []) (others ++ value ∷ []) ≡ true)
    → (if test then first_within head (each_within form) numbers else each_within form numbers) ≡ true
    → (if test then first_within head (each_within (form ++ sign ∷ [])) (numbers ++ value ∷ []) else each_within (form ++ sign ∷ []) (numbers ++ value ∷ [])) ≡ true
push_at true head sign form [] value is later h = cc
push_at true head sign form (number ∷ numbers) value is later h =
    let both = and_parts (is_within head number) (each_within form numbers) h in
    and_both (is_within head number) (each_within (form ++ sign ∷ []) (numbers ++ value ∷ [])) both.0 (later numbers both.1)
push_at false head sign form numbers value is later h = later numbers h

last_push : (test : Bool) (sign value : ℕ) → has_number sign ≡ test → test ≡ true → is_within sign value ≡ true
    → (if test then first_within sign (each_within []) (value ∷ []) else each_within [] (value ∷ [])) ≡ true
last_push true sign value is one within = and_both (is_within sign value) true within refl
last_push false sign value is one within = cc

within_push : (form numbers : List ℕ) (sign value : ℕ) → has_number sign ≡ true → is_within sign value ≡ true → each_within form numbers ≡ true
    → each_within (form ++ sign ∷ []) (numbers ++ value ∷ []) ≡ true
within_push [] [] sign value one within h = last_push (has_number sign) sign value refl one within
within_push [] (number ∷ numbers) sign value one within h = cc
within_push (head ∷ form) numbers sign value one within h =
    push_at (has_number head) head sign form numbers value refl (λ others. within_push form others sign value one within) h

pass_at : (test : Bool) (head sign : ℕ) (form numbers : List ℕ)
    → ((others : List ℕ) → each_within form others ≡ true → each_within (form ++ sign ∷ []) others ≡ true)
    → (if test then first_within head (each_within form) numbers else each_within form numbers) ≡ true
    → (if test then first_within head (each_within (form ++ sign ∷ [])) numbers else each_within (form ++ sign ∷ []) numbers) ≡ true
pass_at true head sign form [] later h = h
pass_at true head sign form (number ∷ numbers) later h =
    let both = and_parts (is_within head number) (each_within form numbers) h in
    and_both (is_within head number) (each_within (form ++ sign ∷ []) numbers) both.0 (later numbers both.1)
pass_at false head sign form numbers later h = later numbers h

within_pass : (form numbers : List ℕ) (sign : ℕ) → has_number sign ≡ false → each_within form numbers ≡ true → each_within (form ++ sign ∷ []) numbers ≡ true
within_pass [] numbers sign none h = ap (λ b. if b then first_within sign (each_within []) numbers else each_within [] numbers) none ∙ h
within_pass (head ∷ form) numbers sign none h = pass_at (has_number head) head sign form numbers (λ others. within_pass form others sign none) h

-- as many as signs that have one
count_at : (test : Bool) (head : ℕ) (form numbers : List ℕ) → ((others : List ℕ) → each_within form others ≡ true → length others ≡ count_by has_number form)
    → (if test then first_within head (each_within form) numbers else each_within form numbers) ≡ true
    → length numbers ≡ cond test 1 0 + count_by has_number form
count_at true head form [] later h = cc
count_at true head form (number ∷ numbers) later h =
    let both = and_parts (is_within head number) (each_within form numbers) h in
    let e = later numbers both.1 in omega arith
count_at false head form numbers later h = let e = later numbers h in omega arith

within_count : (form numbers : List ℕ) → each_within form numbers ≡ true → length numbers ≡ count_by has_number form
within_count [] [] h = refl
within_count [] (number ∷ numbers) h = cc
within_count (head ∷ form) numbers h =
    count_at (has_number head) head form numbers (within_count form) h ∙ sym (sum_by-cons (λ x. cond (has_number x) 1 0) head form)

-- there is room for the number of a sign
count_take : (form : List ℕ) (i : ℕ) → count_by has_number (take i form) ≤ count_by has_number form
count_take form i =
    let whole = ap (count_by has_number) (take-append-drop i form) in
    let sum = sum_by-append (λ x. cond (has_number x) 1 0) (take i form) (drop i form) in omega arith

pub room_left : (form numbers : List ℕ) (i : ℕ) → has_room form ≡ true → each_within (take i form) numbers ≡ true → i < length form
    → has_number (get_or form i 0) ≡ true → length numbers < 8
room_left form numbers i room within h one =
    let most : count_by has_number form ≤ 8 = leb-true (count_by has_number form) 8 room in
    let so_far = within_count (take i form) numbers within in
    let next = count_by_more_yes has_number form i 0 h one in
    let part = count_take form (i + 1) in omega arith

-- what a sign leaves is within what the signs so far may take
leaves_within : (form : List ℕ) (i : ℕ) (fields : Fields) (t : Took) → i < length form → Leaves (get_or form i 0) fields t → each_within (take i form) fields.numbers ≡ true
    → each_within (take (i + 1) form) t.fields.numbers ≡ true
leaves_within form i fields t h (with_one value one within e) so_far =
    ap (λ signs. each_within signs t.fields.numbers) (take_more form i 0 h)
    ∙ ap (each_within (take i form ++ get_or form i 0 ∷ [])) e
    ∙ within_push (take i form) fields.numbers (get_or form i 0) value one within so_far
leaves_within form i fields t h (with_none none e) so_far =
    ap (λ signs. each_within signs t.fields.numbers) (take_more form i 0 h)
    ∙ ap (each_within (take i form ++ get_or form i 0 ∷ [])) e
    ∙ within_pass (take i form) fields.numbers (get_or form i 0) none so_far

pub sign_within : (form : List ℕ) (i : ℕ) (fields : Fields) (text : List ℕ) (t : Took) → i < length form → Some t ≡ takes_sign (get_or form i 0) fields (parts text)
    → each_within (take i form) fields.numbers ≡ true → each_within (take (i + 1) form) t.fields.numbers ≡ true
sign_within form i fields text t h e so_far =
    let P : Option Took → Type 0 = λ taken. IfSome taken (Leaves (get_or form i 0) fields) in
    leaves_within form i fields t h (subst P (sym e) (sign_leaves (get_or form i 0) fields text)) so_far

-- by their places
within_at : (test : Bool) (sign : ℕ) (form front numbers : List ℕ) (at : ℕ) → length front ≡ at
    → ((others before : List ℕ) (place : ℕ) → length before ≡ place → each_within form others ≡ true → are_within_from place form (before ++ others) ≡ true)
    → (if test then first_within sign (each_within form) numbers else each_within form numbers) ≡ true
    → (if test then is_within sign (get_or (front ++ numbers) at 0) && are_within_from (at + 1) form (front ++ numbers) else are_within_from at form (front ++ numbers)) ≡ true
within_at true sign form front [] at many later h = cc
within_at true sign form front (number ∷ numbers) at many later h =
    let both = and_parts (is_within sign number) (each_within form numbers) h in
    let here : get_or (front ++ number ∷ numbers) at 0 ≡ number =
    ap (λ n. get_or (front ++ number ∷ numbers) n 0) (sym many) ∙ get_or-append_seam front number numbers 0 in
    let longer : length (front ++ number ∷ []) ≡ at + 1 = length-append front (number ∷ []) ∙ ap (λ n. n + 1) many in
    and_both (is_within sign (get_or (front ++ number ∷ numbers) at 0)) (are_within_from (at + 1) form (front ++ number ∷ numbers))
    (ap (is_within sign) here ∙ both.0)
    (ap (are_within_from (at + 1) form) (sym (append_assoc front (number ∷ []) numbers)) ∙ later numbers (front ++ number ∷ []) (at + 1) longer both.1)
within_at false sign form front numbers at many later h = later numbers front at many h

within_places : (form numbers front : List ℕ) (at : ℕ) → length front ≡ at → each_within form numbers ≡ true → are_within_from at form (front ++ numbers) ≡ true
within_places [] numbers front at many h = refl
within_places (sign ∷ form) numbers front at many h =
    within_at (has_number sign) sign form front numbers at many (λ others before place e g. within_places form others before place e g) h

pub all_within : (form numbers : List ℕ) (i : ℕ) → length form ≤ i → each_within (take i form) numbers ≡ true → are_within form numbers ≡ true
all_within form numbers i h within =
    within_places form numbers [] 0 refl (ap (λ signs. each_within signs numbers) (sym (take_all i form h)) ∙ within)

-- ---- the forms of a text

chosen_cons : (form : ℕ) (first : List ℕ) (forms : List (List ℕ)) (ps : List Part)
    → chosen_from form (first ∷ forms) ps ≡ or_later form (chosen_from (form + 1) forms ps) (takes first ps)
unfolding chosen_from
chosen_cons form first forms ps = refl

chosen_cut : (form : ℕ) (left : List ℕ) (ps : List Part)
    → chosen_from form (forms_in left) ps ≡ or_later form (chosen_from (form + 1) (more_pieces 124 (from_code 124 left)) ps) (takes (before_code 124 left) ps)
chosen_cut form left ps =
    ap (λ forms. chosen_from form forms ps) (split_cut 124 left) ∙ chosen_cons form (before_code 124 left) (more_pieces 124 (from_code 124 left)) ps

-- operands have the first form
pub form_here : (form : ℕ) (left : List ℕ) (ps : List Part) (fields : Fields) → Some fields ≡ takes (before_code 124 left) ps
    → chosen_from form (forms_in left) ps ≡ Some (record { form = form; fields = fields })
form_here form left ps fields e =
    chosen_cut form left ps ∙ ap (or_later form (chosen_from (form + 1) (more_pieces 124 (from_code 124 left)) ps)) (sym e)

form_past : (form : ℕ) (left : List ℕ) (ps : List Part) → None ≡ takes (before_code 124 left) ps
    → chosen_from form (forms_in left) ps ≡ chosen_from (form + 1) (more_pieces 124 (from_code 124 left)) ps
form_past form left ps e =
    chosen_cut form left ps ∙ ap (or_later form (chosen_from (form + 1) (more_pieces 124 (from_code 124 left)) ps)) (sym e)

-- they may have one behind it
pub form_next : (form bar : ℕ) (left after : List ℕ) (ps : List Part) → None ≡ takes (before_code 124 left) ps → from_code 124 left ≡ bar ∷ after
    → chosen_from form (forms_in left) ps ≡ chosen_from (form + 1) (forms_in after) ps
form_next form bar left after ps e next = form_past form left ps e ∙ ap (λ rest. chosen_from (form + 1) (more_pieces 124 rest) ps) next

-- there is none behind it
pub form_end : (form : ℕ) (left : List ℕ) (ps : List Part) → None ≡ takes (before_code 124 left) ps → from_code 124 left ≡ []
    → chosen_from form (forms_in left) ps ≡ None
unfolding chosen_from
form_end form left ps e none = form_past form left ps e ∙ ap (λ rest. chosen_from (form + 1) (more_pieces 124 rest) ps) none

-- each form has room
pub room_here : (left : List ℕ) → have_room left ≡ true → has_room (before_code 124 left) ≡ true
room_here left h =
    let both = and_parts (has_room (before_code 124 left)) (list_all has_room (more_pieces 124 (from_code 124 left))) (ap (list_all has_room) (sym (split_cut 124 left)) ∙ h) in
    both.0

pub room_next : (left after : List ℕ) (bar : ℕ) → have_room left ≡ true → from_code 124 left ≡ bar ∷ after → have_room after ≡ true
room_next left after bar h next =
    let both = and_parts (has_room (before_code 124 left)) (list_all has_room (more_pieces 124 (from_code 124 left))) (ap (list_all has_room) (sym (split_cut 124 left)) ∙ h) in
    ap (λ rest. list_all has_room (more_pieces 124 rest)) (sym next) ∙ both.1

-- the form at a place
at_place : (forms : List (List ℕ)) (place : ℕ) (first : List ℕ) (rest : List (List ℕ)) → drop place forms ≡ first ∷ rest
    → (get_or forms place [] ≡ first) × (drop (place + 1) forms ≡ rest)
at_place forms place first rest h =
    let many : length forms - place ≡ 1 + length rest = sym (length-drop place forms) ∙ ap length h ∙ omega arith in
    let here : drop place forms ≡ get_or forms place [] ∷ drop (place + 1) forms = drop_more forms place [] (omega arith) in
    let same : get_or forms place [] ∷ drop (place + 1) forms ≡ first ∷ rest = sym here ∙ h in
    (cc, cc)

pub place_here : (forms left : List ℕ) (place : ℕ) → drop place (forms_in forms) ≡ forms_in left → form_in forms place ≡ before_code 124 left
place_here forms left place h = (at_place (forms_in forms) place (before_code 124 left) (more_pieces 124 (from_code 124 left)) (h ∙ split_cut 124 left)).0

pub place_next : (forms left after : List ℕ) (place bar : ℕ) → drop place (forms_in forms) ≡ forms_in left → from_code 124 left ≡ bar ∷ after
    → drop (place + 1) (forms_in forms) ≡ forms_in after
place_next forms left after place bar h next =
    (at_place (forms_in forms) place (before_code 124 left) (more_pieces 124 (from_code 124 left)) (h ∙ split_cut 124 left)).1
    ∙ ap (more_pieces 124) next

-- there is a form at the place
pub place_less : (forms left : List ℕ) (place : ℕ) → drop place (forms_in forms) ≡ forms_in left → place < length (forms_in forms)
place_less forms left place h =
    let some : drop place (forms_in forms) ≡ before_code 124 left ∷ more_pieces 124 (from_code 124 left) = h ∙ split_cut 124 left in
    let many : length (forms_in forms) - place ≡ 1 + length (more_pieces 124 (from_code 124 left)) =
    sym (length-drop place (forms_in forms)) ∙ ap length some ∙ omega arith in
    omega arith
