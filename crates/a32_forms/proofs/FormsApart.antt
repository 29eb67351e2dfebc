-- A form takes nothing from what another one shows that stands apart from it.
use Rattle.std.proofs.Common.{◌≡◌, ℕ, zero, suc, ◌<◌, ◌^◌, ◌&&◌, ◌||◌, ◌==◌, eqb, not, Bool, true, false, Option, Some, None, List, [], ◌∷◌, ◌++◌, refl, sym, arith, codes}
use Rattle.std.specs.Prelude.{if◌then◌else◌}
use Rattle.std.specs.List.{list_all}
use Rattle.std.specs.Option.{option_map}
use Rattle.std.specs.Str.{bytes_eq}
use Rattle.std.specs.Fmt.{decimal}
use Rattle.std.proofs.Math.Dec.{eqb-suc-zero}
use Rattle.std.proofs.lemmas.Bool.{false≢true}
use Rattle.std.proofs.lemmas.Bool.Decides.{nat_tests}
use Rattle.number_text.specs.Hexadecimal.{word_text}
use Rattle.a32_forms.specs.Text.{Part, Word, Mark, is_wordy, is_blank, is_name}
use Rattle.a32_forms.specs.Names.{register_name, shift_name, register_of, shift_of, place_from}
use Rattle.a32_forms.specs.Numbers.{number_of}
use Rattle.a32_forms.specs.Forms.{b, k, l, n, r, x, H, L, O, X, Fields, with_number, Took, took, passed, takes_at_word, takes_sign, and_then_takes, takes_from}
use Rattle.a32_forms.specs.Fits.{fits_form}
use Rattle.a32_forms.specs.Shown.{mark_parts, number_parts, sign_parts, pieces, is_plain, is_form}
use Rattle.a32_forms.specs.Apart.{may_pass, may_be, after_mark, after_shown, and_may, may_take, is_apart}
use Rattle.a32_forms.proofs.Below.{below_4}
use Rattle.a32_forms.proofs.EachSign.{or_other, each_sign, plain_has_none, plain_not_wordy, plain_parts, plain_no_mark, plain_no_list, fits_behind, not_false, both, below_and, by_sign}

abbrev no_list : List ℕ → Bool
no_list form = list_all (λ sign. not (sign == b)) form

neither : (a c : Bool) → (a || c) ≡ false → (a ≡ false) × (c ≡ false)
neither true c h = absurd (false≢true (sym h))
neither false c h = (refl, h)

-- what is left of a form, if it goes on, takes nothing from these parts
TakesNone : List Part → Option (List ℕ) → Type 0
TakesNone found None = Unit {0}
TakesNone found (Some form) = no_list form ≡ true → (fields : Fields) → takes_from form fields found ≡ None

-- A sign of a form, by what it may be: a mark that may be left out, a blank, or what takes a part.
form_sign : (P : ℕ → Type 0) → P 126 → P 33 → ((sign : ℕ) → (sign == 126) ≡ false → (sign == 33) ≡ false → (sign == b) ≡ false → is_blank sign ≡ true → P sign) → ((sign : ℕ) → (sign == 126) ≡ false → (sign == 33) ≡ false → (sign == b) ≡ false → is_blank sign ≡ false → P sign) → (sign : ℕ) → not (sign == b) ≡ true → P sign
form_sign P dash bang blank part sign h =
    or_other P sign 126 dash (λ e. or_other P sign 33 bang (λ f. by_blank (is_blank sign) refl e f))
  where
    by_blank : (test : Bool) → is_blank sign ≡ test → (sign == 126) ≡ false → (sign == 33) ≡ false → P sign
    by_blank true g e f = blank sign e f (not_false (sign == b) h) g
    by_blank false g e f = part sign e f (not_false (sign == b) h) g

-- At the end.

AtEnd : List ℕ → Fields → ℕ → Type 0
AtEnd form fields sign = list_all may_pass (sign ∷ form) ≡ false → ((others : Fields) → list_all may_pass form ≡ false → takes_from form others [] ≡ None) → takes_from (sign ∷ form) fields [] ≡ None

none_at_end : (form : List ℕ) (fields : Fields) → no_list form ≡ true → list_all may_pass form ≡ false → takes_from form fields [] ≡ None
unfolding takes_from takes_sign AtEnd
none_at_end [] fields free h = absurd (false≢true (sym h))
none_at_end (sign ∷ form) fields free h =
    let here = both (not (sign == b)) (no_list form) free in
    form_sign (AtEnd form fields)
    (λ h further. further (with_number 0 fields) h) (λ h further. further (with_number 0 fields) h)
    (λ sign e f g i h further. rw (e, f, g, i) (further fields (rw (e, f, i) at h)))
    (λ sign e f g i h further. rw (e, f, g, i) refl)
    sign here.0 h (λ others h. none_at_end form others here.1 h)

-- At a mark.

AtMark : ℕ → List Part → List ℕ → Fields → ℕ → Type 0
AtMark mark found form fields sign = no_list form ≡ true → TakesNone found (after_mark mark (sign ∷ form)) → ((others : Fields) → TakesNone found (after_mark mark form) → takes_from form others (Mark mark ∷ found) ≡ None) → takes_from (sign ∷ form) fields (Mark mark ∷ found) ≡ None

at_dash : (test : Bool) (mark : ℕ) (found : List Part) (form : List ℕ) (fields : Fields) → (mark == 45) ≡ test → AtMark mark found form fields 126
unfolding takes_from takes_sign AtMark TakesNone
at_dash true mark found form fields e free h further = rw e ((rw e at h) free (with_number 1 fields))
at_dash false mark found form fields e free h further = rw e (further (with_number 0 fields) (rw e at h))

at_bang : (test : Bool) (mark : ℕ) (found : List Part) (form : List ℕ) (fields : Fields) → (mark == 33) ≡ test → AtMark mark found form fields 33
unfolding takes_from takes_sign AtMark TakesNone
at_bang true mark found form fields e free h further = rw e ((rw e at h) free (with_number 1 fields))
at_bang false mark found form fields e free h further = rw e (further (with_number 0 fields) (rw e at h))

at_same : (test : Bool) (mark : ℕ) (found : List Part) (form : List ℕ) (fields : Fields) (sign : ℕ) → (mark == sign) ≡ test → (sign == 126) ≡ false → (sign == 33) ≡ false → (sign == b) ≡ false → is_blank sign ≡ false → AtMark mark found form fields sign
unfolding takes_from takes_sign AtMark TakesNone
at_same true mark found form fields sign same e f g i free h further = rw (e, f, g, i, same) ((rw (e, f, i, same) at h) free fields)
at_same false mark found form fields sign same e f g i free h further = rw (e, f, g, i, same) refl

none_at_mark : (form : List ℕ) (fields : Fields) (mark : ℕ) (found : List Part) → no_list form ≡ true → TakesNone found (after_mark mark form) → takes_from form fields (Mark mark ∷ found) ≡ None
unfolding takes_from takes_sign AtMark TakesNone
none_at_mark [] fields mark found free h = refl
none_at_mark (sign ∷ form) fields mark found free h =
    let here = both (not (sign == b)) (no_list form) free in
    form_sign (AtMark mark found form fields)
    (at_dash (mark == 45) mark found form fields refl) (at_bang (mark == 33) mark found form fields refl)
    (λ sign e f g i free h further. rw (e, f, g, i) (further fields (rw (e, f, i) at h)))
    (λ sign e f g i. at_same (mark == sign) mark found form fields sign refl e f g i)
    sign here.0 here.1 h (λ others h. none_at_mark form others mark found here.1 h)

-- At a word.

-- a word that a sign shows is taken by no sign that may not be it
Shows : ℕ → List ℕ → Type 0
Shows shown word = (sign : ℕ) (fields : Fields) (found : List Part) → may_be shown sign ≡ false → takes_at_word sign fields word found ≡ None

AtWord : ℕ → List ℕ → List Part → List ℕ → Fields → ℕ → Type 0
AtWord shown word found form fields sign = no_list form ≡ true → TakesNone found (after_shown shown (sign ∷ form)) → ((others : Fields) → TakesNone found (after_shown shown form) → takes_from form others (Word word ∷ found) ≡ None) → takes_from (sign ∷ form) fields (Word word ∷ found) ≡ None

-- Whatever a sign takes of a word, nothing is taken behind it.

number_behind : (further : Took → Option Fields) (taken : Option ℕ) (fields : Fields) (found : List Part) → ((others : Fields) → further (passed others found) ≡ None) → and_then_takes further (option_map (took fields found) taken) ≡ None
number_behind further None fields found h = refl
number_behind further (Some v) fields found h = h (with_number v fields)

word_behind : (further : Took → Option Fields) (test : Bool) (fields : Fields) (found : List Part) → ((others : Fields) → further (passed others found) ≡ None) → and_then_takes further (if test then Some (passed fields found) else None) ≡ None
word_behind further true fields found h = h fields
word_behind further false fields found h = refl

AtBehind : (Took → Option Fields) → List ℕ → Fields → List Part → ℕ → Type 0
AtBehind further word fields found sign = and_then_takes further (takes_at_word sign fields word found) ≡ None

none_behind : (further : Took → Option Fields) (word : List ℕ) (fields : Fields) (found : List Part) (sign : ℕ) → ((others : Fields) → further (passed others found) ≡ None) → and_then_takes further (takes_at_word sign fields word found) ≡ None
unfolding AtBehind takes_at_word
none_behind further word fields found sign h =
    or_other (AtBehind further word fields found) sign r (number_behind further (register_of word) fields found h) (λ e_r.
    or_other (AtBehind further word fields found) sign n (number_behind further (number_of word) fields found h) (λ e_n.
    or_other (AtBehind further word fields found) sign x (number_behind further (number_of word) fields found h) (λ e_x.
    or_other (AtBehind further word fields found) sign k (number_behind further (shift_of word) fields found h) (λ e_k.
    or_other (AtBehind further word fields found) sign l (word_behind further (is_name word) (record fields { name = word }) found h) (λ e_l.
    or_other (AtBehind further word fields found) sign X (word_behind further (bytes_eq word (codes "rrx")) fields found h) (λ e_X.
    or_other (AtBehind further word fields found) sign O (word_behind further (bytes_eq word (codes "ror")) fields found h) (λ e_O.
    or_other (AtBehind further word fields found) sign L (word_behind further (bytes_eq word (codes "lo")) fields found h) (λ e_L.
    or_other (AtBehind further word fields found) sign H (word_behind further (bytes_eq word (codes "hi")) fields found h) (λ e_H.
    rw (e_r, e_n, e_x, e_k, e_l, e_X, e_O, e_L, e_H) refl)))))))))

at_word : (test : Bool) (shown : ℕ) (word : List ℕ) (found : List Part) (form : List ℕ) (fields : Fields) (sign : ℕ) → Shows shown word → may_be shown sign ≡ test → (sign == 126) ≡ false → (sign == 33) ≡ false → (sign == b) ≡ false → is_blank sign ≡ false → AtWord shown word found form fields sign
unfolding takes_from takes_sign AtWord TakesNone Shows
at_word true shown word found form fields sign shows may e f g i free h further =
    rw (e, f, g, i) (none_behind (λ so_far. takes_from form so_far.fields so_far.rest) word fields found sign (λ others. (rw (e, f, i, may) at h) free others))
at_word false shown word found form fields sign shows may e f g i free h further = rw (e, f, g, i, shows sign fields found may) refl

none_at_word : (form : List ℕ) (fields : Fields) (shown : ℕ) (word : List ℕ) (found : List Part) → Shows shown word → no_list form ≡ true → TakesNone found (after_shown shown form) → takes_from form fields (Word word ∷ found) ≡ None
unfolding takes_from takes_sign AtWord TakesNone
none_at_word [] fields shown word found shows free h = refl
none_at_word (sign ∷ form) fields shown word found shows free h =
    let here = both (not (sign == b)) (no_list form) free in
    form_sign (AtWord shown word found form fields)
    (λ free h further. further (with_number 0 fields) h) (λ free h further. further (with_number 0 fields) h)
    (λ sign e f g i free h further. rw (e, f, g, i) (further fields (rw (e, f, i) at h)))
    (λ sign e f g i. at_word (may_be shown sign) shown word found form fields sign shows refl e f g i)
    sign here.0 here.1 h (λ others h. none_at_word form others shown word found shows here.1 h)

-- Which words signs show.

no_word : (sign : ℕ) (fields : Fields) (word : List ℕ) (found : List Part) → is_wordy sign ≡ false → takes_at_word sign fields word found ≡ None
unfolding takes_at_word
no_word sign fields word found h =
    let e_r : eqb sign r ≡ false = grind (arith, nat_tests, h) in
    let e_n : eqb sign n ≡ false = grind (arith, nat_tests, h) in
    let e_x : eqb sign x ≡ false = grind (arith, nat_tests, h) in
    let e_k : eqb sign k ≡ false = grind (arith, nat_tests, h) in
    let e_l : eqb sign l ≡ false = grind (arith, nat_tests, h) in
    let e_X : eqb sign X ≡ false = grind (arith, nat_tests, h) in
    let e_O : eqb sign O ≡ false = grind (arith, nat_tests, h) in
    let e_L : eqb sign L ≡ false = grind (arith, nat_tests, h) in
    let e_H : eqb sign H ≡ false = grind (arith, nat_tests, h) in
    rw (e_r, e_n, e_x, e_k, e_l, e_X, e_O, e_L, e_H) refl

any_true : (a : Bool) → (a && true) ≡ false → a ≡ false
any_true true h = h
any_true false h = refl

-- a word that each sign of a word may be
shows_any : (shown : ℕ) (word : List ℕ) → (shown == X) ≡ false → (shown == k) ≡ false → Shows shown word
unfolding Shows
shows_any shown word e f sign fields found h = no_word sign fields word found (any_true (is_wordy sign) (rw (e, f) at h))

shift_no_rrx : (v : ℕ) → v < 4 → bytes_eq (shift_name v) (codes "rrx") ≡ false
shift_no_rrx v h = below_4 (λ v. bytes_eq (shift_name v) (codes "rrx") ≡ false) refl refl refl refl v h

AtShift : ℕ → Fields → List Part → ℕ → Type 0
AtShift v fields found sign = may_be k sign ≡ false → takes_at_word sign fields (shift_name v) found ≡ None

shows_shift : (v : ℕ) → v < 4 → Shows k (shift_name v)
unfolding Shows AtShift takes_at_word
shows_shift v small sign fields found =
    or_other (AtShift v fields found) sign X (λ h. rw (shift_no_rrx v small) refl)
    (λ e h. no_word sign fields (shift_name v) found (any_true (is_wordy sign) (rw e at h)))

AtRrx : Fields → List Part → ℕ → Type 0
AtRrx fields found sign = may_be X sign ≡ false → takes_at_word sign fields (codes "rrx") found ≡ None

shows_rrx : Shows X (codes "rrx")
unfolding Shows AtRrx takes_at_word place_from
shows_rrx sign fields found =
    or_other (AtRrx fields found) sign k (λ h. refl)
    (λ e h. no_word sign fields (codes "rrx") found (any_true (is_wordy sign) (rw e at h)))

-- What a form shows, sign by sign.

Further : List ℕ → Type 0
Further shown = (form numbers : List ℕ) (fields : Fields) → fits_form shown numbers ≡ true → no_list form ≡ true → may_take form shown ≡ false → takes_from form fields (pieces shown numbers) ≡ None

AtShown : ℕ → Type 0
AtShown sign = (shown form numbers : List ℕ) (fields : Fields) → fits_form (sign ∷ shown) numbers ≡ true → no_list form ≡ true → may_take form (sign ∷ shown) ≡ false → Further shown → takes_from form fields (pieces (sign ∷ shown) numbers) ≡ None

left_none : (shown numbers : List ℕ) (after : Option (List ℕ)) → fits_form shown numbers ≡ true → and_may (λ left. may_take left shown) after ≡ false → Further shown → TakesNone (pieces shown numbers) after
unfolding TakesNone Further
left_none shown numbers None fits h further = tt
left_none shown numbers (Some form) fits h further = λ free fields. further form numbers fields fits free h

shown_r : AtShown r
unfolding AtShown pieces number_parts
shown_r shown form [] fields fits free h further = absurd (false≢true fits)
shown_r shown form (v ∷ vs) fields fits free h further =
    let fit = below_and v 16 (fits_form shown vs) fits in
    none_at_word form fields r (register_name v) (pieces shown vs) (shows_any r (register_name v) refl refl) free (left_none shown vs (after_shown r form) fit.1 h further)

shown_n : AtShown n
unfolding AtShown pieces number_parts
shown_n shown form [] fields fits free h further = absurd (false≢true fits)
shown_n shown form (v ∷ vs) fields fits free h further =
    let fit = below_and v (2 ^ 32) (fits_form shown vs) fits in
    none_at_word form fields n (decimal v) (pieces shown vs) (shows_any n (decimal v) refl refl) free (left_none shown vs (after_shown n form) fit.1 h further)

shown_x : AtShown x
unfolding AtShown pieces number_parts
shown_x shown form [] fields fits free h further = absurd (false≢true fits)
shown_x shown form (v ∷ vs) fields fits free h further =
    let fit = below_and v (2 ^ 32) (fits_form shown vs) fits in
    none_at_word form fields x (codes "0x" ++ word_text v) (pieces shown vs) (shows_any x (codes "0x" ++ word_text v) refl refl) free (left_none shown vs (after_shown x form) fit.1 h further)

shown_k : AtShown k
unfolding AtShown pieces number_parts
shown_k shown form [] fields fits free h further = absurd (false≢true fits)
shown_k shown form (v ∷ vs) fields fits free h further =
    let fit = below_and v 4 (fits_form shown vs) fits in
    none_at_word form fields k (shift_name v) (pieces shown vs) (shows_shift v fit.0) free (left_none shown vs (after_shown k form) fit.1 h further)

shown_b : AtShown b
unfolding AtShown
shown_b shown form numbers fields fits free h further = absurd (false≢true (sym h))

shown_X : AtShown X
unfolding AtShown pieces sign_parts
shown_X shown form numbers fields fits free h further =
    none_at_word form fields X (codes "rrx") (pieces shown numbers) shows_rrx free (left_none shown numbers (after_shown X form) (fits_behind X shown numbers refl fits) h further)

shown_O : AtShown O
unfolding AtShown pieces sign_parts
shown_O shown form numbers fields fits free h further =
    none_at_word form fields O (codes "ror") (pieces shown numbers) (shows_any O (codes "ror") refl refl) free (left_none shown numbers (after_shown O form) (fits_behind O shown numbers refl fits) h further)

shown_L : AtShown L
unfolding AtShown pieces sign_parts
shown_L shown form numbers fields fits free h further =
    none_at_word form fields L (codes "lo") (pieces shown numbers) (shows_any L (codes "lo") refl refl) free (left_none shown numbers (after_shown L form) (fits_behind L shown numbers refl fits) h further)

shown_H : AtShown H
unfolding AtShown pieces sign_parts
shown_H shown form numbers fields fits free h further =
    none_at_word form fields H (codes "hi") (pieces shown numbers) (shows_any H (codes "hi") refl refl) free (left_none shown numbers (after_shown H form) (fits_behind H shown numbers refl fits) h further)

-- a mark that may be left out: neither with it nor without
mark_none : (mark v : ℕ) (shown form numbers : List ℕ) (fields : Fields) → fits_form shown numbers ≡ true → no_list form ≡ true → (may_take form shown || and_may (λ left. may_take left shown) (after_mark mark form)) ≡ false → Further shown → takes_from form fields (mark_parts mark v ++ pieces shown numbers) ≡ None
unfolding Further
mark_none mark zero shown form numbers fields fits free h further =
    further form numbers fields fits free (neither (may_take form shown) (and_may (λ left. may_take left shown) (after_mark mark form)) h).0
mark_none mark (suc v) shown form numbers fields fits free h further =
    rw (eqb-suc-zero v) (none_at_mark form fields mark (pieces shown numbers) free (left_none shown numbers (after_mark mark form) fits (neither (may_take form shown) (and_may (λ left. may_take left shown) (after_mark mark form)) h).1 further))

shown_dash : AtShown 126
unfolding AtShown pieces number_parts
shown_dash shown form [] fields fits free h further = absurd (false≢true fits)
shown_dash shown form (v ∷ vs) fields fits free h further =
    mark_none 45 v shown form vs fields (below_and v 2 (fits_form shown vs) fits).1 free h further

shown_bang : AtShown 33
unfolding AtShown pieces number_parts
shown_bang shown form [] fields fits free h further = absurd (false≢true fits)
shown_bang shown form (v ∷ vs) fields fits free h further =
    mark_none 33 v shown form vs fields (below_and v 2 (fits_form shown vs) fits).1 free h further

plain_none : (sign : ℕ) (blank : Bool) (shown form numbers : List ℕ) (fields : Fields) → is_plain sign ≡ true → is_blank sign ≡ blank → fits_form shown numbers ≡ true → no_list form ≡ true → may_take form (sign ∷ shown) ≡ false → Further shown → takes_from form fields ((if blank then [] else Mark sign ∷ []) ++ pieces shown numbers) ≡ None
unfolding Further
plain_none sign true shown form numbers fields plain e fits free h further =
    let marks = plain_no_mark sign plain in
    further form numbers fields fits free (rw (marks.0, marks.1, plain_no_list sign plain, e) at h)
plain_none sign false shown form numbers fields plain e fits free h further =
    let marks = plain_no_mark sign plain in
    none_at_mark form fields sign (pieces shown numbers) free
    (left_none shown numbers (after_mark sign form) fits (rw (marks.0, marks.1, plain_no_list sign plain, e, plain_not_wordy sign plain) at h) further)

shown_plain : (sign : ℕ) → is_plain sign ≡ true → AtShown sign
unfolding AtShown pieces
shown_plain sign plain shown form numbers fields fits free h further =
    let none = plain_has_none sign plain in
    rw (none, plain_parts sign plain) (plain_none sign (is_blank sign) shown form numbers fields plain refl (fits_behind sign shown numbers none fits) free h further)

none_taken : (shown form numbers : List ℕ) (fields : Fields) → is_form shown ≡ true → fits_form shown numbers ≡ true → no_list form ≡ true → may_take form shown ≡ false → takes_from form fields (pieces shown numbers) ≡ None
unfolding AtShown Further pieces
none_taken [] form numbers fields is fits free h = none_at_end form fields free h
none_taken (sign ∷ shown) form numbers fields is fits free h =
    let of = by_sign sign shown is in
    each_sign AtShown shown_r shown_n shown_x shown_k shown_b shown_X shown_O shown_L shown_H shown_dash shown_bang shown_plain sign of.0
    shown form numbers fields fits free h (λ form numbers fields fits free h. none_taken shown form numbers fields of.2 fits free h)

pub apart_takes_none : (shown form numbers : List ℕ) (fields : Fields) → is_form shown ≡ true → fits_form shown numbers ≡ true → is_apart shown form ≡ true → takes_from form fields (pieces shown numbers) ≡ None
apart_takes_none shown form numbers fields is fits h =
    let each = both (no_list form) (not (may_take form shown)) h in
    none_taken shown form numbers fields is fits each.0 (not_false (may_take form shown) each.1)
