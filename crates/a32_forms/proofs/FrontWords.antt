-- The word at the front of a text, the blanks at its front, and its parts.
use Rattle.std.proofs.Common.{◌≡◌, ◌≤◌, ℕ, ◌-◌, ◌<◌, if◌then◌else◌, Bool, true, false, List, [], ◌∷◌, ◌++◌, length, take, refl, sym, ap, ◌∙◌, arith, length-append}
use Rattle.std.proofs.lemmas.List.{take_at}
use Rattle.a32_forms.specs.Text.{Word, Mark, parts, begun, begins_wordy, is_wordy, is_blank, front_word, after_word, after_blanks}

-- the word and what stands behind it are the text
word_cons : (b : Bool) (code : ℕ) (word after text : List ℕ) → word ++ after ≡ text
    → (if b then code ∷ word else []) ++ (if b then after else code ∷ text) ≡ code ∷ text
word_cons true code word after text h = ap (λ t. code ∷ t) h
word_cons false code word after text h = refl

front_after_is : (text : List ℕ) → front_word text ++ after_word text ≡ text
unfolding front_word after_word
front_after_is [] = refl
front_after_is (code ∷ text) = word_cons (is_wordy code) code (front_word text) (after_word text) text (front_after_is text)

pub front_after : (text : List ℕ) → length (after_word text) ≤ length text
front_after text = let h = ap length (front_after_is text) in omega (arith, length-append (front_word text) (after_word text), h)

pub front_is : (text : List ℕ) → take (length text - length (after_word text)) text ≡ front_word text
front_is text =
    let e : length (front_word text) ≡ length text - length (after_word text) =
    let h = ap length (front_after_is text) in omega (arith, length-append (front_word text) (after_word text), h) in
    ap (take (length text - length (after_word text))) (sym (front_after_is text)) ∙ take_at (front_word text) (after_word text) (length text - length (after_word text)) e

-- ---- parts

-- a text without blanks in front is empty or begins with none
unblanked_cons : (b : Bool) (code first : ℕ) (text rest : List ℕ) → is_blank code ≡ b
    → (after_blanks text ≡ first ∷ rest → is_blank first ≡ false)
    → (if b then after_blanks text else code ∷ text) ≡ first ∷ rest → is_blank first ≡ false
unblanked_cons true code first text rest is later h = later h
unblanked_cons false code first text rest is later h = let e : code ≡ first = cc in ap is_blank (sym e) ∙ is

unblanked : (text : List ℕ) (first : ℕ) (rest : List ℕ) → after_blanks text ≡ first ∷ rest → is_blank first ≡ false
unfolding after_blanks
unblanked [] first rest h = cc
unblanked (code ∷ text) first rest h = unblanked_cons (is_blank code) code first text rest refl (unblanked text first rest) h

-- a text that begins with no word
no_front : (text : List ℕ) → begins_wordy text ≡ false → front_word text ≡ []
unfolding front_word
no_front [] h = refl
no_front (code ∷ text) h = ap (λ b. if b then code ∷ front_word text else []) h

all_after : (text : List ℕ) → begins_wordy text ≡ false → after_word text ≡ text
unfolding after_word
all_after [] h = refl
all_after (code ∷ text) h = ap (λ b. if b then after_word text else code ∷ text) h

-- a letter in front of a word, or of none
begun_word : (b : Bool) (code : ℕ) (text : List ℕ) → begins_wordy text ≡ b
    → (b ≡ true → parts text ≡ Word (front_word text) ∷ parts (after_word text))
    → begun code b (parts text) ≡ Word (code ∷ front_word text) ∷ parts (after_word text)
begun_word true code text is later = ap (begun code true) (later refl)
begun_word false code text is later =
    ap (λ word. Word (code ∷ word) ∷ parts text) (sym (no_front text is))
    ∙ ap (λ rest. Word (code ∷ front_word text) ∷ parts rest) (sym (all_after text is))

parts_wordy : (code : ℕ) (text : List ℕ) → is_wordy code ≡ true → parts (code ∷ text) ≡ begun code (begins_wordy text) (parts text)
unfolding parts
parts_wordy code text h = ap (λ b. if b then begun code (begins_wordy text) (parts text) else if is_blank code then parts text else Mark code ∷ parts text) h

front_wordy : (code : ℕ) (text : List ℕ) → is_wordy code ≡ true → front_word (code ∷ text) ≡ code ∷ front_word text
unfolding front_word
front_wordy code text h = ap (λ b. if b then code ∷ front_word text else []) h

after_wordy : (code : ℕ) (text : List ℕ) → is_wordy code ≡ true → after_word (code ∷ text) ≡ after_word text
unfolding after_word
after_wordy code text h = ap (λ b. if b then after_word text else code ∷ text) h

word_parts : (text : List ℕ) → begins_wordy text ≡ true → parts text ≡ Word (front_word text) ∷ parts (after_word text)
word_parts [] h = cc
word_parts (code ∷ text) h =
    parts_wordy code text h
    ∙ begun_word (begins_wordy text) code text refl (word_parts text)
    ∙ ap (λ word. Word word ∷ parts (after_word text)) (sym (front_wordy code text h))
    ∙ ap (λ rest. Word (front_word (code ∷ text)) ∷ parts rest) (sym (after_wordy code text h))

wordy_front : (test : Bool) (text : List ℕ) → begins_wordy text ≡ test → 0 < length (front_word text) → begins_wordy text ≡ true
wordy_front true text is h = is
wordy_front false text is h = let none : length (front_word text) ≡ 0 = ap length (no_front text is) in absurd (omega arith)

-- a word at the front of a text is its first part
pub front_part_is : (text : List ℕ) → 0 < length (front_word text) → parts text ≡ Word (front_word text) ∷ parts (after_word text)
front_part_is text h = word_parts text (wordy_front (begins_wordy text) text refl h)

-- what stands at the front of a text without blanks there: a word
pub parts_word : (text rest : List ℕ) (first : ℕ) → text ≡ first ∷ rest → is_wordy first ≡ true → Word (front_word text) ∷ parts (after_word text) ≡ parts text
parts_word text rest first is h = sym (word_parts text (ap begins_wordy is ∙ h))

-- a mark
pub mark_parts : (code : ℕ) (text : List ℕ) → is_wordy code ≡ false → is_blank code ≡ false → parts (code ∷ text) ≡ Mark code ∷ parts text
unfolding parts
mark_parts code text h g =
    ap (λ b. if b then begun code (begins_wordy text) (parts text) else if is_blank code then parts text else Mark code ∷ parts text) h
    ∙ ap (λ b. if b then parts text else Mark code ∷ parts text) g

pub parts_mark : (text rest : List ℕ) (first : ℕ) → after_blanks text ≡ first ∷ rest → is_wordy first ≡ false → Mark first ∷ parts rest ≡ parts (after_blanks text)
parts_mark text rest first is h = sym (ap parts is ∙ mark_parts first rest h (unblanked text first rest is))

-- nothing
pub parts_end : parts [] ≡ []
unfolding parts
parts_end = refl
