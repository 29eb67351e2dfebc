-- The parts of a text that is cut at a mark.
use Rattle.std.proofs.Common.{◌≡◌, ℕ, ◌==◌, if◌then◌else◌, Bool, true, false, List, [], ◌∷◌, refl, sym, ap, ◌∙◌}
use Rattle.std.specs.List.{slice_split, onto_first}
use Rattle.std.proofs.lemmas.Bool.{eqb-true}
use Rattle.a32_forms.specs.Text.{Part, Word, Mark, parts, begun, begins_wordy, is_wordy, is_blank}
use Rattle.a32_forms.specs.Cuts.{before_code, from_code}
use Rattle.a32_forms.specs.Registers.{is_mark}
use Rattle.a32_forms.specs.Forms.{before_mark, from_mark}
use Rattle.a32_forms.proofs.FrontWords.{mark_parts, parts_end}

-- a byte that is a mark
pub record IsMark (code : ℕ) : Type 0 where
  pub not_wordy : is_wordy code ≡ false
  pub not_blank : is_blank code ≡ false

-- a letter in front of parts that are cut
begun_at : (b : Bool) (code other : ℕ) (ps : List Part)
    → Word (code ∷ []) ∷ (if b then [] else Mark other ∷ ps) ≡ begun code true (if b then [] else Mark other ∷ ps)
begun_at true code other ps = refl
begun_at false code other ps = refl

begun_before : (mark code : ℕ) (b : Bool) (ps : List Part) → before_mark mark (begun code b ps) ≡ begun code b (before_mark mark ps)
unfolding before_mark
begun_before mark code true [] = refl
begun_before mark code true (Word text ∷ ps) = refl
begun_before mark code true (Mark other ∷ ps) = begun_at (other == mark) code other (before_mark mark ps)
begun_before mark code false ps = refl

begun_from : (mark code : ℕ) (b : Bool) (ps : List Part) → from_mark mark (begun code b ps) ≡ from_mark mark ps
unfolding from_mark
begun_from mark code true [] = refl
begun_from mark code true (Word text ∷ ps) = refl
begun_from mark code true (Mark other ∷ ps) = refl
begun_from mark code false ps = refl

-- a cut text begins as the text does
wordy_if : (b : Bool) (mark code : ℕ) (text : List ℕ) → IsMark mark → (code == mark) ≡ b
    → begins_wordy (if b then [] else code ∷ text) ≡ is_wordy code
wordy_if true mark code text h is = let e : mark ≡ code = sym (eqb-true code mark is) in sym (ap is_wordy (sym e) ∙ h.not_wordy)
wordy_if false mark code text h is = refl

wordy_before : (mark : ℕ) (text : List ℕ) → IsMark mark → begins_wordy (before_code mark text) ≡ begins_wordy text
unfolding before_code
wordy_before mark [] h = refl
wordy_before mark (code ∷ text) h = wordy_if (code == mark) mark code (before_code mark text) h refl

-- the parts of a text with a byte in front
abbrev parts_with : (wordy blank : Bool) → ℕ → Bool → List Part → List Part
parts_with wordy blank code begins ps = if wordy then begun code begins ps else if blank then ps else Mark code ∷ ps

parts_cons : (code : ℕ) (text : List ℕ) → parts (code ∷ text) ≡ parts_with (is_wordy code) (is_blank code) code (begins_wordy text) (parts text)
unfolding parts
parts_cons code text = refl

-- a byte that is the mark, or none
abbrev Cuts : Bool → Bool → Bool → Type 0
Cuts cut wordy blank = cut ≡ true → (wordy ≡ false) × (blank ≡ false)

cuts : (mark code : ℕ) → IsMark mark → Cuts (code == mark) (is_wordy code) (is_blank code)
cuts mark code h is =
    let e : code ≡ mark = eqb-true code mark is in
    (ap is_wordy e ∙ h.not_wordy, ap is_blank e ∙ h.not_blank)

-- the parts before the mark

before_at : (wordy blank cut : Bool) (mark code : ℕ) (begins begun_so : Bool) (ps qs : List Part)
    → begun_so ≡ begins → before_mark mark ps ≡ qs → (code == mark) ≡ cut → Cuts cut wordy blank
    → before_mark mark (parts_with wordy blank code begins ps) ≡ (if cut then [] else parts_with wordy blank code begun_so qs)
unfolding before_mark
before_at true blank true mark code begins begun_so ps qs e h is not = let never : true ≡ false = (not refl).0 in cc
before_at false true true mark code begins begun_so ps qs e h is not = let never : true ≡ false = (not refl).1 in cc
before_at false false true mark code begins begun_so ps qs e h is not = ap (λ b. if b then [] else Mark code ∷ before_mark mark ps) is
before_at true blank false mark code begins begun_so ps qs e h is not =
    begun_before mark code begins ps ∙ ap (begun code begins) h ∙ ap (λ b. begun code b qs) (sym e)
before_at false true false mark code begins begun_so ps qs e h is not = h
before_at false false false mark code begins begun_so ps qs e h is not =
    ap (λ b. if b then [] else Mark code ∷ before_mark mark ps) is ∙ ap (λ t. Mark code ∷ t) h

parts_if : (cut : Bool) (code : ℕ) (text : List ℕ)
    → (if cut then [] else parts_with (is_wordy code) (is_blank code) code (begins_wordy text) (parts text)) ≡ parts (if cut then [] else code ∷ text)
unfolding parts
parts_if true code text = refl
parts_if false code text = refl

pub before_parts : (mark : ℕ) (text : List ℕ) → IsMark mark → before_mark mark (parts text) ≡ parts (before_code mark text)
unfolding before_code before_mark parts
before_parts mark [] h = refl
before_parts mark (code ∷ text) h =
    ap (before_mark mark) (parts_cons code text)
    ∙ before_at (is_wordy code) (is_blank code) (code == mark) mark code (begins_wordy text) (begins_wordy (before_code mark text)) (parts text) (parts (before_code mark text)) (wordy_before mark text h) (before_parts mark text h) refl (cuts mark code h)
    ∙ parts_if (code == mark) code (before_code mark text)

-- the parts from the mark on

from_at : (wordy blank cut : Bool) (mark code : ℕ) (begins : Bool) (ps : List Part) → (code == mark) ≡ cut → Cuts cut wordy blank
    → from_mark mark (parts_with wordy blank code begins ps) ≡ (if cut then parts_with wordy blank code begins ps else from_mark mark ps)
unfolding from_mark
from_at true blank true mark code begins ps is not = let never : true ≡ false = (not refl).0 in cc
from_at false true true mark code begins ps is not = let never : true ≡ false = (not refl).1 in cc
from_at false false true mark code begins ps is not = ap (λ b. if b then Mark code ∷ ps else from_mark mark ps) is
from_at true blank false mark code begins ps is not = begun_from mark code begins ps
from_at false true false mark code begins ps is not = refl
from_at false false false mark code begins ps is not = ap (λ b. if b then Mark code ∷ ps else from_mark mark ps) is

from_if : (cut : Bool) (mark code : ℕ) (text : List ℕ) → from_mark mark (parts text) ≡ parts (from_code mark text)
    → (if cut then parts_with (is_wordy code) (is_blank code) code (begins_wordy text) (parts text) else from_mark mark (parts text))
    ≡ parts (if cut then code ∷ text else from_code mark text)
from_if true mark code text h = sym (parts_cons code text)
from_if false mark code text h = h

pub from_parts : (mark : ℕ) (text : List ℕ) → IsMark mark → from_mark mark (parts text) ≡ parts (from_code mark text)
unfolding from_code from_mark parts
from_parts mark [] h = refl
from_parts mark (code ∷ text) h =
    ap (from_mark mark) (parts_cons code text)
    ∙ from_at (is_wordy code) (is_blank code) (code == mark) mark code (begins_wordy text) (parts text) refl (cuts mark code h)
    ∙ from_if (code == mark) mark code text (from_parts mark text h)

-- the list of the pieces of parts

abbrev pub more_items : ℕ → List Part → List (List Part)
more_items mark [] = []
more_items mark (part ∷ ps) = slice_split (is_mark mark) ps

split_at : (cut : Bool) (mark : ℕ) (part : Part) (ps : List Part) → slice_split (is_mark mark) ps ≡ before_mark mark ps ∷ more_items mark (from_mark mark ps)
    → (if cut then [] ∷ slice_split (is_mark mark) ps else onto_first part (slice_split (is_mark mark) ps))
    ≡ (if cut then [] else part ∷ before_mark mark ps) ∷ more_items mark (if cut then part ∷ ps else from_mark mark ps)
split_at true mark part ps h = refl
split_at false mark part ps h = ap (onto_first part) h

split_parts : (mark : ℕ) (ps : List Part) → slice_split (is_mark mark) ps ≡ before_mark mark ps ∷ more_items mark (from_mark mark ps)
unfolding before_mark from_mark
split_parts mark [] = refl
split_parts mark (part ∷ ps) = split_at (is_mark mark part) mark part ps (split_parts mark ps)

-- the items of a text: the first, and then those behind it
pub items_cut : (mark : ℕ) (text : List ℕ) → IsMark mark
    → slice_split (is_mark mark) (parts text) ≡ parts (before_code mark text) ∷ more_items mark (parts (from_code mark text))
items_cut mark text h =
    split_parts mark (parts text)
    ∙ ap (λ item. item ∷ more_items mark (from_mark mark (parts text))) (before_parts mark text h)
    ∙ ap (λ rest. parts (before_code mark text) ∷ more_items mark rest) (from_parts mark text h)

first_at : (cut : Bool) (mark code first : ℕ) (text after : List ℕ) → (code == mark) ≡ cut
    → (from_code mark text ≡ first ∷ after → first ≡ mark)
    → (if cut then code ∷ text else from_code mark text) ≡ first ∷ after → first ≡ mark
first_at true mark code first text after is later h = let e : code ≡ mark = eqb-true code mark is in cc
first_at false mark code first text after is later h = later h

first_is : (mark : ℕ) (text : List ℕ) (first : ℕ) (after : List ℕ) → from_code mark text ≡ first ∷ after → first ≡ mark
unfolding from_code
first_is mark [] first after h = cc
first_is mark (code ∷ text) first after h = first_at (code == mark) mark code first text after refl (first_is mark text first after) h

-- there are more items behind the mark
pub items_more : (mark : ℕ) (text after : List ℕ) (first : ℕ) → IsMark mark → from_code mark text ≡ first ∷ after
    → slice_split (is_mark mark) (parts text) ≡ parts (before_code mark text) ∷ slice_split (is_mark mark) (parts after)
items_more mark text after first h e =
    let is : first ≡ mark = first_is mark text first after e in
    items_cut mark text h
    ∙ ap (λ rest. parts (before_code mark text) ∷ more_items mark rest)
    (ap parts e ∙ mark_parts first after (ap is_wordy is ∙ h.not_wordy) (ap is_blank is ∙ h.not_blank))

-- there are none
pub items_end : (mark : ℕ) (text : List ℕ) → IsMark mark → from_code mark text ≡ []
    → slice_split (is_mark mark) (parts text) ≡ parts (before_code mark text) ∷ []
items_end mark text h e = items_cut mark text h ∙ ap (λ rest. parts (before_code mark text) ∷ more_items mark rest) (ap parts e ∙ parts_end)

-- ---- the parts before a closing brace, and those from it on

brace : IsMark 125
brace = record { not_wordy = refl; not_blank = refl }

pub before_brace : (text : List ℕ) → before_mark 125 (parts text) ≡ parts (before_code 125 text)
before_brace text = before_parts 125 text brace

pub from_brace : (text : List ℕ) → from_mark 125 (parts text) ≡ parts (from_code 125 text)
from_brace text = from_parts 125 text brace
