-- Lists of registers, item by item.
use Rattle.std.proofs.Common.{◌≡◌, ℕ, ◌+◌, ◌^◌, ◌<◌, ◌≤◌, ◌==◌, nat_le, if◌then◌else◌, Bool, true, false, List, [], ◌∷◌, Option, Some, None, IfSome, refl, sym, ap, ◌∙◌, arith, add_assoc}
use Rattle.std.specs.Option.{option_map, option_and_then}
use Rattle.std.specs.List.{slice_split}
use Rattle.std.proofs.Math.Pow.{pow_mono}
use Rattle.std.proofs.lemmas.Bool.{and_parts, leb-true}
use Rattle.a32_forms.specs.Text.{Part, Word, Mark, parts}
use Rattle.a32_forms.specs.Names.{named_registers, names_in, numbered_registers, or_else, place_from, register_of}
use Rattle.a32_forms.specs.Cuts.{before_code, from_code}
use Rattle.a32_forms.specs.Registers.{is_mark, mask, mask_from, range, range_of, registers_in, rises}
use Rattle.a32_forms.specs.declared.registers.Range.{Range}
use Rattle.a32_forms.proofs.Places.{place_bound}
use Rattle.a32_forms.proofs.CutParts.{IsMark, items_cut, items_more, items_end, more_items}

-- what an item leaves to the items behind it
abbrev with_item : ℕ → List (List Part) → Range → Option ℕ
with_item lowest items found = if rises lowest found then option_map (λ others. mask found + others) (mask_from (found.last + 1) items) else None

mask_cons : (lowest : ℕ) (item : List Part) (items : List (List Part)) → mask_from lowest (item ∷ items) ≡ option_and_then (with_item lowest items) (range_of item)
unfolding mask_from
mask_cons lowest item items = refl

mask_none : (lowest : ℕ) (item : List Part) (items : List (List Part)) → range_of item ≡ None → mask_from lowest (item ∷ items) ≡ None
mask_none lowest item items h = mask_cons lowest item items ∙ ap (option_and_then (with_item lowest items)) h

mask_if : (lowest : ℕ) (item : List Part) (items : List (List Part)) (found : Range) (b : Bool) → range_of item ≡ Some found → rises lowest found ≡ b
    → mask_from lowest (item ∷ items) ≡ (if b then option_map (λ others. mask found + others) (mask_from (found.last + 1) items) else None)
mask_if lowest item items found b h is =
    mask_cons lowest item items ∙ ap (option_and_then (with_item lowest items)) h
    ∙ ap (λ t. if t then option_map (λ others. mask found + others) (mask_from (found.last + 1) items) else None) is

with_both : (list more : ℕ) (others : Option ℕ) → option_map (λ o. list + o) (option_map (λ o. more + o) others) ≡ option_map (λ o. (list + more) + o) others
with_both list more None = refl
with_both list more (Some others) = ap Some (sym (add_assoc list more others))

with_none : (others : Option ℕ) → option_map (λ o. 0 + o) others ≡ others
with_none None = refl
with_none (Some others) = ap Some (omega arith)

comma : IsMark 44
comma = record { not_wordy = refl; not_blank = refl }

-- the registers of a text, after those of the items before it
abbrev pub registers_behind : ℕ → ℕ → List ℕ → Option ℕ
registers_behind list lowest text = option_map (λ others. list + others) (mask_from lowest (slice_split (is_mark 44) (parts text)))

-- none are before it
pub none_before : (text : List ℕ) → registers_behind 0 0 text ≡ registers_in (parts text)
none_before text = with_none (registers_in (parts text))

-- the first item is none
pub item_wrong : (list lowest : ℕ) (text : List ℕ) → range_of (parts (before_code 44 text)) ≡ None → registers_behind list lowest text ≡ None
item_wrong list lowest text h =
    ap (λ items. option_map (λ others. list + others) (mask_from lowest items)) (items_cut 44 text comma)
    ∙ ap (option_map (λ others. list + others)) (mask_none lowest (parts (before_code 44 text)) (more_items 44 (parts (from_code 44 text))) h)

-- it doesn't rise
pub item_falls : (list lowest : ℕ) (text : List ℕ) (found : Range) → range_of (parts (before_code 44 text)) ≡ Some found → rises lowest found ≡ false
    → registers_behind list lowest text ≡ None
item_falls list lowest text found h falls =
    ap (λ items. option_map (λ others. list + others) (mask_from lowest items)) (items_cut 44 text comma)
    ∙ ap (option_map (λ others. list + others)) (mask_if lowest (parts (before_code 44 text)) (more_items 44 (parts (from_code 44 text))) found false h falls)

-- it is the last
pub item_last : (list lowest : ℕ) (text : List ℕ) (found : Range) → range_of (parts (before_code 44 text)) ≡ Some found → rises lowest found ≡ true
    → from_code 44 text ≡ [] → registers_behind list lowest text ≡ Some (list + mask found)
unfolding mask_from
item_last list lowest text found h is e =
    ap (λ items. option_map (λ others. list + others) (mask_from lowest items)) (items_end 44 text comma e)
    ∙ ap (option_map (λ others. list + others)) (mask_if lowest (parts (before_code 44 text)) [] found true h is)
    ∙ ap Some (omega arith)

-- there are more
pub item_next : (list lowest : ℕ) (text after : List ℕ) (first : ℕ) (found : Range) → range_of (parts (before_code 44 text)) ≡ Some found → rises lowest found ≡ true
    → from_code 44 text ≡ first ∷ after → registers_behind list lowest text ≡ registers_behind (list + mask found) (found.last + 1) after
item_next list lowest text after first found h is e =
    ap (λ items. option_map (λ others. list + others) (mask_from lowest items)) (items_more 44 text after first comma e)
    ∙ ap (option_map (λ others. list + others)) (mask_if lowest (parts (before_code 44 text)) (slice_split (is_mark 44) (parts after)) found true h is)
    ∙ with_both list (mask found) (mask_from (found.last + 1) (slice_split (is_mark 44) (parts after)))

-- a range that rises
pub rises_is : (lowest : ℕ) (found : Range) → rises lowest found ≡ true → (lowest ≤ found.first) × (found.first ≤ found.last)
rises_is lowest found h =
    let both = and_parts (nat_le lowest found.first) (nat_le found.first found.last) h in
    (leb-true lowest found.first both.0, leb-true found.first found.last both.1)

-- its registers stand above those before it
pub mask_within : (list lowest : ℕ) (found : Range) → rises lowest found ≡ true → list < 2 ^ lowest → list + mask found < 2 ^ (found.last + 1)
mask_within list lowest found h less =
    let both = rises_is lowest found h in
    let up : 2 ^ lowest ≤ 2 ^ found.first = pow_mono both.0 in
    let rising : 2 ^ found.first ≤ 2 ^ (found.last + 1) = pow_mono (omega arith) in
    omega arith

-- ---- how great a list is at most

between_bound : (first last : Option ℕ) → IfSome first (λ v. v < 16) → IfSome last (λ v. v < 16) → IfSome (range first last) (λ found. found.last < 16)
between_bound (Some first) (Some last) h g = g
between_bound (Some first) None h g = tt
between_bound None last h g = tt

or_bound : (first later : Option ℕ) → IfSome first (λ v. v < 16) → IfSome later (λ v. v < 16) → IfSome (or_else first later) (λ v. v < 16)
or_bound None later h g = g
or_bound (Some value) later h g = h

register_bound : (word : List ℕ) → IfSome (register_of word) (λ v. v < 16)
register_bound word =
    or_bound (place_from 0 (names_in numbered_registers) word) (place_from 13 (names_in named_registers) word)
    (place_bound 0 (names_in numbered_registers) word 16 refl) (place_bound 13 (names_in named_registers) word 16 refl)

dash_bound : (test : Bool) (first last : List ℕ) → IfSome (if test then range (register_of first) (register_of last) else None) (λ found. found.last < 16)
dash_bound true first last = between_bound (register_of first) (register_of last) (register_bound first) (register_bound last)
dash_bound false first last = tt

range_bound : (item : List Part) → IfSome (range_of item) (λ found. found.last < 16)
range_bound [] = tt
range_bound (Mark code ∷ ps) = tt
range_bound (Word first ∷ []) = between_bound (register_of first) (register_of first) (register_bound first) (register_bound first)
range_bound (Word first ∷ Word other ∷ ps) = tt
range_bound (Word first ∷ Mark dash ∷ []) = tt
range_bound (Word first ∷ Mark dash ∷ Mark other ∷ ps) = tt
range_bound (Word first ∷ Mark dash ∷ Word last ∷ []) = dash_bound (dash == 45) first last
range_bound (Word first ∷ Mark dash ∷ Word last ∷ part ∷ ps) = tt

with_others : (more most : ℕ) (others : Option ℕ) (above lowest : ℕ) → more + lowest ≤ above → IfSome others (λ o. o + above ≤ most)
    → IfSome (option_map (λ o. more + o) others) (λ o. o + lowest ≤ most)
with_others more most None above lowest h g = tt
with_others more most (Some others) above lowest h g = omega arith

item_bound : (test : Bool) (lowest : ℕ) (found : Range) (others : Option ℕ) → rises lowest found ≡ test → IfSome others (λ o. o + 2 ^ (found.last + 1) ≤ 2 ^ 16)
    → IfSome (if test then option_map (λ o. mask found + o) others else None) (λ o. o + 2 ^ lowest ≤ 2 ^ 16)
item_bound false lowest found others h g = tt
item_bound true lowest found others h g =
    let both = rises_is lowest found h in
    let up : 2 ^ lowest ≤ 2 ^ found.first = pow_mono both.0 in
    let rising : 2 ^ found.first ≤ 2 ^ (found.last + 1) = pow_mono {j = found.last + 1} (omega arith) in
    with_others (mask found) (2 ^ 16) others (2 ^ (found.last + 1)) (2 ^ lowest) (omega arith) g

items_bound : (found : Option Range) (lowest : ℕ) (items : List (List Part)) → IfSome found (λ f. f.last < 16)
    → ((lower : ℕ) → lower ≤ 16 → IfSome (mask_from lower items) (λ o. o + 2 ^ lower ≤ 2 ^ 16))
    → IfSome (option_and_then (with_item lowest items) found) (λ o. o + 2 ^ lowest ≤ 2 ^ 16)
items_bound None lowest items h later = tt
items_bound (Some found) lowest items h later =
    item_bound (rises lowest found) lowest found (mask_from (found.last + 1) items) refl (later (found.last + 1) (omega (arith, h)))

mask_bound : (lowest : ℕ) (items : List (List Part)) → lowest ≤ 16 → IfSome (mask_from lowest items) (λ o. o + 2 ^ lowest ≤ 2 ^ 16)
unfolding mask_from
mask_bound lowest [] h = let most : 2 ^ lowest ≤ 2 ^ 16 = pow_mono {j = 16} h in omega arith
mask_bound lowest (item ∷ items) h = items_bound (range_of item) lowest items (range_bound item) (λ lower g. mask_bound lower items g)

above_none : (list : Option ℕ) → IfSome list (λ o. o + 2 ^ 0 ≤ 2 ^ 16) → IfSome list (λ o. o < 2 ^ 16)
above_none None h = tt
above_none (Some list) h = omega (arith, h)

pub registers_bound : (ps : List Part) → IfSome (registers_in ps) (λ list. list < 2 ^ 16)
registers_bound ps = above_none (registers_in ps) (mask_bound 0 (slice_split (is_mark 44) ps) (omega arith))
