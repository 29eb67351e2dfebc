-- Lists of registers, as a number with bit r set for each register r.
use Rattle.std.specs.Prelude.{ℕ, ◌+◌, ◌-◌, ◌^◌, ◌==◌, ◌&&◌, nat_le, if◌then◌else◌, Bool, false, List, [], ◌∷◌, ◌++◌, Option, Some, None, codes}
use Rattle.std.specs.List.{slice_split}
use Rattle.std.specs.Option.{option_map, option_and_then}
use Rattle.a32_forms.specs.Text.{Part, Word, Mark, comma, minus}
use Rattle.a32_forms.specs.Names.{register_of, register_name}
pub use Rattle.a32_forms.specs.declared.registers.Range.{Range}

-- registers from one to another, both with them
abbrev pub range : Option ℕ → Option ℕ → Option Range
range (Some first) (Some last) = Some (record { first = first; last = last })
range _ _ = None

-- an item of a list: a register, or two with `-` between
abbrev pub range_of : List Part → Option Range
range_of (Word first ∷ []) = range (register_of first) (register_of first)
range_of (Word first ∷ Mark dash ∷ Word last ∷ []) = if dash == minus then range (register_of first) (register_of last) else None
range_of _ = None

-- a range rises, and stands above the registers before it
abbrev pub rises : ℕ → Range → Bool
rises lowest item = nat_le lowest item.first && nat_le item.first item.last

abbrev pub mask : Range → ℕ
mask item = 2 ^ (item.last + 1) - 2 ^ item.first

-- the registers of a list whose items rise, each of them above those before it
unfoldable pub mask_from : ℕ → List (List Part) → Option ℕ
mask_from lowest [] = Some 0
mask_from lowest (item ∷ items) =
    option_and_then
    (λ found. if rises lowest found then option_map (λ others. mask found + others) (mask_from (found.last + 1) items) else None)
    (range_of item)

-- whether a part is this mark
abbrev pub is_mark : ℕ → Part → Bool
is_mark code (Word text) = false
is_mark code (Mark other) = other == code

-- the registers between braces, separated by commas
abbrev pub registers_in : List Part → Option ℕ
registers_in parts = mask_from 0 (slice_split (is_mark comma) parts)

-- a list as it is shown: each register of it, and a comma and a space between
unfoldable pub list_text : List ℕ → List ℕ
list_text [] = []
list_text (register ∷ []) = register_name register
list_text (register ∷ next ∷ registers) = register_name register ++ (codes ", " ++ list_text (next ∷ registers))
