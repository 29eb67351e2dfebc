-- Rows of bits, written as the manual prints them: from bit 31 down, a digit is a fixed bit, a letter stands
-- for a bit of the field of that name, and blanks are passed over.
use Rattle.std.specs.Prelude.{ℕ, ◌+◌, ◌*◌, ◌/◌, ◌%◌, ◌^◌, ◌==◌, ◌&&◌, ◌||◌, if◌then◌else◌, Bool, true, List, [], ◌∷◌, filter}

-- the bits of a word from a lowest one up, as many as the width says
abbrev pub bits_of : ℕ → ℕ → ℕ → ℕ
bits_of word low width = word / 2 ^ low % 2 ^ width

-- neighbouring bits of one kind: fixed bits (letter 0) with their value, or bits of the field of a letter
pub record Run : Type 0 where
  pub letter : ℕ
  pub low : ℕ
  pub width : ℕ
  pub value : ℕ

-- the letter of a bit, or 0 for a fixed bit, whose digit is 48 for 0 and 49 for 1
abbrev pub letter_of : ℕ → ℕ
letter_of code = if (code == 48) || (code == 49) then 0 else code

-- the value of a fixed bit by its digit
abbrev pub digit_of : ℕ → ℕ
digit_of code = if code == 49 then 1 else 0

-- one bit more above a run of the same kind, or a run of its own
abbrev pub above : ℕ → Run → List Run → List Run
above code run runs =
    if run.letter == letter_of code
    then record run { width = run.width + 1; value = run.value + digit_of code * 2 ^ run.width } ∷ runs
    else record { letter = letter_of code; low = run.low + run.width; width = 1; value = digit_of code } ∷ run ∷ runs

abbrev pub with_bit : ℕ → List Run → List Run
with_bit code [] = record { letter = letter_of code; low = 0; width = 1; value = digit_of code } ∷ []
with_bit code (run ∷ runs) = above code run runs

abbrev pub with_code : ℕ → List Run → List Run
with_code code runs = if code == 32 then runs else with_bit code runs

-- the runs of a row's text, from the highest bits down
abbrev pub runs : List ℕ → List Run
runs [] = []
runs (code ∷ text) = with_code code (runs text)

-- how many bits runs have together
abbrev pub width_of : List Run → ℕ
width_of [] = 0
width_of (run ∷ runs) = run.width + width_of runs

-- the number that the bits of runs spell, one run after another
abbrev pub value_of : ℕ → List Run → ℕ
value_of word [] = 0
value_of word (run ∷ []) = bits_of word run.low run.width
value_of word (run ∷ next ∷ runs) = bits_of word run.low run.width * 2 ^ width_of (next ∷ runs) + value_of word (next ∷ runs)

-- the runs of a field
abbrev pub runs_of : ℕ → List Run → List Run
runs_of letter runs = filter (λ run. run.letter == letter) runs

-- the value of a field in a word
abbrev pub field : ℕ → List Run → ℕ → ℕ
field word runs letter = value_of word (runs_of letter runs)

-- a word has each of these fixed bits
abbrev pub has_all : ℕ → List Run → Bool
has_all word [] = true
has_all word (run ∷ []) = bits_of word run.low run.width == run.value
has_all word (run ∷ next ∷ runs) = (bits_of word run.low run.width == run.value) && has_all word (next ∷ runs)

-- a word has the fixed bits of a row
abbrev pub has_bits : ℕ → List Run → Bool
has_bits word runs = has_all word (runs_of 0 runs)
