-- The parts of a line of assembler text.
use Rattle.std.specs.Prelude.{ℕ, ◌==◌, ◌&&◌, ◌||◌, not, nat_le, if◌then◌else◌, Bool, true, false, List, [], ◌∷◌}
use Rattle.number_text.specs.Digits.{is_digit}

-- Characters, by their ASCII codes.

abbrev pub tab : ℕ
tab = 9

abbrev pub space : ℕ
space = 32

abbrev pub exclamation : ℕ
exclamation = 33

abbrev pub comma : ℕ
comma = 44

abbrev pub minus : ℕ
minus = 45

abbrev pub underscore : ℕ
underscore = 95

abbrev pub bar : ℕ
bar = 124

abbrev pub closing_brace : ℕ
closing_brace = 125

abbrev pub tilde : ℕ
tilde = 126

-- A letter, or what else may stand in a word: a digit or `_`.

abbrev pub is_letter : ℕ → Bool
is_letter code = (nat_le 65 code && nat_le code 90) || (nat_le 97 code && nat_le code 122)

abbrev pub is_wordy : ℕ → Bool
is_wordy code = is_letter code || is_digit code || (code == underscore)

-- a space or a tab
abbrev pub is_blank : ℕ → Bool
is_blank code = (code == space) || (code == tab)

-- a word, or a mark: a byte that is neither part of a word nor a blank
pub data Part : Type 0 where
  Word : (text : List ℕ) → Part
  Mark : (code : ℕ) → Part

-- the text begins with part of a word
abbrev pub begins_wordy : List ℕ → Bool
begins_wordy [] = false
begins_wordy (code ∷ text) = is_wordy code

-- a letter in front of the first word, or in front of what is no word as a word of its own
abbrev pub begun : ℕ → Bool → List Part → List Part
begun code true (Word text ∷ parts) = Word (code ∷ text) ∷ parts
begun code true parts = Word (code ∷ []) ∷ parts
begun code false parts = Word (code ∷ []) ∷ parts

-- the words and marks of a text: a word is as long as it can be, and blanks only part words
unfoldable pub parts : List ℕ → List Part
parts [] = []
parts (code ∷ text) =
    if is_wordy code then begun code (begins_wordy text) (parts text) else
    if is_blank code then parts text else
    Mark code ∷ parts text

-- the word at the front of a text, which may be empty, and what stands behind it
unfoldable pub front_word : List ℕ → List ℕ
front_word [] = []
front_word (code ∷ text) = if is_wordy code then code ∷ front_word text else []

unfoldable pub after_word : List ℕ → List ℕ
after_word [] = []
after_word (code ∷ text) = if is_wordy code then after_word text else code ∷ text

-- a text without the blanks in front
unfoldable pub after_blanks : List ℕ → List ℕ
after_blanks [] = []
after_blanks (code ∷ text) = if is_blank code then after_blanks text else code ∷ text

-- a word that is a name: it doesn't begin with a digit
abbrev pub is_name : List ℕ → Bool
is_name [] = false
is_name (code ∷ text) = not (is_digit code)
