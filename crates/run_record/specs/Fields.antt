-- Fields of a text: words that each have one byte behind them.
use Rattle.std.specs.Prelude.{ℕ, ◌==◌, if◌then◌else◌, List, [], ◌∷◌, drop, take, length, Option, Some, None, option_map, option_and_then}
use Rattle.std.specs.Str.{bytes_eq}

-- what is read at the front of bytes, and what stands behind it
abbrev pub Read : Type 0 → Type 0
Read A = Option (A × List ℕ)

infixl 10 ◌>>=◌
abbrev pub ◌>>=◌ : {A B : Type 0} → Option A → (A → Option B) → Option B
read >>= next = option_and_then next read

-- what stands behind a text
abbrev pub after : List ℕ → List ℕ → Option (List ℕ)
after text bytes = if bytes_eq (take (length text) bytes) text then Some (drop (length text) bytes) else None

-- the word before the first of a byte
unfoldable pub cut : ℕ → List ℕ → Read (List ℕ)
cut code [] = None
cut code (byte ∷ bytes) = if byte == code then Some ([], bytes) else option_map (λ read. (byte ∷ read.0, read.1)) (cut code bytes)

-- what the word before the first of a byte means
abbrev pub field : {A : Type 0} → (List ℕ → Option A) → ℕ → List ℕ → Read A
field meaning code bytes = do
  word ← cut code bytes
  value ← meaning word.0
  Some (value, word.1)
