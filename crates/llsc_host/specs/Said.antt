-- What the program says of what it can't do.
use Rattle.std.specs.Prelude.{ℕ, List, ◌++◌, codes}

-- the text for words that ask for nothing that there is
abbrev pub words_text : List ℕ
words_text = codes "llsc: words\n"

-- the text for a file that could not be read
abbrev pub read_text : List ℕ
read_text = codes "llsc: read failed\n"

-- the text of a refusal by its name
abbrev pub refusal_text : List ℕ → List ℕ
refusal_text name = codes "llsc: " ++ (name ++ codes "\n")
