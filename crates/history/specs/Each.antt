-- What is so of each entry of a history, by what stands before it. This project's own.
use Rattle.std.specs.Prelude.{◌≡◌, List, ◌∷◌, ◌++◌}
use Rattle.history.specs.declared.entry.Entry.{Entry}

-- something is so of each entry of a history, and of the entries before it
abbrev pub IsOfEach : (List Entry → Entry → Type 0) → List Entry → Type 0
IsOfEach is history = (past : List Entry) (entry : Entry) (rest : List Entry) → history ≡ past ++ (entry ∷ rest) → is past entry
