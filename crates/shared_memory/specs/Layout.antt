-- Where the words of a memory's table stand: one for the memory itself, the classes' tags, and the cells. This project's own.
use Rattle.std.specs.Prelude.{ℕ, ◌+◌, ◌/◌}
use Rattle.llsc_base.specs.Sizes.{Numbers}

-- how many there are
abbrev pub words_of : Numbers → ℕ
words_of size = 1 + size.classes + size.mem / 8

-- the word of a class's tag, and of a cell
abbrev pub tag_word : ℕ → ℕ
tag_word class = 1 + class

abbrev pub cell_word : Numbers → ℕ → ℕ
cell_word size cell = 1 + size.classes + cell
