-- Which counters the threads of the counter guest name.
use Rattle.std.specs.Prelude.{ℕ, zero, suc, ◌+◌, ◌*◌, ◌/◌, ◌%◌, ◌^◌, ◌==◌, if◌then◌else◌, List, [], ◌∷◌}

-- the next number of the generator
abbrev pub drawn_after : ℕ → ℕ
drawn_after x = (1664525 * x + 1013904223) % 2 ^ 32

-- the counter that a drawn number names: its highest four bits
abbrev pub named_by : ℕ → ℕ
named_by x = x / 2 ^ 28

-- where a thread begins its draws
abbrev pub first_draw : (seed thread : ℕ) → ℕ
first_draw seed thread = (seed + thread) % 2 ^ 32

-- the counters that are named in so many rounds behind a draw, in order
unfoldable pub named_in : (x rounds : ℕ) → List ℕ
named_in x zero = []
named_in x (suc rounds) = named_by (drawn_after x) ∷ named_in (drawn_after x) rounds

-- one where a counter is named
abbrev pub one_at : (index named : ℕ) → ℕ
one_at index named = if named == index then 1 else 0

-- how often a counter is named in so many rounds behind a draw
unfoldable pub namings_in : (x rounds index : ℕ) → ℕ
namings_in x zero index = 0
namings_in x (suc rounds) index = one_at index (named_by (drawn_after x)) + namings_in (drawn_after x) rounds index

-- how often all threads below a number name a counter
unfoldable pub namings_of : (seed threads rounds index : ℕ) → ℕ
namings_of seed zero rounds index = 0
namings_of seed (suc thread) rounds index = namings_of seed thread rounds index + namings_in (first_draw seed thread) rounds index
