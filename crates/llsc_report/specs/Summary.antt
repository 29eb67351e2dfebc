-- The summary of a load: what the counters of its guest hold, and their sum.
use Rattle.std.specs.Prelude.{ℕ, ◌*◌, List, ◌++◌, codes, slice_index}
use Rattle.std.specs.Fmt.{decimal}
use Rattle.std.specs.List.{flat_map, range_with_len, sum_by}
use Rattle.llsc_base.specs.Memory.{cell_of}
use Rattle.row_bytes.specs.Cell.{value_in_cell}
use Rattle.guest_gen.specs.Counters.{counter_place, counters}
use Rattle.guest_gen.specs.Namings.{namings_of}

-- what a counter holds in a memory of these cells
abbrev pub counter_of : List ℕ → ℕ → ℕ
counter_of cells index = value_in_cell (slice_index cells (cell_of (counter_place index))) (counter_place index)

-- The summary. It begins with the numbers of the load.
abbrev pub load_line : (seed threads rounds : ℕ) → List ℕ
load_line seed threads rounds =
    codes "load seed " ++ (decimal seed ++ (codes " threads " ++ (decimal threads ++ (codes " rounds " ++ (decimal rounds ++ codes "\n")))))

-- the line of a counter
abbrev pub counter_line : (index value : ℕ) → List ℕ
counter_line index value = codes "counter " ++ (decimal index ++ (codes " " ++ (decimal value ++ codes "\n")))

-- the lines of the first counters, so many, each with what it holds
unfoldable pub counter_lines : (held : ℕ → ℕ) (count : ℕ) → List ℕ
counter_lines held count = flat_map (λ index. counter_line index (held index)) (range_with_len 0 count)

-- the sum of what the first counters hold, so many
unfoldable pub total_of : (held : ℕ → ℕ) (count : ℕ) → ℕ
total_of held count = sum_by held (range_with_len 0 count)

-- the line of the sum
abbrev pub total_line : ℕ → List ℕ
total_line total = codes "total " ++ (decimal total ++ codes "\n")

-- the summary where the counters hold this
abbrev pub summary_by : (seed threads rounds : ℕ) → (ℕ → ℕ) → List ℕ
summary_by seed threads rounds held = load_line seed threads rounds ++ (counter_lines held counters ++ total_line (total_of held counters))

-- The summary of a load of which each thread left with code 0: each counter is as often as its threads name it, and all
-- together are the rounds of all threads.
abbrev pub load_summary : (seed threads rounds : ℕ) → List ℕ
load_summary seed threads rounds =
    load_line seed threads rounds ++ (counter_lines (namings_of seed threads rounds) counters ++ total_line (threads * rounds))
