-- How many accesses a thread makes at most.
use Rattle.std.specs.Prelude.{ℕ, ◌+◌, ◌*◌}
use Rattle.guest_calls.specs.Calls.{most_output}

-- in so many steps: 16 for each, one for each byte that it may write, and 16 of an instruction that isn't complete
abbrev pub most_accesses_in : ℕ → ℕ
most_accesses_in steps = 16 * steps + most_output + 16
