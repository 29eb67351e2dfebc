-- What holds of the field of an `Output`.
use Rattle.std.specs.Prelude.{◌≤◌, length, vec_capacity}
use Rattle.guest_calls.specs.Calls.{most_output}
use Rattle.guest_calls.specs.declared.output.Output.TheInside.{Inside}

-- room for all of its bytes is reserved, and no more of it is used
pub record IsReserved (output : Inside) : Type 0 where
  pub used : length output.written.items ≤ most_output
  pub reserved : most_output ≤ vec_capacity output.written
