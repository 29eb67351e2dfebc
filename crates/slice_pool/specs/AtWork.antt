-- A worker of a pool before it begins.
use Rattle.std.specs.Prelude.{◌≡◌, ◌≤◌, ℕ, [], vec_capacity}
use Rattle.llsc_base.specs.Images.{Program}
use Rattle.slice_pool.specs.declared.crews.Desk.{Desk}

-- a worker that hasn't begun has this program, and room for the ends of so many guests
pub record IsFree (program : Program) (count : ℕ) {P : Type 0} (desk : Desk P) : Type 0 where
  pub code : desk.code.program ≡ program
  pub none : desk.done.items ≡ []
  pub room : count ≤ vec_capacity desk.done
