-- Which bytes a machine's memory may begin as.
use Rattle.std.specs.Prelude.{◌≡◌, ℕ, ◌%◌, ◌<◌, List, length, slice_index}
use Rattle.llsc_base.specs.Sizes.{Numbers}

-- memory of a machine's size, in whole cells of bytes
pub record IsMemory (size : Numbers) (bytes : List ℕ) : Type 0 where
  pub sized : length bytes ≡ size.mem
  pub whole : size.mem % 8 ≡ 0
  pub small : (k : ℕ) → slice_index bytes k < 256
