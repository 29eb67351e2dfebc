-- The file that is written of the stack guest gives its image.
use Rattle.std.proofs.Common.{◌≡◌, ℕ, ◌+◌, ◌*◌, ◌≤◌, lit≤, lit<, arith}
use Rattle.llsc_base.specs.Sizes.{Numbers, room_of}
use Rattle.elf32.specs.Image.{image_of}
use Rattle.elf32.specs.Units.{IsWithin, end_of}
use Rattle.elf32.specs.Written.{written_file}
use Rattle.elf32.proofs.Accepted.{accepted}
use Rattle.stack_runs.specs.Guest.{stack_image, stack_unit}
use Rattle.stack_runs.proofs.AtFirst.{length-stack_data}

within : (nodes rounds : ℕ) → nodes ≤ 64 → IsWithin (stack_unit nodes rounds)
within nodes rounds few = record { code = lit≤ tt; bytes = let long = length-stack_data nodes in omega (arith, few, long) }

ends_there : (nodes rounds : ℕ) (size : Numbers) → 8256 + 8 * nodes ≤ room_of size → end_of (stack_unit nodes rounds) ≤ room_of size
ends_there nodes rounds size room = let long = length-stack_data nodes in grind (arith, long, room)

pub filed : (nodes rounds : ℕ) (size : Numbers) → nodes ≤ 64 → 8256 + 8 * nodes ≤ room_of size
    → image_of (written_file (stack_unit nodes rounds)) size ≡ stack_image nodes rounds size
filed nodes rounds size few room =
    (accepted (stack_unit nodes rounds) size (within nodes rounds few) (lit< tt) (ends_there nodes rounds size room)).1
