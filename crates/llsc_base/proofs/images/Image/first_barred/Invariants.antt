-- The words that the loop has passed are not barred.
use Rattle.std.proofs.Common.{◌≡◌, ◌+◌, ◌*◌, ◌-◌}
use Rattle.llsc_base.specs.Images.{first_barred, program_of}
use Rattle.llsc_base.proofs.images.Image.first_barred.Given as goal

abbrev pub invariant-loop-i : goal.invariant-loop-i
invariant-loop-i l =
    first_barred (program_of l.self.bytes l.self.spans l.self.entry) l.store (l.addr + 4 * l.i) (l.count - l.i)
    ≡ first_barred (program_of l.self.bytes l.self.spans l.self.entry) l.store l.addr l.count
