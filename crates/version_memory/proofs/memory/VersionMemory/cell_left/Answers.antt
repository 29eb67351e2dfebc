use Rattle.std.proofs.Common.{◌≡◌, ◌*◌, ℕ, ap, ◌∙◌, arith}
use Rattle.llsc_base.specs.Memory.{cell_of}
use Rattle.llsc_base.specs.declared.access.Size.TheVariants.{B8}
use Rattle.version_rule.specs.Left.{cell_left}
use Rattle.version_memory.specs.Memory.{memory_origin, pass_seen}
use Rattle.version_memory.proofs.memory.VersionMemory.cell_left.Goals as goal

cell-of : (cell : ℕ) → cell_of (record { addr = 8 * cell; size = B8 }) ≡ cell
unfolding cell_of
cell-of cell = omega arith

pub returns-clause-cell : goal.returns-clause-cell
returns-clause-cell c =
    c.look_at_left.ensures.found.cell_is
    ∙ ap (cell_left (memory_origin c.args.self.now) (pass_seen c.args.pass.now)) (cell-of c.args.cell)
