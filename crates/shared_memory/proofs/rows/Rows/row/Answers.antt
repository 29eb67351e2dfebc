use Rattle.std.proofs.Common.{◌<◌, ◌+◌, ◌∙◌, sym, ap, get_or, drop, length, List, ℕ, arith, get_or-take, get_or-drop, length-take}
use Rattle.std.specs.Mem.Slots.{slots_items}
use Rattle.shared_memory.proofs.Lists.{get_or-at}
use Rattle.shared_memory.proofs.rows.Rows.row.Goals as goal

pub returns : goal.returns
returns c =
    let items = slots_items c.self.inside.closed.words in
    let below : c.args.i < c.self.inside.count = omega (arith, ap length c.self.view_is, length-take c.self.inside.count (drop c.self.inside.base items), c.requires) in
    sym (ap (λ (xs : List ℕ). get_or xs c.args.i 0) (sym c.self.view_is) ∙ get_or-take c.self.inside.count (drop c.self.inside.base items) c.args.i 0 below
    ∙ get_or-drop c.self.inside.base items c.args.i 0 ∙ get_or-at items (c.self.inside.base + c.args.i) c.word.result 0 c.word.ensures)
