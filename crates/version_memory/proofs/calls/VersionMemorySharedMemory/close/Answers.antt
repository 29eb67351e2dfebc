use Rattle.std.proofs.Common.{◌≡◌, ◌+◌, ◌/◌, ◌<◌, ℕ, List, length, take, drop, slice_index, ap, ◌∙◌, length-drop, length-take, arith}
use Rattle.std.specs.Mem.Slots.{slots_counts, slots_items}
use Rattle.llsc_base.specs.Sizes.{Numbers}
use Rattle.version_rule.proofs.Closing.{cells-closed, over-closed}
use Rattle.shared_memory.proofs.Closing.{part-at}
use Rattle.version_memory.proofs.calls.VersionMemorySharedMemory.close.Goals as goal

pub new-rows-requires-clause-none : goal.new-rows-requires-clause-none
new-rows-requires-clause-none c = c.close_with-closed.ensures.counts.1 ∙ c.args.self.made.slotless

pub returns-clause-legal : goal.returns-clause-legal
returns-clause-legal c = (over-closed c.args.self.table.shared.key (slots_items c.close_with-closed.result.words) (slots_items c.close_with-closed.result.slots) c.args.pass.seat.id c.args.pass.seat.me.0
    c.requires.all c.args.pass.between.rest c.close_with-closed.ensures.values.2).legal

pub returns-clause-complete : goal.returns-clause-complete
returns-clause-complete c = (over-closed c.args.self.table.shared.key (slots_items c.close_with-closed.result.words) (slots_items c.close_with-closed.result.slots) c.args.pass.seat.id c.args.pass.seat.me.0
    c.requires.all c.args.pass.between.rest c.close_with-closed.ensures.values.2).complete

pub returns-clause-few : goal.returns-clause-few
returns-clause-few c spends = (over-closed c.args.self.table.shared.key (slots_items c.close_with-closed.result.words) (slots_items c.close_with-closed.result.slots) c.args.pass.seat.id c.args.pass.seat.me.0
    c.requires.all c.args.pass.between.rest c.close_with-closed.ensures.values.2).few

pub returns-clause-steady : goal.returns-clause-steady
returns-clause-steady c steady = (over-closed c.args.self.table.shared.key (slots_items c.close_with-closed.result.words) (slots_items c.close_with-closed.result.slots) c.args.pass.seat.id c.args.pass.seat.me.0
    c.requires.all c.args.pass.between.rest c.close_with-closed.ensures.values.2).steady

pub returns-clause-cells : goal.returns-clause-cells
returns-clause-cells c i h =
    let key = c.args.self.table.shared.key in
    let items = slots_items c.close_with-closed.result.words in
    let first = 1 + c.classes.result in
    let count = c.mem.result / 8 in
    let rows : c.new-rows.result ≡ take count (drop first items) = c.new-rows.ensures in
    let below : i < count = omega (arith, ap length rows, length-take count (drop first items)) in
    let classes : c.classes.result ≡ key.size.classes = c.classes.ensures.number ∙ ap (λ (n : Numbers). n.classes) c.args.self.sized in
    let mem : c.mem.result ≡ key.size.mem = c.mem.ensures.number ∙ ap (λ (n : Numbers). n.mem) c.args.self.sized in
    let within : i < key.size.mem / 8 = omega arith in
    ap (λ (xs : List ℕ). slice_index xs i) rows
    ∙ part-at items first count i below
    ∙ ap (λ (n : ℕ). slice_index items (1 + n + i)) classes
    ∙ cells-closed key items (slots_items c.close_with-closed.result.slots) c.args.pass.seat.id c.args.pass.seat.me.0 c.requires.all c.args.pass.between.rest c.close_with-closed.ensures.values.2 i within

pub returns-clause-count : goal.returns-clause-count
returns-clause-count c =
    let key = c.args.self.table.shared.key in
    let items = slots_items c.close_with-closed.result.words in
    let first = 1 + c.classes.result in
    let count = c.mem.result / 8 in
    let rows : c.new-rows.result ≡ take count (drop first items) = c.new-rows.ensures in
    let classes : c.classes.result ≡ key.size.classes = c.classes.ensures.number ∙ ap (λ (n : Numbers). n.classes) c.args.self.sized in
    let mem : c.mem.result ≡ key.size.mem = c.mem.ensures.number ∙ ap (λ (n : Numbers). n.mem) c.args.self.sized in
    omega (
      arith,
      (slots_counts c.close_with-closed.result.words).0,
      c.close_with-closed.ensures.counts.0,
      c.args.self.made.sized,
      c.args.self.made.whole,
      ap length rows,
      length-take count (drop first items),
      length-drop first items,
    )
