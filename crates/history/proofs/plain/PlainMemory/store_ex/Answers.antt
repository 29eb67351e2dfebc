-- To end the thread's own mark and then all marks on the row is to end those and then its own.
use Rattle.std.proofs.Common.{◌≡◌, ◌∙◌, None, arith, length-append, length-drop, length-set, length-take, map, refl, slice_set}
use Rattle.std.proofs.lemmas.List.{map-set, with_items_is}
use Rattle.std.specs.Vec.{with_item, with_items}
use Rattle.llsc_base.specs.Memory.{row_of, stored}
use Rattle.history.specs.Monitor.{unless_on}
use Rattle.history.proofs.plain.PlainMemory.store_ex.Goals as goal

pub returns-clause-stored : goal.returns-clause-stored
returns-clause-stored c =
    let row = row_of c.self.inside.granule c.args.place in
    let bytes : (with_items c.self.inside.bytes c.set.new.bytes).items ≡ c.set.new.bytes =
    with_items_is c.self.inside.bytes c.set.new.bytes (c.set.auto.bytes ∙ c.deref_mut.ensures.len) in
    let marks : (with_items (with_item c.self.inside.marks c.args.t c.take-mark.new.self) c.end_marks-self-inside.new.marks).items ≡ c.end_marks-self-inside.new.marks =
    with_items_is (with_item c.self.inside.marks c.args.t c.take-mark.new.self) c.end_marks-self-inside.new.marks (c.end_marks-self-inside.auto.marks ∙ c.deref_mut-2.ensures.len) in
    let memory : c.set.new.bytes ≡ stored c.self.inside.bytes.items c.args.place c.args.value =
    rw (← c.deref_mut.ensures.value) c.set.ensures in
    let ended : c.end_marks-self-inside.new.marks ≡ slice_set (map (unless_on row) c.self.inside.marks.items) c.args.t None =
    rw (c.end_marks-self-inside.ensures.ended, c.deref_mut-2.ensures.value, c.take-mark.ensures.after, c.row-row.ensures)
    (map-set (unless_on row) c.self.inside.marks.items c.args.t None) in
    rw (← c.self.view_is, bytes, marks, memory, ended) refl

pub returns-clause-size : goal.returns-clause-size
returns-clause-size c =
    rw (← c.self.view_is) (record {
      bytes = simp (length-take, length-append, length-drop) (omega (arith, c.self.inside.bytes.ok.0));
      threads = simp (length-set, length-take, length-append, length-drop) (omega (arith, c.self.inside.marks.ok.0));
      granule = refl;
    })
