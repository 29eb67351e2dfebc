-- A store changes neither the number of bytes nor that of threads, and ends no mark where none is set.
use Rattle.std.proofs.Common.{◌≡◌, ◌∙◌, arith, length-append, length-drop, length-take, map, refl}
use Rattle.std.proofs.lemmas.List.{with_items_is}
use Rattle.std.specs.Vec.{with_items}
use Rattle.llsc_base.specs.Memory.{row_of, stored}
use Rattle.history.specs.Monitor.{unless_on}
use Rattle.history.proofs.Unmarked.{ended_unmarked}
use Rattle.history.proofs.plain.PlainMemory.store.Goals as goal

pub returns-then-self-clause-size : goal.returns-then-self-clause-size
returns-then-self-clause-size c =
    rw (← c.self.view_is) (record {
      bytes = simp (length-take, length-append, length-drop) (omega (arith, c.self.inside.bytes.ok.0));
      threads = simp (length-take, length-append, length-drop) (omega (arith, c.self.inside.marks.ok.0));
      granule = refl;
    })

pub returns-else-self-clause-stored : goal.returns-else-self-clause-stored
returns-else-self-clause-stored c =
    let row = row_of c.self.inside.granule c.args.place in
    let bytes : (with_items c.self.inside.bytes c.set.new.bytes).items ≡ c.set.new.bytes =
    with_items_is c.self.inside.bytes c.set.new.bytes (c.set.auto.bytes ∙ c.deref_mut.ensures.len) in
    let memory : c.set.new.bytes ≡ stored c.self.inside.bytes.items c.args.place c.args.value =
    rw (← c.deref_mut.ensures.value) c.set.ensures in
    let marks : map (unless_on row) c.self.inside.marks.items ≡ c.self.inside.marks.items =
    ended_unmarked c.self.inside.marks.items row (c.self.invariant.1 c.if-self.false) in
    rw (← c.self.view_is, bytes, memory, marks) refl

pub returns-else-self-clause-size : goal.returns-else-self-clause-size
returns-else-self-clause-size c =
    rw (← c.self.view_is) (record {
      bytes = simp (length-take, length-append, length-drop) (omega (arith, c.self.inside.bytes.ok.0));
      threads = refl;
      granule = refl;
    })
