-- What the tests of a file without a fault of its program headers say of its image.
use Rattle.std.proofs.Common.{length, refl, arith}
use Rattle.std.specs.Prelude.{All}
use Rattle.elf32.specs.Image.{image_of}
use Rattle.elf32.specs.inner.Image.{IsPlaced}
use Rattle.elf32.proofs.Loadable.{loadable, loadable-placed, loadable-program, loadable-entry}
use Rattle.elf32.proofs.loader.image.Goals as goal

pub memory-requires-clause-placed : goal.memory-requires-clause-placed
memory-requires-clause-placed c =
    rw (c.requires.segments, c.mem.ensures.number) (loadable-placed _ _ (loadable _ c.args.size.now c.requires.header c.requires.sound))

pub memory-requires-clause-apart : goal.memory-requires-clause-apart
memory-requires-clause-apart c = rw c.requires.segments (loadable _ c.args.size.now c.requires.header c.requires.sound).apart

pub spans-requires : goal.spans-requires
spans-requires c = λ k d h.
    let sound : All (IsPlaced (length c.args.bytes.now) c.args.size.now.mem) c.args.segments.now = rw c.requires.segments (loadable-placed _ _ (loadable _ c.args.size.now c.requires.header c.requires.sound)) in
    let here = (sound k d h).inside in
    omega arith

pub of-requires : goal.of-requires
of-requires c =
    rw (c.in_ok-memory.ensures, c.in_ok-spans.ensures, c.entry_field.ensures, c.requires.segments, c.mem.ensures.number)
    (loadable-program _ _ (loadable _ c.args.size.now c.requires.header c.requires.sound))

pub returns : goal.returns
unfolding image_of
returns c =
    rw (c.of.ensures, c.in_ok-memory.ensures, c.in_ok-spans.ensures, c.entry_field.ensures, c.requires.segments, c.mem.ensures.number, loadable-entry _ _ (loadable _ c.args.size.now c.requires.header c.requires.sound)) refl
