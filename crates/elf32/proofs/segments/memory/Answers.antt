-- A segment more is copied, and at the end all of them.
use Rattle.std.proofs.Common.{◌≡◌, length, ◌∙◌, ap, sym, slice_index, take, drop}
use Rattle.std.proofs.lemmas.List.{take_at, take_all}
use Rattle.llsc_base.proofs.Values.{values_below-is}
use Rattle.elf32.specs.Image.{byte_at}
use Rattle.elf32.proofs.Stored.{byte_at-more}
use Rattle.elf32.proofs.segments.memory.Goals as goal

pub loop-segment-preserved : goal.loop-segment-preserved
loop-segment-preserved c =
    let long : length c.copy.new.memory ≡ c.loop-segment.memory.len = c.copy.auto.memory ∙ c.deref_mut.ensures.len in
    let same = take_at c.copy.new.memory (drop (length c.copy.new.memory) c.loop-segment.memory.items) c.loop-segment.memory.len long in
    record {
      all = rw same (c.copy.auto.memory ∙ ap length c.deref_mut.ensures.value ∙ c.loop-segment.invariant.all);
      byte = λ addr.
          let old : slice_index c.deref_mut.result.now addr ≡ byte_at c.args.file.now (take c.loop-segment.segment-index c.args.segments.now) addr = rw c.deref_mut.ensures.value (c.loop-segment.invariant.byte addr) in
          rw same (rw old at (c.copy.ensures addr)
          ∙ sym (byte_at-more c.args.file.now (length c.args.file.now) c.args.mem c.args.segments.now c.loop-segment.segment-index _ addr c.loop-segment-test.true c.requires.placed c.requires.apart));
    }

pub returns : goal.returns
returns c =
    let every : take c.loop-segment.segment-index c.args.segments.now ≡ c.args.segments.now = take_all _ _ c.loop-segment-test.false in
    values_below-is _ _ _ c.loop-segment.invariant.all (λ addr below. rw every at (c.loop-segment.invariant.byte addr))
