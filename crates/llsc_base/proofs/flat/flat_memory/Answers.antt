-- The file stands in zeros from its first index on.
use Rattle.std.proofs.Common.{rules, ◌≡◌, length, replicate, ◌∙◌}
use Rattle.std.proofs.lemmas.List.{take_at}
use Rattle.llsc_base.proofs.Values.{flat_memory-is}
use Rattle.llsc_base.proofs.flat.flat_memory.Goals as goal

pub returns : goal.returns
returns c =
    let zeros : c.in_ok-memory.memory.items ≡ replicate c.args.mem 0 = search rules in
    let long : length c.put.new.memory ≡ c.in_ok-memory.memory.len = c.put.auto.memory ∙ c.deref_mut.ensures.len in
    rw (take_at c.put.new.memory _ c.in_ok-memory.memory.len long, c.put.ensures, c.deref_mut.ensures.value, zeros)
    (flat_memory-is c.args.file.now c.args.mem c.requires)
