use Rattle.std.proofs.Common.{ap, refl, rules, ◌∙◌}
use Rattle.guest_thread.specs.Begun.{child_start}
use Rattle.guest_family.proofs.StarterParts.{child_begins}
use Rattle.guest_family.proofs.starters.come_in.Goals as goal
use Rattle.a32_step.specs.Machine.{a32}

pub returns : goal.returns
returns g c program budget =
    let origin = g.M.SharedMemory.origin c.args.mem.now in
    let t = c.args.thread in
    child_begins g.M.SharedMemory.home g.M.SharedMemory.numbers g.M.SharedMemory.seen (g.M.SharedMemory.id c.args.mem.now) origin program budget t (child_start a32 origin.size t c.args.entry c.args.arg)
    c.new.result c.child_cpu-cpu.result c.args.pass _ c.args.out c.new.ensures (c.child_cpu-cpu.ensures ∙ ap (λ s. child_start a32 s t c.args.entry c.args.arg) c.size.ensures) c.requires.empty
    c.requires.memory c.requires.single c.requires.none refl (search rules) (search rules) (search rules) (search rules)
