use Rattle.std.proofs.Common.{ℕ, [], subst}
use Rattle.guest_core.specs.Machine.{MachineOf}
use Rattle.guest_thread.specs.Start.{thread_start}
use Rattle.guest_thread.specs.ThreadState.{thread_in}
use Rattle.guest_thread.specs.Under.{HasCome}
use Rattle.guest_thread.proofs.guests.Guest.start.Goals as goal

pub returns-clause-comes : goal.returns-clause-comes
returns-clause-comes g c budget =
    let set = g.C.Core.set in
    let begun = thread_in g.C.Core.machine c.new-2.result in
    subst (λ (n : ℕ). HasCome set c.args.image.now budget (thread_start set c.args.image.now c.args.size.now n c.args.t) [] begun) c.threads.ensures.number
    (subst (λ (m : MachineOf g.C.Core.Instr g.C.Core.State). HasCome set c.args.image.now budget m [] begun) c.start_cpu.ensures (c.new-2.ensures.comes c.in_ok-output.ensures c.args.image.now budget))
