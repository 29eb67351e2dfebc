use Rattle.std.proofs.Common.{◌≡◌, rules}
use Rattle.llsc_base.specs.Effects.{stops}
use Rattle.guest_core.specs.inner.Asking.{asked_first}
use Rattle.guest_core.proofs.Asked.{asked_stopped}
use Rattle.rv32_guest.specs.State.{Effect}
use Rattle.rv32_guest.proofs.cpu.RvCpu.act.Goals as goal

pub returns-in-Some-stop_at-clause-wanted : goal.returns-in-Some-stop_at-clause-wanted
returns-in-Some-stop_at-clause-wanted c =
    let effect : Effect = asked_first c.args.image.now c.in-Some.ask in
    let stopped : effect ≡ stops c.in-Some-stop_at.stop = asked_stopped c.args.image.now c.in-Some.ask c.in-Some-stop_at.stop (search rules) in
    search (rules, stopped)

pub returns-in-Some-stop_at-clause-state : goal.returns-in-Some-stop_at-clause-state
returns-in-Some-stop_at-clause-state c =
    let effect : Effect = asked_first c.args.image.now c.in-Some.ask in
    let stopped : effect ≡ stops c.in-Some-stop_at.stop = asked_stopped c.args.image.now c.in-Some.ask c.in-Some-stop_at.stop (search rules) in
    search (rules, stopped)

pub returns-in_default-clause-tested : goal.returns-in_default-clause-tested
returns-in_default-clause-tested c = c.act_alone.ensures.no_access c.args.image.now c.args.self.now.replies
