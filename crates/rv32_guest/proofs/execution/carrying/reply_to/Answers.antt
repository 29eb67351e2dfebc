use Rattle.guest_core.specs.Ports.{stays}
use Rattle.rv32_guest.proofs.CarriedOn.{leads_none}
use Rattle.rv32_guest.proofs.execution.carrying.reply_to.Goals as goal

pub returns-then-is_some-clause-leads : goal.returns-then-is_some-clause-leads
returns-then-is_some-clause-leads g c = stays

pub returns-clause-leads : goal.returns-clause-leads
returns-clause-leads g c = leads_none _ c.args.ask c.try_reply.result c.try_reply.ensures.replied
