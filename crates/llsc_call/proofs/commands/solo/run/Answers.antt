use Rattle.std.proofs.Common.{inr, refl}
use Rattle.llsc_call.proofs.Statuses.{stop_done}
use Rattle.llsc_call.proofs.commands.solo.run.Goals as goal

pub returns-in-Ok : goal.returns-in-Ok
returns-in-Ok c = inr (record { sayable = tt; done = stop_done c.in-Ok.end.stop; is = (c.in-Ok.end, c.in-Ok.ensures, refl, refl) })
