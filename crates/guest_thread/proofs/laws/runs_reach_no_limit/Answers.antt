use Rattle.guest_thread.specs.Start.{thread_start}
use Rattle.guest_thread.proofs.Placed.{ends_untagged}
use Rattle.guest_thread.proofs.laws.runs_reach_no_limit.Goals as goal

pub returns : goal.returns
returns g c program size budget first t pairs stop steps output addr ends =
    let set = g.C.Core.set in
    ends_untagged set c.is_sound.ensures.passes c.is_sound.ensures.own program budget (thread_start set program size first t) tt pairs stop steps output addr ends
