use Rattle.std.proofs.Common.{◌*◌, ◌+◌, ◌<◌, arith, rules, vec_len}
use Rattle.guest_family.proofs.StarterParts.{ended_on}
use Rattle.guest_family.proofs.starters.+starters.Goals as goal

pub returns-clause-ended : goal.returns-clause-ended
returns-clause-ended g t c u is =
    let ran = c.join-ended.ensures.first in
    let done = c.join-ended.ensures.second in
    let branch = c.in-Starts.ensures.branches u is in
    ended_on g.M.SharedMemory.home g.M.SharedMemory.numbers g.M.SharedMemory.seen (g.M.SharedMemory.id c.args.mem.now) (g.M.SharedMemory.origin c.args.mem.now) c.args.image.now c.args.budget u
    c.args.starter c.in-Starts.rest c.in-Starts.spare c.in-Starts.entry c.in-Starts.arg c.join-ended.result.0 c.join-ended.result.1 c.gather-ran.result branch (ran.0 u branch.goes)
    done.0 done.1 c.gather-ran.ensures.memory c.gather-ran.ensures.numbers c.gather-ran.ensures.fronts c.gather-ran.ensures.mine c.gather-ran.ensures.yours c.gather-ran.ensures.ends

pub join-ended-requires-after_bounds : goal.join-ended-requires-after_bounds
join-ended-requires-after_bounds g t c κs outlives =
    let fewer : 2 * vec_len c.in-Starts.rest.spares + 1 < t = omega (arith, c.in-Starts.ensures.room.0, c.decreases) in
    ((fewer, (search rules, (search rules, (search rules, (search rules, ((search rules, c.in-Starts.ensures.goes, c.requires.whole, c.requires.budget), (search rules, search rules, search rules, search rules))))))), ((c.in-Starts.ensures.spare, c.in-Starts.ensures.number, c.in-Starts.ensures.aligned, c.requires.whole, c.requires.budget), (search rules, search rules, search rules, search rules)))
