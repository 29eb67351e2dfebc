use Rattle.std.proofs.Common.{rules, ◌+◌, ◌*◌, ◌<◌, arith, vec_len, vec_capacity}
use Rattle.guest_thread.proofs.Crewed.{ended_more}
use Rattle.guest_thread.proofs.runs.+jobs.Goals as goal

pub returns-clause-ended : goal.returns-clause-ended
returns-clause-ended g t c =
    let ran = c.join-ran.ensures.first in
    let done = c.join-ran.ensures.second in
    ended_more g.C.Core.set g.C.Core.machine g.M.SharedMemory.home g.M.SharedMemory.numbers g.M.SharedMemory.seen (g.M.SharedMemory.id c.args.mem.now) (g.M.SharedMemory.origin c.args.mem.now) c.args.image.now
    c.args.budget c.args.first_job c.in-Some.last c.args.jobs.items c.pop_job.new.jobs.items c.join-ran.result.0 c.gather.result c.join-ran.result.1.pass c.join-ran.result.1.end
    c.in-Some.ensures.items ran.0 done.0 done.1 c.gather.ensures.memory c.gather.ensures.numbers c.gather.ensures.fronts c.gather.ensures.mine c.gather.ensures.yours
    c.gather.ensures.ends

pub fn::run_jobs::join+arg2+FnOnce::call_once-join+arg2-requires :
    goal.fn::run_jobs::join+arg2+FnOnce::call_once-join+arg2-requires
fn::run_jobs::join+arg2+FnOnce::call_once-join+arg2-requires g t c κs within = search rules

pub join-ran-requires-after_bounds : goal.join-ran-requires-after_bounds
join-ran-requires-after_bounds g t c κs within =
    let fewer : 2 * vec_len c.pop_job.new.jobs + 1 < t = omega (arith, c.in-Some.ensures.len, c.decreases) in
    let room : vec_len c.pop_job.new.jobs < vec_capacity c.args.ends = omega (arith, c.in-Some.ensures.len, c.requires.room) in (
      (
        fewer,
        (
          search rules,
          (
            search rules,
            (
              search rules,
              (
                search rules,
                (
                  search rules,
                  (
                    search rules,
                    ((search rules, c.requires.first_job, c.in-Some.ensures.others, c.requires.empty, room, c.requires.whole, c.requires.budget), (search rules, search rules, search rules, search rules, search rules, search rules)),
                  ),
                ),
              ),
            ),
          ),
        ),
      ),
      ((c.in-Some.ensures.last, c.requires.whole, c.requires.budget), (search rules, search rules, search rules, search rules, search rules, search rules)),
    )
