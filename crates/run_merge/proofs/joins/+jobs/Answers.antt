use Rattle.std.proofs.Common.{rules, ◌+◌, ◌*◌, ◌<◌, ◌≡◌, arith, length, vec_len, vec_capacity}
use Rattle.run_merge.proofs.AllLogged.{logged_first, logged_more}
use Rattle.version_memory.specs.Memory.{memory_id, memory_origin}
use denote.Param.{copied, param}
use denote.Param.Send.{IsSend, IsSync, Quiet-if}
use mir.Syntax.{of_param}
use Rattle.run_merge.proofs.joins.+jobs.Goals as goal

pub returns-clause-logged : goal.returns-clause-logged
returns-clause-logged g t c =
    let ran = c.join-recorded.ensures.first in
    let done = c.join-recorded.ensures.second in
    logged_more g.C.Core.set g.C.Core.machine (memory_id c.args.mem.now) (memory_origin c.args.mem.now) c.args.image.now c.args.budget c.args.first_job c.in-Some.last c.args.jobs.items c.take_job.new.jobs.items
    c.join-recorded.result.0 c.gather_log.result c.join-recorded.result.1.pass c.join-recorded.result.1.end c.join-recorded.result.1.log
    c.in-Some.ensures.items ran.0 done.0 done.1 done.3 done.4 c.gather_log.ensures.memory c.gather_log.ensures.numbers c.gather_log.ensures.seen c.gather_log.ensures.fronts c.gather_log.ensures.mine c.gather_log.ensures.yours
    c.gather_log.ensures.ends c.gather_log.ensures.logs

pub returns-in_default-clause-logged : goal.returns-in_default-clause-logged
returns-in_default-clause-logged g t c =
    let done = c.log_job.result in
    let none : length c.take_log-log.new.logs.items ≡ 0 = omega (arith, c.take_log-log.new.logs.ok.0, c.take_log-log.ensures.len, c.requires.logs, c.in_default.ensures.empty) in
    logged_first g.C.Core.set (memory_id c.args.mem.now) (memory_origin c.args.mem.now) c.args.image.now c.args.budget c.args.first_job c.args.jobs.items done.pass done.end done.log
    c.args.ends.items c.take_log-log.new.logs.items c.begin_log.result c.in_default.ensures.items c.requires.empty.0 none c.log_job.ensures.memory c.log_job.ensures.number
    c.log_job.ensures.end c.log_job.ensures.log c.log_job.ensures.legal c.begin_log.ensures.pass c.begin_log.ensures.ends c.begin_log.ensures.logs

pub fn::log_jobs::join+arg2+FnOnce::call_once-join+arg2-requires :
    goal.fn::log_jobs::join+arg2+FnOnce::call_once-join+arg2-requires
fn::log_jobs::join+arg2+FnOnce::call_once-join+arg2-requires g t c κs within =
    let asked = c.requires.1.1.1 in
    (c.decreases, (within.0, (within.1.0, (within.1.1, (asked.1.0, (asked.1.1, (asked.1.2, asked.0)))))))

pub join-recorded-requires-after_bounds : goal.join-recorded-requires-after_bounds
join-recorded-requires-after_bounds g t c κs within =
    let fewer : 2 * vec_len c.take_job.new.jobs + 1 < t = omega (arith, c.in-Some.ensures.len, c.decreases) in
    let room : vec_len c.take_job.new.jobs < vec_capacity c.args.ends = omega (arith, c.in-Some.ensures.len, c.requires.room) in
    let many : vec_len c.take_log-log-2.new.logs ≡ vec_len c.take_job.new.jobs + 1 = omega (arith, c.take_log-log-2.ensures.len, c.in-Some.ensures.len, c.requires.logs) in
    let none = c.in-Some.ensures.none in
    let core : IsSend (param 0 g.row.C) = search rules in
    let ready : IsSend (copied 2 g.row.C-Ready) = search rules in
    let host : IsSync (param 1 g.row.R) = search rules in (
      (
        fewer,
        (
          λ a here. here,
          (
            λ a here. here,
            (
              λ a here. here,
              (
                (host, c.requires.first_job, c.in-Some.ensures.others, (c.requires.none.0, none.1), c.take_log-log-2.ensures.others, many, c.requires.empty, room, c.requires.whole, c.requires.budget),
                (core, ready, host),
              ),
            ),
          ),
        ),
      ),
      (
        (c.in-Some.ensures.last, none.0, c.take_log-log-2.ensures.unused, c.requires.whole, c.requires.budget),
        (
          record { owned = core.owned; leaving = λ k. Quiet-if (k (of_param 0)) _ _ (λ x w. tt) (λ x w. tt) },
          record { owned = ready.owned; leaving = λ k x w. tt },
          record { shared = host.shared },
        ),
      ),
    )
