use Rattle.std.proofs.Common.{◌+◌, ◌≤◌, ◌≡◌, ◌∙◌, vec_len, arith}
use Rattle.guest_thread.proofs.Prepared.{fresh_pushed, one_less, seen_pushed, threads_more}
use Rattle.guest_thread.proofs.crews.other_jobs.Goals as goal

pub loop-t-preserved : goal.loop-t-preserved
loop-t-preserved g c =
    let job = c.in_ok-job_of.field-0 in
    let above : 1 ≤ c.loop-t.t = omega (arith, c.loop-t.invariant.len) in
    let longer : vec_len c.push.new.self ≡ vec_len c.loop-t.jobs + 1 = c.in_ok-push.ensures.len in
    record {
      memory = c.split-pass.ensures.memory.0 ∙ c.loop-t.invariant.memory;
      seen = c.split-pass.ensures.seen.0 ∙ c.loop-t.invariant.seen;
      left = one_less c.args.count c.loop-t.t (g.M.SharedMemory.numbers c.loop-t.first) (g.M.SharedMemory.numbers c.split-pass.new.pass) above c.split-pass.ensures.rest c.loop-t.invariant.left;
      fresh = fresh_pushed g.C.Core.set g.C.Core.machine g.M.SharedMemory.home g.M.SharedMemory.numbers g.M.SharedMemory.seen (g.M.SharedMemory.id c.args.mem.now) (g.M.SharedMemory.origin c.args.mem.now) c.args.image.now
          c.loop-t.jobs.items c.push.new.self.items job c.in_ok-push.ensures.items c.loop-t.invariant.fresh c.in_ok-job_of.ensures.fresh;
      unseen = seen_pushed g.M.SharedMemory.seen (g.M.SharedMemory.seen c.args.first.now) c.loop-t.jobs.items c.push.new.self.items job c.in_ok-push.ensures.items c.loop-t.invariant.unseen
          (c.in_ok-job_of.ensures.seen ∙ c.split-pass.ensures.seen.1 ∙ c.loop-t.invariant.seen);
      len = omega (arith, longer, c.loop-t.invariant.len);
      threads = threads_more c.loop-t.jobs.items c.push.new.self.items job (vec_len c.loop-t.jobs) (vec_len c.push.new.self) c.loop-t.t c.in_ok-push.ensures.items c.in_ok-job_of.ensures.thread
          c.loop-t.invariant.len longer c.loop-t.invariant.threads;
    }
