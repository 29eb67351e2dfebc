use Rattle.std.proofs.Common.{◌<◌, ◌≡◌, ◌∙◌, ap, vec_len, vec_capacity, arith}
use Rattle.guest_thread.proofs.Prepared.{all_threads}
use Rattle.guest_thread.proofs.crews.prepare.Goals as goal

pub returns-clause-ready : goal.returns-clause-ready
returns-clause-ready g c =
    let origin = g.M.SharedMemory.origin c.args.mem.now in
    let count : c.threads-count.result ≡ origin.size.threads = c.threads-count.ensures.number ∙ ap (λ s. s.threads) c.size-size.ensures in
    let room : vec_len c.in_ok-jobs.jobs < vec_capacity c.in_ok-ends.ends = omega (arith, c.in_ok-jobs.ensures.len, c.in_ok-ends.ensures.capacity) in
    record {
      begin = c.requires.begin;
      first_job = c.in_ok-first_job.ensures.fresh;
      others = c.in_ok-jobs.ensures.fresh;
      threads = all_threads c.in_ok-first_job.first_job c.in_ok-jobs.jobs.items (vec_len c.in_ok-jobs.jobs) origin.size.threads c.in_ok-first_job.ensures.thread c.in_ok-jobs.ensures.threads
          (c.in_ok-jobs.ensures.len ∙ count);
      empty = (c.in_ok-ends.ensures.items, c.in_ok-ends.ensures.len);
      room = room;
    }
