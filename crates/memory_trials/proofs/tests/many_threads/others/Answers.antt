use Rattle.std.proofs.Common.{◌≡◌, ◌+◌, ◌-◌, ◌<◌, ◌∙◌, ℕ, subst, arith}
use Rattle.memory_trials.proofs.ManyNumbers.{all_kept, one_less, one_more}
use Rattle.memory_trials.proofs.tests.many_threads.others.Goals as goal

pub loop-count-preserved : goal.loop-count-preserved
loop-count-preserved g c =
    let memory = g.M.SharedMemory in
    let t : ℕ = c.args.threads - c.loop-count.count in
    let last : t + c.loop-count.count ≡ c.args.threads = omega arith in
    let below : t < c.args.threads = omega arith in
    let home = c.split-other.ensures.memory.1 ∙ c.loop-count.invariant.memory ∙ c.requires.memory in
    record {
      memory = c.split-other.ensures.memory.0 ∙ c.loop-count.invariant.memory;
      seen = c.split-other.ensures.seen.0 ∙ c.loop-count.invariant.seen;
      left = one_less c.args.threads c.loop-count.count t (memory.numbers c.loop-count.pass) (memory.numbers c.split-other.new.pass) last c.split-other.ensures.rest
          c.loop-count.invariant.left;
      all = λ u small. all_kept memory.numbers t u c.loop-count.pass c.split-other.new.pass c.split-other.result c.in_ok-room.field-0 c.loop-count.logged.items
          c.push.new.self.items c.in_ok-push.ensures.items c.split-other.ensures.rest c.split-other.ensures.single (c.loop-count.invariant.all u small);
      may = one_more memory.home memory.numbers (memory.id c.args.memory.now) (memory.origin c.args.memory.now) c.in_ok-room.field-0 c.split-other.result
          c.loop-count.logged.items c.push.new.self.items c.in_ok-push.ensures.items c.loop-count.invariant.may
          (record { thread = t; below = subst (λ (n : ℕ). t < n) c.requires.threads.0 below; has = record { home_is = home; single = c.split-other.ensures.single } });
      len = omega (arith, c.in_ok-push.ensures.len, c.loop-count.invariant.len);
    }
