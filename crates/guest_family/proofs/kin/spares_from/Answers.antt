use Rattle.std.proofs.Common.{◌≡◌, ◌≤◌, ◌+◌, ℕ, ap, subst, ◌∙◌, vec_len, arith, rules}
use Rattle.history.specs.Parts.{entries_of}
use Rattle.guest_family.specs.Kin.{IsSpare}
use Rattle.guest_family.specs.inner.Left.{AreLeft}
use Rattle.guest_family.specs.declared.kin.Spare.{Spare}
use Rattle.guest_family.proofs.Left.{left_top, left_zero, one_less_above}
use Rattle.guest_family.proofs.Pushed.{spares_pushed, threads_pushed}
use Rattle.guest_family.proofs.kin.spares_from.Goals as goal

pub split-pass-requires-clause-memory : goal.split-pass-requires-clause-memory
split-pass-requires-clause-memory g c = c.loop-thread.invariant.memory ∙ c.requires.memory

pub split-pass-requires-clause-one : goal.split-pass-requires-clause-one
split-pass-requires-clause-one g c =
    let origin = g.M.SharedMemory.origin c.args.mem.now in
    left_top origin.first origin.size.threads c.requires.left.0 c.loop-thread.thread (g.M.SharedMemory.numbers c.loop-thread.first) (c.loop-thread.invariant.left c.requires.left.0 c.requires.left.1)
    (omega (arith, c.requires.inside))

pub split-pass-requires-clause-several : goal.split-pass-requires-clause-several
split-pass-requires-clause-several g c =
    let origin = g.M.SharedMemory.origin c.args.mem.now in (
      0,
      (λ same. absurd (omega (arith, same, c.requires.inside))),
      left_zero origin.first origin.size.threads c.requires.left.0 c.loop-thread.thread (g.M.SharedMemory.numbers c.loop-thread.first) (c.loop-thread.invariant.left c.requires.left.0 c.requires.left.1),
    )

pub split-pass-requires-clause-fresh : goal.split-pass-requires-clause-fresh
split-pass-requires-clause-fresh g c u one = ap (entries_of u) c.loop-thread.invariant.seen ∙ c.requires.none u

pub loop-thread-preserved : goal.loop-thread-preserved
loop-thread-preserved g c =
    let home = g.M.SharedMemory.home in
    let numbers = g.M.SharedMemory.numbers in
    let seen = g.M.SharedMemory.seen in
    let origin = g.M.SharedMemory.origin c.args.mem.now in
    let mem = g.M.SharedMemory.id c.args.mem.now in
    let thread = c.loop-thread.thread in
    let above : origin.first ≤ thread = omega (arith, c.loop-thread.invariant.len, c.requires.inside) in
    let longer : vec_len c.push.new.self ≡ vec_len c.loop-thread.spares + 1 = c.in_ok-push.ensures.len in
    let spare : Spare _ = record { thread = thread; pass = c.split-pass.result; out = c.in_ok-out.out; code = c.in_ok-code.code } in
    let is : IsSpare home numbers seen mem c.args.image.now spare = record {
      memory = c.split-pass.ensures.memory.1 ∙ c.loop-thread.invariant.memory ∙ c.requires.memory;
      single = c.split-pass.ensures.single;
      none = ap (entries_of thread) (c.split-pass.ensures.seen.1 ∙ c.loop-thread.invariant.seen) ∙ c.requires.none thread;
      code = c.in_ok-code.ensures;
      empty = c.in_ok-out.ensures;
    } in
    record {
      memory = c.split-pass.ensures.memory.0 ∙ c.loop-thread.invariant.memory;
      seen = c.split-pass.ensures.seen.0 ∙ c.loop-thread.invariant.seen;
      left = λ low left. one_less_above origin.first origin.size.threads low thread (numbers c.loop-thread.first) (c.loop-thread.invariant.left low left) (numbers c.split-pass.new.pass)
          c.requires.inside.0 above c.split-pass.ensures.rest;
      spares = spares_pushed home numbers seen mem origin c.args.image.now c.loop-thread.spares.items c.push.new.self.items spare c.in_ok-push.ensures.items c.loop-thread.invariant.spares is;
      len = omega (arith, longer, c.loop-thread.invariant.len);
      threads = threads_pushed c.loop-thread.spares.items c.push.new.self.items spare c.args.from (vec_len c.loop-thread.spares) (vec_len c.push.new.self) c.in_ok-push.ensures.items
          c.loop-thread.invariant.len longer c.loop-thread.invariant.threads;
    }

pub returns-clause-left : goal.returns-clause-left
returns-clause-left g c low left =
    let origin = g.M.SharedMemory.origin c.args.mem.now in
    let at : c.loop-thread.thread ≡ c.args.from + c.args.count = search rules in
    subst (λ (n : ℕ). AreLeft origin.first origin.size.threads low n (g.M.SharedMemory.numbers c.loop-thread.first)) at (c.loop-thread.invariant.left low left)
