use Rattle.std.proofs.Common.{◌≡◌, ◌+◌, ◌*◌, ℕ, ap, subst, sym, ◌∙◌, vec_len, arith, rules}
use Rattle.history.specs.Parts.{entries_of}
use Rattle.guest_family.specs.inner.Left.{AreLeft}
use Rattle.guest_family.proofs.Left.{zero_alone}
use Rattle.guest_family.proofs.Pushed.{heads_pushed, starters_pushed}
use Rattle.guest_family.proofs.kin.other_starters.Goals as goal

pub starter_from-requires-clause-none : goal.starter_from-requires-clause-none
starter_from-requires-clause-none g c κs outlives u = ap (entries_of u) c.loop-t.invariant.seen ∙ c.requires.none u

pub loop-t-preserved : goal.loop-t-preserved
loop-t-preserved g c =
    let longer : vec_len c.push.new.self ≡ vec_len c.loop-t.starters + 1 = c.in_ok-push.ensures.len in
    let starter = c.in_ok-starter_from.field-0 in
    record {
      memory = c.starter_from.ensures.memory ∙ c.loop-t.invariant.memory;
      seen = c.starter_from.ensures.seen ∙ c.loop-t.invariant.seen;
      left = c.in_ok-starter_from.ensures.left;
      starters = starters_pushed g.M.SharedMemory.home g.M.SharedMemory.numbers g.M.SharedMemory.seen (g.M.SharedMemory.id c.args.mem.now) (g.M.SharedMemory.origin c.args.mem.now) c.args.image.now
          c.loop-t.starters.items c.push.new.self.items starter c.in_ok-push.ensures.items c.loop-t.invariant.starters c.in_ok-starter_from.ensures.starter;
      len = omega (arith, longer, c.loop-t.invariant.len);
      threads = heads_pushed c.loop-t.starters.items c.push.new.self.items starter (vec_len c.loop-t.starters) (vec_len c.push.new.self) c.loop-t.t c.in_ok-push.ensures.items
          c.in_ok-starter_from.ensures.thread c.loop-t.invariant.len longer c.loop-t.invariant.threads;
    }

pub returns-clause-single : goal.returns-clause-single
returns-clause-single g c =
    let origin = g.M.SharedMemory.origin c.args.mem.now in
    let last : c.loop-t.t ≡ origin.first = search rules in
    let all : c.args.heads + c.loop-t.t * c.args.spare ≡ origin.size.threads =
    ap (λ (n : ℕ). c.args.heads + n * c.args.spare) (last ∙ sym c.requires.numbers.0) ∙ (let is = c.requires.numbers.3 in omega (arith, is)) in
    zero_alone origin.first origin.size.threads (g.M.SharedMemory.numbers c.loop-t.first)
    (subst (λ (n : ℕ). AreLeft origin.first origin.size.threads n origin.size.threads (g.M.SharedMemory.numbers c.loop-t.first)) last
    (subst (λ (n : ℕ). AreLeft origin.first origin.size.threads c.loop-t.t n (g.M.SharedMemory.numbers c.loop-t.first)) all c.loop-t.invariant.left))
