-- The handles before and after a join, which are of one memory since C promises it.
use Rattle.std.proofs.Common.{rules}
use Rattle.llsc_c.proofs.parts.llsc_join.Goals as goal

pub join-requires-clause-memory : goal.join-requires-clause-memory
join-requires-clause-memory c = c.requires.one_memory c.deref_mut.result.now c.into_inner.result (search rules) (search rules)

pub returns-clause-joined : goal.returns-clause-joined
returns-clause-joined c z = record {
  mine = c.deref_mut.result.now;
  yours = c.into_inner.result;
  both = c.join.new.self;
  was = search rules;
  next_was = search rules;
  is = search rules;
  memory = c.join.ensures.memory;
  numbers = c.join.ensures.numbers;
  seen = c.join.ensures.seen;
  fronts = c.join.ensures.fronts;
  says_mine = c.join.ensures.mine;
  says_yours = c.join.ensures.yours;
  used = c.join.ensures.used;
}
