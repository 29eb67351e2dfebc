use Rattle.std.proofs.Common.{nat_lt, ap, ◌∙◌, arith}
use Rattle.version_memory.specs.Memory.{pass_numbers}
use Rattle.memory_trials.proofs.ThreeNumbers.{has-one, has-zero, single-zero}
use Rattle.memory_trials.proofs.tests.starts.three.Goals as goal

pub split-one-requires-clause-one : goal.split-one-requires-clause-one
split-one-requires-clause-one c = has-one (pass_numbers c.in_ok-memory.first) (pass_numbers c.split-two.new.pass) (λ t. c.in_ok-memory.ensures.numbers t ∙ ap (nat_lt t) c.in_ok-size.ensures.threads)
    c.split-two.ensures.rest

pub split-one-requires-clause-several : goal.split-one-requires-clause-several
split-one-requires-clause-several c = (
  0,
  (λ same. omega (arith, same)),
  has-zero (pass_numbers c.in_ok-memory.first) (pass_numbers c.split-two.new.pass)
      (λ t. c.in_ok-memory.ensures.numbers t ∙ ap (nat_lt t) c.in_ok-size.ensures.threads) c.split-two.ensures.rest,
)

pub returns-clause-first : goal.returns-clause-first
returns-clause-first c = record {
  home_is = c.split-one.ensures.memory.0 ∙ c.split-two.ensures.memory.0 ∙ c.in_ok-memory.ensures.pass;
  single = single-zero (pass_numbers c.in_ok-memory.first) (pass_numbers c.split-two.new.pass) (λ t. c.in_ok-memory.ensures.numbers t ∙ ap (nat_lt t) c.in_ok-size.ensures.threads)
      c.split-two.ensures.rest (pass_numbers c.split-one.new.pass) c.split-one.ensures.rest;
}
