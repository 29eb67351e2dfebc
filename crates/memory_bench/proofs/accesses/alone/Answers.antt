use Rattle.std.proofs.Common.{rules, ◌≡◌, nat_lt, refl, ap, ◌∙◌}
use Rattle.llsc_base.specs.Sizes.{Numbers}
use Rattle.shared_memory.specs.Origin.{Origin}
use Rattle.hst_memory.specs.Memory.{pass_numbers}
use Rattle.memory_bench.proofs.OneThread.{zero-of-one}
use Rattle.memory_bench.proofs.accesses.alone.Goals as goal

pub of-image-requires : goal.of-image-requires
of-image-requires c = rw c.new-2.ensures.items (record { aligned = refl; spans = search rules; apart = search rules })

pub returns : goal.returns
returns c =
    let threads : c.in-Ok.size.threads ≡ 1 = ap (λ (n : Numbers). n.threads) c.in-Ok.ensures.1 in
    let origin = c.in_ok-memory.ensures.origin in
    record {
      mem = ap (λ (o : Origin). o.size.mem) origin ∙ ap (λ (n : Numbers). n.mem) c.in-Ok.ensures.1;
      first = ap (λ (o : Origin). o.first) origin ∙ threads;
      home_is = c.in_ok-memory.ensures.pass;
      single = zero-of-one (pass_numbers c.in_ok-memory.pass) (λ t. c.in_ok-memory.ensures.numbers t ∙ ap (nat_lt t) threads);
    }
