use Rattle.std.proofs.Common.{rules}
use Rattle.a32_forms.specs.Cuts.{before_code}
use Rattle.a32_asm.proofs.FoundPlaces.{before_from}
use Rattle.a32_asm.proofs.labels.SortedLabels.count_before.Goals as goal

pub returns : goal.returns
returns c =
    before_from c.args.self.now.text.now (before_code 58 c.args.name.now) c.args.self.now.places.items c.deref.result.now c.partition_point.result
    c.deref.ensures.value c.args.self.now.in_order c.partition_point.ensures.partitioned (λ a r q k. search rules)
