use Rattle.std.proofs.Common.{rules}
use Rattle.a32_asm.proofs.SortedPlaces.{sorted_from, place_sorted}
use Rattle.a32_asm.proofs.labels.SortedLabels.new.Goals as goal

pub invariant_of-result : goal.invariant_of-result
invariant_of-result c = record {
  in_order = sorted_from c.args.text.now c.sort_unstable_by.new.self.items c.sort_unstable_by.ensures.sorted (λ a r q k. search rules);
}

pub returns : goal.returns
returns c = λ name.
    place_sorted c.args.text.now name c.args.places.items c.sort_unstable_by.new.self.items c.requires c.sort_unstable_by.ensures.permutation
    (sorted_from c.args.text.now c.sort_unstable_by.new.self.items c.sort_unstable_by.ensures.sorted (λ a r q k. search rules))
