use Rattle.std.proofs.Common.{rules, refl, ap, ◌≡◌, ◌∙◌, nat_lt, None, Some}
use lib.Count.{ones}
use Rattle.llsc_base.specs.Sizes.{Numbers}
use Rattle.llsc_base.specs.Images.{Program}
use Rattle.shared_memory.specs.Origin.{Origin}
use Rattle.by_hand.proofs.counting.zeros.Goals as goal

-- these numbers have no fault
pub unreachable-requires : goal.unreachable-requires
unfolding ones
unreachable-requires c =
    let fault : None ≡ Some c.in_default.field-0 = c.in_default.ensures in
    let f : ⊥ = cc in f

pub of-image-requires : goal.of-image-requires
of-image-requires c = rw c.new-2.ensures.items (record { aligned = refl; spans = search rules; apart = search rules })

pub returns-clause-numbers : goal.returns-clause-numbers
returns-clause-numbers c t = c.in_ok-memory.ensures.numbers t ∙ ap (nat_lt t) (ap (λ (n : Numbers). n.threads) c.in-Ok.ensures.1)

pub returns-clause-origin : goal.returns-clause-origin
returns-clause-origin c = record {
  mem = ap (λ (o : Origin). o.size.mem) c.in_ok-memory.ensures.origin ∙ ap (λ (n : Numbers). n.mem) c.in-Ok.ensures.1;
  threads = ap (λ (o : Origin). o.size.threads) c.in_ok-memory.ensures.origin ∙ ap (λ (n : Numbers). n.threads) c.in-Ok.ensures.1;
  first = ap (λ (o : Origin). o.first) c.in_ok-memory.ensures.origin ∙ ap (λ (n : Numbers). n.threads) c.in-Ok.ensures.1;
  zeros = ap (λ (o : Origin). o.bytes) c.in_ok-memory.ensures.origin ∙ ap (λ (p : Program). p.bytes) c.of-image.ensures ∙ c.in_ok-bytes.ensures.items_if_clones_equal (λ y is. is);
}
