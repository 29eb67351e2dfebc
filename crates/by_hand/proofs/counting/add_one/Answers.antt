use Rattle.std.proofs.Common.{sym, ◌∙◌, subst}
use Rattle.llsc_base.specs.declared.access.Place.{Place}
use Rattle.llsc_base.specs.declared.access.Size.TheVariants.{B8}
use Rattle.shared_memory.specs.Seen.{IsSingle}
use Rattle.by_hand.proofs.Turns.{once_more, not_yet}
use Rattle.by_hand.proofs.counting.add_one.Goals as goal

abbrev word : Place
word = record { addr = 8192; size = B8 }

pub returns-then-store_ex-clause-added : goal.returns-then-store_ex-clause-added
returns-then-store_ex-clause-added g c t times single before =
    let at_loop = subst (IsSingle t) (sym c.loop.invariant.numbers) single in
    once_more _ t word times c.load_ex-value.result _ _ _
    (c.loop.invariant.added t times single before)
    (c.load_ex-value.ensures.seen t at_loop)
    (c.if-store_ex.ensures.done t (subst (IsSingle t) (sym c.load_ex-value.ensures.numbers) at_loop))

pub loop-preserved : goal.loop-preserved
loop-preserved g c = record {
  home = c.if-store_ex.ensures.memory ∙ c.load_ex-value.ensures.memory ∙ c.loop.invariant.home;
  numbers = c.if-store_ex.ensures.numbers ∙ c.load_ex-value.ensures.numbers ∙ c.loop.invariant.numbers;
  added = λ t times single before.
      let at_loop = subst (IsSingle t) (sym c.loop.invariant.numbers) single in
      let fails = c.if-store_ex.ensures.failed t (subst (IsSingle t) (sym c.load_ex-value.ensures.numbers) at_loop) in
      not_yet _ t word times c.load_ex-value.result fails.0 _ _ _
      (c.loop.invariant.added t times single before)
      (c.load_ex-value.ensures.seen t at_loop)
      fails.1;
}
