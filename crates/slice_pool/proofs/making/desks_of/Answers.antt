use Rattle.std.proofs.Common.{All, ap, rules, subst, sym, ◌∙◌, ◌+◌, ℕ}
use Rattle.std.proofs.lemmas.List.Elements.{All-push}
use Rattle.slice_pool.specs.AtWork.{IsFree}
use Rattle.slice_pool.proofs.making.desks_of.Goals as goal

pub loop-preserved : goal.loop-preserved
loop-preserved g c = record {
  free = subst (All (IsFree c.args.image.now c.args.count)) (sym c.in_ok-push.ensures.items)
      (All-push (IsFree c.args.image.now c.args.count) c.loop.desks.items c.in_ok-desk_of.field-0 c.loop.invariant.free c.in_ok-desk_of.ensures);
  len = c.in_ok-push.ensures.len ∙ ap (λ (n : ℕ). n + 1) c.loop.invariant.len;
}
