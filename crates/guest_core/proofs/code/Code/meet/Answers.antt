use Rattle.std.proofs.Common.{sym, ◌∙◌}
use Rattle.guest_core.proofs.code.Code.meet.Goals as goal

pub invariant_of-self : goal.invariant_of-self
invariant_of-self g c = (
  c.keep.ensures.many,
  c.keep.ensures.right c.self.inside.image.now c.self.invariant.1
      (λ met. (c.in-Some-of_word.ensures.found c.self.inside.image.now c.args.addr (sym c.fetch.ensures ∙ c.in-Some.is), c.in-Some-of_word.ensures.right)),
)
