use Rattle.guest_core.proofs.code.Code.new.Goals as goal

pub invariant_of-result : goal.invariant_of-result
invariant_of-result g c = (c.in_ok-new.ensures.many, c.in_ok-new.ensures.right c.args.image.now)
