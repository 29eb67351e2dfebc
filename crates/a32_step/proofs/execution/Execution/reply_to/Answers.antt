use Rattle.std.proofs.Common.{rules, None, subst}
use Rattle.a32_step.specs.inner.Acting.{IsReplied, had_before, replied, unmade, barred}
use Rattle.a32_step.proofs.execution.Execution.reply_to.Goals as goal

pub returns-in-Some-clause-replied : goal.returns-in-Some-clause-replied
returns-in-Some-clause-replied g c = had_before c.in-Some.reply (search rules)

pub returns-in-Some-stop_at-clause-replied : goal.returns-in-Some-stop_at-clause-replied
returns-in-Some-stop_at-clause-replied g c =
    subst (λ s. IsReplied g.S.Source.replies c.args.image.now c.args.ask c.args.self.now c.args.source.now None s c.args.source.now) (search rules)
    (barred c.in-Some-stop_at.stop (search rules) (search rules))

pub returns-in_default-reply-clause-replied : goal.returns-in_default-reply-clause-replied
returns-in_default-reply-clause-replied g c =
    subst (λ s. IsReplied g.S.Source.replies c.args.image.now c.args.ask c.args.self.now c.args.source.now None s c.reply.new.self) (search rules)
    (unmade c.reply.new.self (search rules) (search rules) (search rules))

pub returns-clause-replied : goal.returns-clause-replied
returns-clause-replied g c = replied c.in-Some-reply.reply c.reply.new.self (search rules) (search rules) (search rules)
