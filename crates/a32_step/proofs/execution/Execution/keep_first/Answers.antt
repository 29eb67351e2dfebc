use Rattle.std.proofs.Common.{rules, ◌≡◌, ◌+◌, ◌∷◌, [], length, ap, arith, ◌∙◌}
use Rattle.std.proofs.lemmas.List.{length-append}
use Rattle.a32_step.proofs.Acting.{has_room}
use Rattle.a32_step.proofs.execution.Execution.keep_first.Goals as goal

pub invariant_of-self : goal.invariant_of-self
invariant_of-self c =
    let none : length c.self.inside.replies ≡ 0 = search rules in
    let longer : length c.push.new.self ≡ length c.self.inside.replies + 1 = ap (λ rs. length rs) c.push.ensures ∙ length-append c.self.inside.replies (c.args.reply ∷ []) in
    (search rules, search rules, has_room _ _ (search rules) (omega (arith, none, longer)))
