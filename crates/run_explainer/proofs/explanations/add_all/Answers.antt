use Rattle.std.proofs.Common.{◌≡◌, ◌++◌, codes, ap, ◌∙◌, append_assoc}
use Rattle.llsc_host.proofs.Kept.{broke_first}
use Rattle.llsc_texts.proofs.Paging.{holds_pushed}
use Rattle.run_explainer.specs.Text.{tally_text}
use Rattle.run_explainer.proofs.Paged.{goes_stopped}
use Rattle.run_explainer.proofs.explanations.add_all.Goals as goal

pub returns-in_err-make_room : goal.returns-in_err-make_room
returns-in_err-make_room g c =
    let said = codes "all" ++ tally_text c.args.all.now in
    goes_stopped g.H.Host c.args.host.now c.make_room.new.host c.make_room.new.page (c.args.page.now ++ said) c.from_residual.result _ c.from_residual.ensures.1
    (broke_first g.H.Host c.args.host.now c.make_room.new.host c.args.page.now said c.in_err-make_room.ensures.pages)

pub returns : goal.returns
returns g c =
    let page = c.make_room.new.page in
    let tally = tally_text c.args.all.now in
    let is : c.put_tally.new.page ≡ page ++ (codes "all" ++ tally) =
    c.put_tally.ensures.text_is ∙ ap (λ p. p ++ tally) c.push.ensures ∙ append_assoc page (codes "all") tally in
    holds_pushed g.H.Host c.args.host.now c.make_room.new.host page c.put_tally.new.page c.args.page.now (codes "all" ++ tally) is c.in_ok-make_room.ensures.pages
