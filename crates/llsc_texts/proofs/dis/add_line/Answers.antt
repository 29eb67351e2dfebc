use Rattle.std.proofs.Common.{◌≡◌, ◌++◌, codes, append_assoc, ap, ◌∙◌}
use Rattle.llsc_texts.proofs.Paging.{holds_pushed, pages_stopped}
use Rattle.llsc_texts.proofs.dis.add_line.Goals as goal

pub returns-in_err-make_room : goal.returns-in_err-make_room
returns-in_err-make_room g c =
    pages_stopped g.H.Host c.args.host.now c.make_room.new.host c.args.page.now c.make_room.new.page (c.args.page.now ++ (c.args.head.now ++ (c.args.text.now ++ codes "\n")))
    c.from_residual.result _ c.from_residual.ensures.1 c.in_err-make_room.ensures.pages

pub returns : goal.returns
returns g c =
    let page = c.make_room.new.page in
    let head = c.args.head.now in
    let text = c.args.text.now in
    let is : (c.push-3).new.self ≡ page ++ (head ++ (text ++ codes "\n")) =
    (c.push-3).ensures ∙ ap (λ p. p ++ codes "\n") ((c.push-2).ensures ∙ ap (λ p. p ++ text) c.push.ensures)
    ∙ append_assoc (page ++ head) text (codes "\n") ∙ append_assoc page head (text ++ codes "\n") in
    holds_pushed g.H.Host c.args.host.now c.make_room.new.host page (c.push-3).new.self c.args.page.now (head ++ (text ++ codes "\n")) is c.in_ok-make_room.ensures.pages
