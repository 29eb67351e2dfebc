use Rattle.std.proofs.Common.{subst}
use Rattle.llsc_host.specs.Writes.{Broke, Wrote}
use Rattle.llsc_texts.proofs.Paging.{holds_here, holds_none, pages_stopped}
use Rattle.llsc_texts.proofs.pages.make_room.Goals as goal

pub returns-then-has_room-clause-pages : goal.returns-then-has_room-clause-pages
returns-then-has_room-clause-pages g c = holds_here g.H.Host c.args.host.now c.args.page.now

pub returns-in_err-write-clause-pages : goal.returns-in_err-write-clause-pages
returns-in_err-write-clause-pages g c =
    pages_stopped g.H.Host c.args.host.now c.write.new.host c.args.page.now c.args.page.now c.args.page.now c.from_residual.result _ c.from_residual.ensures.1
    (subst (Broke g.H.Host c.args.host.now c.write.new.host) c.bytes.ensures.text c.in_err-write.ensures)

pub returns-clause-pages : goal.returns-clause-pages
returns-clause-pages g c =
    holds_none g.H.Host c.args.host.now c.write.new.host c.clear.new.self c.args.page.now c.clear.ensures
    (subst (Wrote g.H.Host c.args.host.now c.write.new.host) c.bytes.ensures.text c.in_ok-write.ensures)
