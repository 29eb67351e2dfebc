use Rattle.std.proofs.Common.{◌≡◌, ◌≤◌, ◌/◌, ◌*◌, [], length, ap, sym, subst, arith}
use Rattle.llsc_host.specs.Writes.{Writes}
use Rattle.llsc_texts.specs.Disassembly.{disassembly, line_at, lines_of}
use Rattle.llsc_texts.specs.Paging.{Holds}
use Rattle.llsc_host.proofs.Kept.{stopped}
use Rattle.llsc_texts.proofs.Paging.{holds_broke, holds_here, holds_more, holds_written, lines_broke, lines_more}
use Rattle.llsc_texts.proofs.dis.write_lines.Goals as goal

pub loop-i-init : goal.loop-i-init
loop-i-init g c =
    subst (λ p. Holds g.H.Host c.args.host.now c.args.host.now p []) (sym c.requires.empty) (holds_here g.H.Host c.args.host.now [])

pub loop-i-preserved : goal.loop-i-preserved
loop-i-preserved g c =
    let image = c.args.image.now in
    subst (Holds g.H.Host c.args.host.now c.add_at.new.host c.add_at.new.page) (sym (lines_more image c.loop-i.i))
    (holds_more g.H.Host c.args.host.now c.loop-i.host c.add_at.new.host c.loop-i.page c.add_at.new.page (lines_of image c.loop-i.i) (line_at image (4 * c.loop-i.i))
    c.loop-i.invariant c.in_ok-add_at.ensures)

pub returns-in_err-add_at : goal.returns-in_err-add_at
returns-in_err-add_at g c =
    let image = c.args.image.now in
    let old = c.args.host.now in
    let new = c.add_at.new.host in
    let less : c.loop-i.i ≤ length c.args.image.now.bytes / 4 = omega (arith, c.requires.whole, c.loop-i-test.true) in
    stopped g.H.Host old new (disassembly image) c.from_residual.result _ c.from_residual.ensures.1
    (lines_broke g.H.Host image c.loop-i.i (length image.bytes / 4) old new less
    (holds_broke g.H.Host old c.loop-i.host new c.loop-i.page (lines_of image c.loop-i.i) c.loop-i.invariant c.in_err-add_at.ensures))

pub returns : goal.returns
returns g c =
    let image = c.args.image.now in
    let all : c.loop-i.i ≡ length c.args.image.now.bytes / 4 = omega (arith, c.requires.whole, c.loop-i.auto.i-end, c.loop-i-test.false) in
    subst (λ t. Writes g.H.Host c.args.host.now c.write.new.host t c.write.result) (ap (lines_of image) all)
    (holds_written g.H.Host c.args.host.now c.loop-i.host c.write.new.host c.loop-i.page (lines_of image c.loop-i.i) c.write.result c.loop-i.invariant
    (subst (λ t. Writes g.H.Host c.loop-i.host c.write.new.host t c.write.result) c.bytes.ensures.text c.write.ensures))
