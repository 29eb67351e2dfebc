-- Where a span runs and holds the four bytes they lie in memory.
use Rattle.std.proofs.Common.{◌≡◌, true, false, refl, sym, ◌∙◌}
use Rattle.llsc_base.specs.Images.{runs_at, serves}
use Rattle.llsc_base.proofs.Spans.{runs_at-inside, runs_at-serves, serves-position, runs_at-none}
use Rattle.llsc_base.proofs.images.Image.fetch_near.Goals as goal

pub load_4-requires : goal.load_4-requires
load_4-requires c =
    let held : runs_at c.deref.result.now c.args.addr ≡ true = runs_at-serves c.deref.result.now c.args.near.now c.args.addr (sym c.is_held_at.ensures ∙ c.if-is_held_at.true) in
    rw c.deref-then-is_held_at.ensures.value (runs_at-inside _ _ _ c.self.invariant.0.spans (rw c.deref.ensures.value at held))

pub returns-then-is_held_at-clause-word : goal.returns-then-is_held_at-clause-word
returns-then-is_held_at-clause-word c =
    let held : runs_at c.deref.result.now c.args.addr ≡ true = runs_at-serves c.deref.result.now c.args.near.now c.args.addr (sym c.is_held_at.ensures ∙ c.if-is_held_at.true) in
    let here = rw c.deref.ensures.value at held in
    rw (← c.self.view_is, here, c.load_4.ensures, c.deref-then-is_held_at.ensures.value) refl

pub returns-in_err-at-clause-word : goal.returns-in_err-at-clause-word
returns-in_err-at-clause-word c =
    let none : runs_at c.deref-2.result.now c.args.addr ≡ false = runs_at-none c.deref-2.result.now c.args.addr c.in_err-at.ensures in
    let nowhere = rw c.deref-2.ensures.value at none in
    rw (← c.self.view_is, nowhere) c.from_residual.ensures

pub load_4-requires-2 : goal.load_4-requires-2
load_4-requires-2 c =
    let held : runs_at c.deref-2.result.now c.args.addr ≡ true = runs_at-serves c.deref-2.result.now c.in_ok-at.at c.args.addr (serves-position c.deref-2.result.now c.args.addr c.in_ok-at.at c.in_ok-at.ensures) in
    rw c.deref-3.ensures.value (runs_at-inside _ _ _ c.self.invariant.0.spans (rw c.deref-2.ensures.value at held))

pub returns-clause-word : goal.returns-clause-word
returns-clause-word c =
    let held : runs_at c.deref-2.result.now c.args.addr ≡ true = runs_at-serves c.deref-2.result.now c.in_ok-at.at c.args.addr (serves-position c.deref-2.result.now c.args.addr c.in_ok-at.at c.in_ok-at.ensures) in
    let here = rw c.deref-2.ensures.value at held in
    rw (← c.self.view_is, here, c.load_4-2.ensures, c.deref-3.ensures.value) refl

pub returns-clause-near : goal.returns-clause-near
returns-clause-near c =
    let held : serves c.deref-2.result.now c.in_ok-at.at c.args.addr ≡ true = serves-position c.deref-2.result.now c.args.addr c.in_ok-at.at c.in_ok-at.ensures in
    let here = rw c.deref-2.ensures.value at held in
    rw (← c.self.view_is) here
