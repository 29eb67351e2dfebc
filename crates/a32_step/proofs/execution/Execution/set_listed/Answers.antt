use Rattle.std.proofs.Common.{rules, ◌≡◌, ◌<◌, ◌+◌, ◌-◌, sym, ◌∙◌, ap, slice_set, true}
use Rattle.a32_instr.specs.Block.{is_listed, loaded, listed_value}
use Rattle.a32_compute.specs.Lists.{AreLeft, highest}
use Rattle.a32_compute.proofs.Lists.{left_listed, loaded_next}
use Rattle.a32_step.proofs.execution.Execution.set_listed.Goals as goal

-- one more register got its reply
pub loop-r-preserved : goal.loop-r-preserved
loop-r-preserved c =
    let old = c.args.self.now in
    let r = c.loop-r.r in
    let i = c.loop-r.number in
    let low : r < 16 = search rules in
    let here : is_listed c.args.list r ≡ true = search rules in
    let left : AreLeft c.args.list r i = c.loop-r.invariant.2 in
    let next : loaded (highest c.args.list (16 - r)) c.args.list old.replies c.loop-r.self.state.regs
    ≡ loaded (highest c.args.list (16 - (r + 1))) c.args.list old.replies (slice_set c.loop-r.self.state.regs r (listed_value c.args.list old.replies r)) =
    loaded_next c.args.list r old.replies c.loop-r.self.state.regs low here in
    let replies : c.self.inside.replies ≡ old.replies = search rules in
    let value : c.low_word-value.result ≡ listed_value c.args.list old.replies r = cc (c.low_word-value.ensures, c.at.ensures, replies, left.passed) in
    let set : c.set.new.self.state.regs ≡ slice_set c.loop-r.self.state.regs r (listed_value c.args.list old.replies r) =
    ap (λ m. m.state.regs) c.set.ensures ∙ cc (value, c.new.ensures) in (
      ap (λ regs. loaded (highest c.args.list (16 - (r + 1))) c.args.list old.replies regs) set ∙ sym next ∙ c.loop-r.invariant.0,
      search rules,
      left_listed c.args.list r i low here left,
    )
