use Rattle.std.proofs.Common.{arith, inl, inr}
use Rattle.history.specs.Accesses.{history_of}
use Rattle.version_memory.specs.Memory.{pass_seen}
use Rattle.run_merge.specs.Logs.{log_of}
use Rattle.run_merge.specs.Merge.{IsMerge}
use Rattle.run_merge.proofs.Counted.{no_more}
use Rattle.run_merge.proofs.Taking.{all_taken, never_stuck}
use Rattle.run_merge.proofs.merging.Merging.take_all.Goals as goal

pub loop-smaller : goal.loop-smaller
loop-smaller c =
    let told = c.in_ok-advance.ensures in
    let new = c.advance.new.self in
    omega (arith, told.more c.if-branch.true, no_more c.args.size.now (pass_seen c.args.pass.now) new.out.items new.base.items told.state.way told.state.apart c.requires.known)

pub returns : goal.returns
returns c =
    let size = c.args.size.now in
    let seen = pass_seen c.args.pass.now in
    let state = c.in_ok-advance.ensures.state in
    let none = c.in_ok-advance.ensures.none c.if-branch.false in
    let taken = history_of c.advance.new.self.out.items in
    let merge : IsMerge size seen c.advance.new.self.out.items = elim (never_stuck size seen taken state.way) [
      | inl all ↦ all_taken size seen taken state.way all
      | inr some ↦ absurd (none some.0 some.1 (state.apart.known some.0 (log_of size some.0 taken) some.1 some.2.after some.2.is_next) some.2)
    ] in
    record { merge = merge; form = state.form }
