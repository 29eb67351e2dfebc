use Rattle.std.proofs.Common.{◌≡◌, ◌<◌, ◌≤◌, true, false, List, length, sym, subst, ◌∙◌, arith}
use Rattle.history.specs.declared.entry.Access.{Access}
use Rattle.run_merge.proofs.merging.Merging.turn.Goals.{then-branch, else-branch}
use Rattle.run_merge.proofs.merging.Merging.turn.Goals as goal

true_false : {A : Type 0} → true ≡ false → A
true_false e = absurd (let f : ⊥ = cc in f)

pub loop-t-preserved : goal.loop-t-preserved
loop-t-preserved c =
    let told = c.in_ok-take_some.ensures in
    let was = c.loop-t.invariant in
    elim c.if-branch.branch [
      | then-branch w ↦ record {
        state = told.state;
        more = λ _. omega (arith, was.no_less, told.more w.if-branch.true);
        no_less = omega (arith, was.no_less, told.more w.if-branch.true);
        same = λ none. true_false (sym w.any-is ∙ none);
      }
      | else-branch w ↦
          let same = told.same w.if-branch.false in
          record {
            state = told.state;
            more = λ any. subst (λ (l : List Access). length c.args.self.now.out.items < length l) (sym same) (was.more (sym w.any-is ∙ any));
            no_less = subst (λ (l : List Access). length c.args.self.now.out.items ≤ length l) (sym same) was.no_less;
            same = λ none. same ∙ was.same (sym w.any-is ∙ none);
          }
    ]
