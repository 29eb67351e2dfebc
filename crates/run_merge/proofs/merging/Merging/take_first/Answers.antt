use Rattle.std.proofs.Common.{List, refl, subst, ◌∙◌, inl, inr, arith}
use Rattle.std.proofs.lemmas.Bool.{cases_eq}
use Rattle.history.specs.Accesses.{history_of}
use Rattle.history.specs.declared.entry.Access.{Access}
use Rattle.version_memory.specs.Memory.{pass_seen}
use Rattle.run_merge.specs.Taking.{MayBeTaken}
use Rattle.run_merge.proofs.merging.Merging.take_first.Goals as goal

pub loop-t-preserved : goal.loop-t-preserved
loop-t-preserved c =
    let size = c.args.size.now in
    let seen = pass_seen c.args.pass.now in
    let told = c.in_ok-take.ensures in
    let was = c.loop-t.invariant in
    let same = told.same c.if-branch.false in
    record {
      state = told.state;
      same = same ∙ was.same;
      none = λ u next less may.
          let before = subst (λ (l : List Access). MayBeTaken size seen (history_of l) u next) same may in
          elim (cases_eq u c.loop-t.t) [
            | inl here ↦ told.none c.if-branch.false refl next (subst (λ k. MayBeTaken size seen (history_of c.loop-t.self.out.items) k next) here before)
            | inr other ↦ was.none u next (omega (arith, less, other)) before
          ];
    }

pub returns-clause-none : goal.returns-clause-none
returns-clause-none c = λ _ t next less may. c.loop-t.invariant.none t next (omega (arith, less, c.loop-t-test.false, c.threads-t-end.ensures.number)) may
