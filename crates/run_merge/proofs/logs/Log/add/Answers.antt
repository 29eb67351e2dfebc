use Rattle.std.proofs.Common.{◌++◌, ◌∷◌, ◌+◌, ◌<◌, ◌≤◌, [], List, sym, subst, length}
use Rattle.run_merge.specs.Logs.{IsFirst}
use Rattle.run_merge.specs.declared.logs.Log.{Log}
use Rattle.run_merge.specs.declared.logs.Stamped.{Stamped}
use Rattle.run_merge.proofs.Firsts.{first_full, first_more, most_is}
use Rattle.run_merge.proofs.logs.Log.add.Goals.{then-kept-lt-MOST_ACCESSES, else-kept-lt-MOST_ACCESSES}
use Rattle.run_merge.proofs.logs.Log.add.Goals as goal

pub returns-clause-more : goal.returns-clause-more
returns-clause-more c = λ all is. elim c.if-kept-lt-MOST_ACCESSES.branch [
  | then-kept-lt-MOST_ACCESSES w ↦
      let short : length c.args.self.now.entries.items < 1000000 = subst (λ (l : List Stamped). length l < 1000000) c.as_slice-kept.ensures.value w.if-kept-lt-MOST_ACCESSES.true in
      let before = first_more all c.args.self.now.entries.items c.args.self.now.count c.args.one (subst (λ n. length c.args.self.now.entries.items < n) (sym most_is) short) is in
      subst (λ (l : Log). IsFirst (all ++ c.args.one ∷ []) l.entries.items (l.count + 1)) (sym w.self-is)
      (subst (λ (l : List Stamped). IsFirst (all ++ c.args.one ∷ []) l (c.args.self.now.count + 1)) (sym w.push_reserved.ensures.items) before)
  | else-kept-lt-MOST_ACCESSES w ↦
      let full : 1000000 ≤ length c.args.self.now.entries.items = subst (λ (l : List Stamped). 1000000 ≤ length l) c.as_slice-kept.ensures.value w.if-kept-lt-MOST_ACCESSES.false in
      subst (λ (l : Log). IsFirst (all ++ c.args.one ∷ []) l.entries.items (l.count + 1)) (sym w.self-is)
      (first_full all c.args.self.now.entries.items c.args.self.now.count c.args.one (subst (λ n. n ≤ length c.args.self.now.entries.items) (sym most_is) full) is)
]
