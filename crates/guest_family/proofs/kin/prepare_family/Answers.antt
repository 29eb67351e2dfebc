use Rattle.std.proofs.Common.{◌≡◌, ◌≤◌, ◌+◌, ◌∷◌, ℕ, suc, List, ap, subst, sym, ◌∙◌, vec_len, arith, rules}
use Rattle.std.specs.List.{range_with_len}
use Rattle.history.specs.Parts.{entries_of}
use Rattle.history.specs.Started.{child_of}
use Rattle.guest_family.specs.Kin.{heads_of, spares_of}
use Rattle.guest_family.specs.inner.Left.{AreLeft}
use Rattle.guest_family.proofs.Left.{all_left}
use Rattle.guest_family.proofs.Pushed.{starter_made}
use Rattle.guest_family.proofs.kin.prepare_family.Goals as goal

pub other_starters-requires-clause-left : goal.other_starters-requires-clause-left
other_starters-requires-clause-left g c κs outlives =
    let origin = g.M.SharedMemory.origin c.args.mem.now in
    let some : 1 ≤ origin.first = subst (λ (n : ℕ). 1 ≤ n) c.first-heads.ensures.first c.first-heads.ensures.least in
    let most : origin.first ≤ origin.size.threads = subst (λ (n : ℕ). n ≤ origin.size.threads) c.first-heads.ensures.first c.first-heads.ensures.most in
    let all = all_left origin.first origin.size.threads (g.M.SharedMemory.numbers c.args.first) some most c.requires.numbers in
    let at : c.first-heads.result + c.spare-spare.result ≡ origin.first + origin.spare =
    ap (λ (n : ℕ). n + c.spare-spare.result) c.first-heads.ensures.first ∙ ap (λ (s : ℕ). origin.first + s) c.spare-spare.ensures.spare in
    subst (λ (n : ℕ). AreLeft origin.first origin.size.threads 1 n (g.M.SharedMemory.numbers c.spares_from.new.first)) at
    (c.in_ok-own.ensures.left 1 (subst (λ (n : ℕ). AreLeft origin.first origin.size.threads 1 n (g.M.SharedMemory.numbers c.args.first)) (sym c.first-heads.ensures.first) all))

pub job_of-requires-clause-none : goal.job_of-requires-clause-none
job_of-requires-clause-none g c κs outlives = ap (entries_of 0) (c.other_starters.ensures.seen ∙ c.spares_from.ensures.seen) ∙ c.requires.none 0

pub returns-clause-ready : goal.returns-clause-ready
returns-clause-ready g c =
    let home = g.M.SharedMemory.home in
    let numbers = g.M.SharedMemory.numbers in
    let seen = g.M.SharedMemory.seen in
    let origin = g.M.SharedMemory.origin c.args.mem.now in
    let mem = g.M.SharedMemory.id c.args.mem.now in
    let first = c.in_ok-starter_of.field-0 in
    let others = c.in_ok-others.others in
    let thread : first.job.thread ≡ 0 = ap (λ j. j.thread) c.in_ok-starter_of.ensures.job ∙ c.in_ok-job.ensures.thread in
    let from : c.first-heads.result ≡ child_of origin.first origin.spare c.in_ok-job.job.thread 0 =
    c.first-heads.ensures.first ∙ (let is : origin.first ≡ child_of origin.first origin.spare 0 0 = omega arith in is)
    ∙ ap (λ (t : ℕ). child_of origin.first origin.spare t 0) (sym c.in_ok-job.ensures.thread) in
    let many : vec_len others + 1 ≡ origin.first = c.in_ok-others.ensures.len ∙ c.first-heads.ensures.first in
    let count : suc (vec_len others) ≡ origin.first = omega (arith, many) in
    record {
      first = starter_made home numbers seen mem origin c.args.image.now first c.in_ok-job.job c.in_ok-own.own c.first-heads.result c.in_ok-starter_of.ensures.job c.in_ok-starter_of.ensures.spares
          c.in_ok-job.ensures.fresh c.in_ok-own.ensures.spares
          (subst (λ (s : ℕ). spares_of c.in_ok-own.own.items ≡ range_with_len c.first-heads.result s) c.spare-spare.ensures.spare c.in_ok-own.ensures.threads) from
          c.in_ok-starter_of.ensures.empty c.in_ok-starter_of.ensures.room (c.in_ok-own.ensures.len ∙ c.spare-spare.ensures.spare) (search rules);
      others = c.in_ok-others.ensures.starters;
      threads = ap (λ (t : ℕ). t ∷ heads_of others.items) thread ∙ ap (λ (ts : List ℕ). 0 ∷ ts) c.in_ok-others.ensures.threads ∙ ap (range_with_len 0) count;
      ends_empty = (c.in_ok-ends.ensures.items, c.in_ok-ends.ensures.len);
      children_empty = (c.in_ok-children.ensures.items, c.in_ok-children.ensures.len);
      ends_room = search rules;
      children_room = search rules;
      many = many;
    }
