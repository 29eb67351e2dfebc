use Rattle.std.proofs.Common.{◌≡◌, ◌≤◌, ◌<◌, ◌+◌, ◌*◌, ℕ, ap, subst, sym, ◌∙◌, arith, rules}
use Rattle.history.specs.Parts.{entries_of}
use Rattle.history.specs.Started.{child_of}
use Rattle.std.specs.List.{range_with_len}
use Rattle.guest_family.specs.Kin.{spares_of}
use Rattle.guest_family.specs.inner.Left.{AreLeft}
use Rattle.guest_family.proofs.Left.{one_less_below}
use Rattle.guest_family.proofs.Pushed.{starter_made, next_own}
use Rattle.guest_family.proofs.kin.starter_from.Goals as goal

pub spares_from-requires-clause-left : goal.spares_from-requires-clause-left
spares_from-requires-clause-left g c κs outlives =
    let origin = g.M.SharedMemory.origin c.args.mem.now in
    let t = c.args.t in
    let below : t < origin.first = omega (arith, c.requires.thread, c.requires.numbers) in
    let above : origin.first ≤ c.args.heads + t * c.args.spare = omega (arith, c.requires.numbers) in (
      t + 1,
      one_less_below origin.first origin.size.threads t (c.args.heads + t * c.args.spare) (g.M.SharedMemory.numbers c.args.first.now) c.requires.left
          (g.M.SharedMemory.numbers c.split-pass.new.pass) c.requires.thread.0 below above c.split-pass.ensures.rest,
    )

pub spares_from-requires-clause-none : goal.spares_from-requires-clause-none
spares_from-requires-clause-none g c κs outlives u = ap (entries_of u) c.split-pass.ensures.seen.0 ∙ c.requires.none u

pub returns-clause-starter : goal.returns-clause-starter
returns-clause-starter g c =
    let origin = g.M.SharedMemory.origin c.args.mem.now in
    let t = c.args.t in
    let top = c.args.heads + t * c.args.spare in
    let from : top ≡ child_of origin.first origin.spare c.in_ok-job.job.thread 0 =
    ap (λ (n : ℕ). n + t * c.args.spare) c.requires.numbers.0 ∙ ap (λ (s : ℕ). origin.first + t * s) c.requires.numbers.1
    ∙ ap (λ (u : ℕ). origin.first + u * origin.spare) (sym c.in_ok-job.ensures.thread) ∙ omega arith in
    starter_made g.M.SharedMemory.home g.M.SharedMemory.numbers g.M.SharedMemory.seen (g.M.SharedMemory.id c.args.mem.now) origin c.args.image.now c.in_ok-starter_of.field-0 c.in_ok-job.job
    c.in_ok-spares.spares top c.in_ok-starter_of.ensures.job c.in_ok-starter_of.ensures.spares c.in_ok-job.ensures.fresh c.in_ok-spares.ensures.spares
    (subst (λ (s : ℕ). spares_of c.in_ok-spares.spares.items ≡ range_with_len top s) c.requires.numbers.1 c.in_ok-spares.ensures.threads) from
    c.in_ok-starter_of.ensures.empty c.in_ok-starter_of.ensures.room (c.in_ok-spares.ensures.len ∙ c.requires.numbers.1) (search rules)

pub returns-clause-left : goal.returns-clause-left
returns-clause-left g c =
    let origin = g.M.SharedMemory.origin c.args.mem.now in
    let numbers = g.M.SharedMemory.numbers in
    let t = c.args.t in
    let top = c.args.heads + t * c.args.spare in
    let below : t < origin.first = omega (arith, c.requires.thread, c.requires.numbers) in
    let above : origin.first ≤ top = omega (arith, c.requires.numbers) in
    let left = one_less_below origin.first origin.size.threads t top (numbers c.args.first.now) c.requires.left (numbers c.split-pass.new.pass) c.requires.thread.0 below above c.split-pass.ensures.rest in
    subst (λ (n : ℕ). AreLeft origin.first origin.size.threads (t + 1) n (numbers c.spares_from.new.first)) (next_own c.args.heads t c.args.spare) (c.in_ok-spares.ensures.left (t + 1) left)
