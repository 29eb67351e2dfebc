use Rattle.std.proofs.Common.{◌++◌, ◌∷◌, [], ap, subst, sym, ◌∙◌}
use Rattle.history.specs.Starts.{made_by, starts_in}
use Rattle.guest_family.specs.inner.UnderWay.{IsPartUnderWay}
use Rattle.guest_thread.specs.declared.pieces.Part.{Part}
use Rattle.guest_family.proofs.Started.{one_start, started_on}
use Rattle.guest_family.proofs.starters.started.Goals as goal

pub returns-clause-goes : goal.returns-clause-goes
returns-clause-goes g c program budget t start old below few word called =
    let home = g.M.SharedMemory.home in
    let numbers = g.M.SharedMemory.numbers in
    let seen = g.M.SharedMemory.seen in
    subst (IsPartUnderWay home numbers seen (g.M.SharedMemory.id c.args.mem.now) (g.M.SharedMemory.origin c.args.mem.now) program budget t start) (sym c.answered.ensures)
    (started_on home numbers seen (g.M.SharedMemory.id c.args.mem.now) (g.M.SharedMemory.origin c.args.mem.now) program budget t start old c.args.part c.args.entry c.args.arg called
    c.start-child.result c.start-child.new.pass below word few (c.start-child.ensures.child t called.single) (c.start-child.ensures.seen t called.single)
    c.start-child.ensures.memory c.start-child.ensures.numbers)

pub returns-clause-starts : goal.returns-clause-starts
returns-clause-starts g c t single =
    let seen = g.M.SharedMemory.seen in
    let sees = c.start-child.ensures.seen t single in
    ap (λ p. starts_in t (seen (Part.pass p))) c.answered.ensures
    ∙ one_start t (seen c.args.part.pass) (seen c.start-child.new.pass) sees.added c.start-child.result c.args.entry c.args.arg sees.longer sees.mine
    ∙ ap (λ n. starts_in t (seen c.args.part.pass) ++ record { child = n; entry = c.args.entry; arg = c.args.arg; place = made_by t (seen c.args.part.pass) } ∷ []) (c.start-child.ensures.child t single)
