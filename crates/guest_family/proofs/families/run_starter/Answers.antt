use Rattle.std.proofs.Common.{ap, refl, subst}
use Rattle.shared_memory.specs.Seen.{IsFront}
use Rattle.guest_family.proofs.StarterParts.{starter_begins, starter_ends}
use Rattle.guest_family.proofs.families.run_starter.Goals as goal

pub run_on-requires-clause-starter : goal.run_on-requires-clause-starter
run_on-requires-clause-starter g c κs outlives = (
  c.args.starter.job.thread,
  starter_begins g.M.SharedMemory.home g.M.SharedMemory.numbers g.M.SharedMemory.seen (g.M.SharedMemory.id c.args.mem.now) (g.M.SharedMemory.origin c.args.mem.now) c.args.image.now c.args.budget
      c.args.starter.job.thread c.args.starter c.new.result c.requires.starter refl c.new.ensures,
)

pub returns-clause-ended : goal.returns-clause-ended
returns-clause-ended g c =
    let t = c.args.starter.job.thread in
    let begins = starter_begins g.M.SharedMemory.home g.M.SharedMemory.numbers g.M.SharedMemory.seen (g.M.SharedMemory.id c.args.mem.now) (g.M.SharedMemory.origin c.args.mem.now) c.args.image.now
    c.args.budget t c.args.starter c.new.result c.requires.starter refl c.new.ensures in
    starter_ends g.M.SharedMemory.home g.M.SharedMemory.numbers g.M.SharedMemory.seen (g.M.SharedMemory.id c.args.mem.now) (g.M.SharedMemory.origin c.args.mem.now) c.args.image.now c.args.budget t
    c.args.starter c.new.result c.run_on.result c.requires.starter refl (ap (λ p. p.pass) c.new.ensures) (c.run_on.ensures.ended t begins).0

pub returns-clause-front : goal.returns-clause-front
returns-clause-front g c =
    let t = c.args.starter.job.thread in
    let begins = starter_begins g.M.SharedMemory.home g.M.SharedMemory.numbers g.M.SharedMemory.seen (g.M.SharedMemory.id c.args.mem.now) (g.M.SharedMemory.origin c.args.mem.now) c.args.image.now
    c.args.budget t c.args.starter c.new.result c.requires.starter refl c.new.ensures in
    subst (λ p. IsFront (g.M.SharedMemory.seen p) (g.M.SharedMemory.seen c.run_on.result.ran.pass)) (ap (λ p. p.pass) c.new.ensures) (c.run_on.ensures.ended t begins).1
