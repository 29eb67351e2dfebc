use Rattle.guest_thread.proofs.Crewed.{split_found}
use Rattle.guest_thread.proofs.gathering.pop_job.Goals as goal

pub returns-clause-others : goal.returns-clause-others
returns-clause-others g c =
    (split_found g.C.Core.set g.C.Core.machine g.M.SharedMemory.home g.M.SharedMemory.numbers g.M.SharedMemory.seen (g.M.SharedMemory.id c.args.mem.now) (g.M.SharedMemory.origin c.args.mem.now) c.args.image.now
    c.pop.result c.args.jobs.now.items c.pop.new.self.items c.pop.ensures.items c.requires.fresh).0

pub returns-clause-last : goal.returns-clause-last
returns-clause-last g c =
    (split_found g.C.Core.set g.C.Core.machine g.M.SharedMemory.home g.M.SharedMemory.numbers g.M.SharedMemory.seen (g.M.SharedMemory.id c.args.mem.now) (g.M.SharedMemory.origin c.args.mem.now) c.args.image.now
    c.pop.result c.args.jobs.now.items c.pop.new.self.items c.pop.ensures.items c.requires.fresh).1
