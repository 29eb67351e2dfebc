use Rattle.std.proofs.Common.{inl, refl, subst, sym, ◌<◌}
use Rattle.slice_pool.proofs.Turned.{ended, paused}
use Rattle.slice_pool.proofs.turns.turn.Goals as goal

pub go_on-requires-clause-single : goal.go_on-requires-clause-single
go_on-requires-clause-single g c κs within =
    (c.args.guest.thread, c.requires.guest.single, inl (subst (λ n. c.args.guest.thread < n) (sym c.requires.begin) c.requires.guest.known))

pub returns-in-Ended-clause-turned : goal.returns-in-Ended-clause-turned
returns-in-Ended-clause-turned g c =
    ended g.M.SharedMemory.home g.M.SharedMemory.numbers g.M.SharedMemory.seen (g.M.SharedMemory.id c.args.mem.now) (g.M.SharedMemory.origin c.args.mem.now) c.args.code.now.program
    c.args.slice c.args.budget c.args.guest c.slice_end-upto.result c.in-Ended.done c.requires.slice c.requires.begin c.requires.budget c.slice_end-upto.ensures c.requires.guest
    (c.in-Ended.ensures.piece c.args.guest.thread c.requires.guest.single)

pub returns-in-Pause-clause-turned : goal.returns-in-Pause-clause-turned
returns-in-Pause-clause-turned g c = (
  paused g.M.SharedMemory.home g.M.SharedMemory.numbers g.M.SharedMemory.seen (g.M.SharedMemory.id c.args.mem.now) (g.M.SharedMemory.origin c.args.mem.now) c.args.code.now.program
      c.args.slice c.args.budget c.args.guest c.slice_end-upto.result c.in-Pause.part c.slice_end-upto.ensures c.requires.guest
      (c.in-Pause.ensures.piece c.args.guest.thread c.requires.guest.single),
  refl,
)
