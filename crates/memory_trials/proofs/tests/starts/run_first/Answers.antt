use Rattle.std.proofs.Common.{refl, ap, sym, subst, arith, false}
use Rattle.llsc_base.specs.declared.access.Size.TheVariants.{B4}
use Rattle.history.specs.Operation.{entries_of_operation, store}
use Rattle.history.specs.Started.{starts_of}
use Rattle.shared_memory.specs.Seen.{IsSingle}
use Rattle.memory_trials.proofs.StartsSeen.{starts-next, starts-still}
use Rattle.memory_trials.proofs.tests.starts.run_first.Goals as goal

pub start-requires-clause-single : goal.start-requires-clause-single
start-requires-clause-single g c =
    let memory = g.M.SharedMemory in
    let family = c.requires.family in
    let single = c.requires.pass.single in
    let none = starts-still (memory.origin c.args.memory.now) 0 0 (memory.seen c.args.pass) (entries_of_operation 0 (store (record { addr = 0x3000; size = B4 }) 5 false)) (memory.seen c.store.new.pass) (c.in-Ok.ensures.done 0 single) refl
    (ap (starts_of 0) c.requires.none) in
    (0, subst (IsSingle 0) (sym c.store.ensures.numbers) single, omega (arith, family.first), omega (arith, family.spare, none))

pub start-requires-2-clause-single : goal.start-requires-2-clause-single
start-requires-2-clause-single g c =
    let memory = g.M.SharedMemory in
    let origin = memory.origin c.args.memory.now in
    let family = c.requires.family in
    let single = c.requires.pass.single in
    let stored = subst (IsSingle 0) (sym c.store.ensures.numbers) single in
    let none = starts-still origin 0 0 (memory.seen c.args.pass) (entries_of_operation 0 (store (record { addr = 0x3000; size = B4 }) 5 false)) (memory.seen c.store.new.pass) (c.in-Ok.ensures.done 0 single) refl (ap (starts_of 0) c.requires.none) in
    let one = starts-next origin 0 0 c.start.result 4096 1 (memory.seen c.store.new.pass) (memory.seen c.start.new.pass) (c.start.ensures.seen 0 stored) none in
    (0, subst (IsSingle 0) (sym c.start.ensures.numbers) stored, omega (arith, family.first), omega (arith, family.spare, one))
