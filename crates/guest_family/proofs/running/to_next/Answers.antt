use Rattle.std.proofs.Common.{Bool, nat_lt, ap, subst, ◌∙◌}
use Rattle.guest_thread.specs.Pieces.{IsPiece}
use Rattle.guest_thread.specs.declared.pieces.Paused.TheVariants.{Ended, Start}
use Rattle.guest_family.proofs.GoingOn.{has_stock, to_call, to_end}
use Rattle.guest_family.proofs.running.to_next.Goals as goal
use Rattle.a32_step.specs.Machine.{a32}

pub returns-in-Ended-clause-next : goal.returns-in-Ended-clause-next
returns-in-Ended-clause-next g c t start goes =
    let origin = g.M.SharedMemory.origin c.args.mem.now in
    let mem = g.M.SharedMemory.id c.args.mem.now in
    let program = c.args.code.now.program in
    to_end g.M.SharedMemory.home g.M.SharedMemory.numbers g.M.SharedMemory.seen mem origin program c.args.budget t start c.args.part goes c.in-Ended.done c.requires.budget
    (subst (λ (b : Bool). IsPiece a32 (λ m. m) g.M.SharedMemory.home g.M.SharedMemory.numbers g.M.SharedMemory.seen mem origin program b c.args.budget c.args.budget t c.args.part (Ended c.in-Ended.done))
    (ap (nat_lt 0) c.spare.ensures.spare ∙ has_stock origin.first origin.spare t) (c.in-Ended.ensures.piece t goes.single))

pub returns-in-Start-clause-next : goal.returns-in-Start-clause-next
returns-in-Start-clause-next g c t start goes =
    let origin = g.M.SharedMemory.origin c.args.mem.now in
    let mem = g.M.SharedMemory.id c.args.mem.now in
    let program = c.args.code.now.program in
    to_call g.M.SharedMemory.home g.M.SharedMemory.numbers g.M.SharedMemory.seen mem origin program c.args.budget t start c.args.part goes c.in-Start.part c.in-Start.entry c.in-Start.arg
    (subst (λ (b : Bool). IsPiece a32 (λ m. m) g.M.SharedMemory.home g.M.SharedMemory.numbers g.M.SharedMemory.seen mem origin program b c.args.budget c.args.budget t c.args.part (Start c.in-Start.part c.in-Start.entry c.in-Start.arg))
    (ap (nat_lt 0) c.spare.ensures.spare ∙ has_stock origin.first origin.spare t) (c.in-Start.ensures.piece t goes.single))
