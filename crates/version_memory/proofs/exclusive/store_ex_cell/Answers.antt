use Rattle.version_rule.specs.Kept.{origin_of}
use Rattle.version_memory.proofs.Exactly.{stored-ex}
use Rattle.version_memory.proofs.exclusive.store_ex_cell.Goals as goal

pub returns-clause-done : goal.returns-clause-done
returns-clause-done g c = stored-ex (origin_of c.args.shared.now.key) c.args.target.place c.args.target.value c.args.seat.now.me c.claim_ex-found.new.seat.me c.write_held.new.seat.me c.args.version
    (c.claim_ex-found.ensures.won c.if-found-version.false) c.write_held.ensures.goes c.write_held.ensures.stamped
