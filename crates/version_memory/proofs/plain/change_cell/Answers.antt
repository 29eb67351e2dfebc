use Rattle.std.proofs.Common.{[], ◌∷◌}
use Rattle.history.specs.declared.entry.Entry.TheVariants.{Write}
use Rattle.version_rule.proofs.PlainSteps.{changes}
use Rattle.version_rule.specs.declared.hands.Doing.TheVariants.{Written}
use Rattle.version_rule.specs.Exact.{IsVersion}
use Rattle.version_rule.specs.Hands.{hand}
use Rattle.version_rule.specs.Kept.{origin_of}
use Rattle.version_rule.specs.Told.{Decides}
use Rattle.version_memory.proofs.Ready.{cell_word-below, ready-goes}
use Rattle.version_memory.proofs.plain.change_cell.Goals as goal

pub store-requires : goal.store-requires
store-requires g c =
    let q = c.requires in
    let t = c.args.target in (
      q.ready.home_is,
      rw q.target.word_is (cell_word-below c.args.shared.now.key c.args.shared.now.table_id t.place q.ready.made q.target.may),
      rw (q.asked, q.target.word_is, c.put.ensures) (changes c.args.shared.now.key _ _ c.args.seat.now.me c.args.version c.args.ex c.args.cell t.place t.value q.ready.single q.ready.acts q.holding q.target.may.aligned q.target.may.inside q.target.fits),
    )

pub returns-clause-decides : goal.returns-clause-decides
returns-clause-decides g c = (rw c.requires.asked at c.store.ensures.2) c.args.version c.args.ex c.args.cell c.requires.holding

pub returns-clause-ready : goal.returns-clause-ready
returns-clause-ready g c =
    let key = c.args.shared.now.key in
    let t = c.args.target in
    let decides : Decides (origin_of key) c.args.seat.now.me (Write c.args.seat.now.me.0.lead t.place t.value c.args.ex ∷ []) (IsVersion key.size t.place c.args.version) (hand (Written t.place c.args.version) c.args.seat.now.me.0.doing.reserve) c.store.new.seat.me =
    (rw c.requires.asked at c.store.ensures.2) c.args.version c.args.ex c.args.cell c.requires.holding in
    ready-goes _ _ _ _ _ _ _ _ _ c.requires.ready c.store.ensures.0 decides.goes
