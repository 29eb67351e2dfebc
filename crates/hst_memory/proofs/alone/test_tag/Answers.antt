use Rattle.hst_memory.proofs.AloneSteps.{tests}
use Rattle.hst_memory.proofs.Ready.{tag_word-below}
use Rattle.hst_memory.proofs.alone.test_tag.Goals as goal

pub load-requires : goal.load-requires
load-requires g c =
    let q = c.requires in (
      q.ready.home_is,
      rw q.target.tag_is (tag_word-below c.args.shared.now.key c.args.shared.now.table_id _ q.ready.made),
      rw (q.asked, q.target.tag_is) (tests c.args.shared.now.key _ _ c.args.seat.now.me c.args.target.place c.args.target.value q.ready.single q.alone q.ready.made.some_class q.target.may.aligned q.target.may.inside q.target.fits),
    )
