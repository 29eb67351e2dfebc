use Rattle.hst_memory.proofs.Ready.{cell_word-below}
use Rattle.hst_memory.proofs.alone.look_at_cell.Goals as goal

pub look-requires-clause-word : goal.look-requires-clause-word
look-requires-clause-word g c = let q = c.requires in rw q.target.word_is (cell_word-below c.args.shared.now.key c.args.shared.now.table_id c.args.target.place q.ready.made q.target.may)
