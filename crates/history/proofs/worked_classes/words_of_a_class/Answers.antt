use Rattle.std.proofs.Common.{refl}
use Rattle.llsc_base.specs.Memory.{class_of, row_of}
use Rattle.history.proofs.worked_classes.words_of_a_class.Goals as goal

pub returns-clause-writes : goal.returns-clause-writes
unfolding class_of row_of
returns-clause-writes c = refl

pub returns-clause-writes_elsewhere : goal.returns-clause-writes_elsewhere
unfolding class_of row_of
returns-clause-writes_elsewhere c = refl

pub returns-clause-edges : goal.returns-clause-edges
unfolding class_of row_of
returns-clause-edges c = refl

pub returns-clause-edges_elsewhere : goal.returns-clause-edges_elsewhere
unfolding class_of row_of
returns-clause-edges_elsewhere c = refl

pub returns-clause-writer : goal.returns-clause-writer
unfolding class_of row_of
returns-clause-writer c = refl

pub returns-clause-writer_elsewhere : goal.returns-clause-writer_elsewhere
unfolding class_of row_of
returns-clause-writer_elsewhere c = refl

pub returns-clause-comer : goal.returns-clause-comer
unfolding class_of row_of
returns-clause-comer c = refl

pub returns-clause-no_comer : goal.returns-clause-no_comer
unfolding class_of row_of
returns-clause-no_comer c = refl
