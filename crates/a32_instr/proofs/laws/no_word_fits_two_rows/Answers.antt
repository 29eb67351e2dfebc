use Rattle.a32_instr.proofs.Pairs.{table_apart}
use Rattle.a32_instr.proofs.laws.no_word_fits_two_rows.Goals as goal

pub returns : goal.returns
returns c = table_apart
