use Rattle.rv32_guest.proofs.Apart.{table_apart}
use Rattle.rv32_guest.proofs.laws.no_word_fits_two_rows.Goals as goal

pub returns : goal.returns
returns c = table_apart
