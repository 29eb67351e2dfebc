use Rattle.a32_instr.specs.Table.{table}
use Rattle.a32_instr.proofs.Meanings.{means_its_row, undefined_where_none, none_where_undefined}
use Rattle.a32_instr.proofs.Pairs.{table_apart}
use Rattle.a32_instr.proofs.laws.words_have_three_cases.Goals as goal

pub returns-clause-undefined : goal.returns-clause-undefined
returns-clause-undefined c word none = undefined_where_none table word none

pub returns-clause-fits_none : goal.returns-clause-fits_none
returns-clause-fits_none c word undefined = none_where_undefined table word undefined

pub returns-clause-by_its_row : goal.returns-clause-by_its_row
returns-clause-by_its_row c word small = means_its_row table word small table_apart
