use Rattle.rv32_guest.specs.Table.{table}
use Rattle.rv32_guest.proofs.Apart.{table_apart}
use Rattle.rv32_guest.proofs.Meanings.{means_its_row, undefined_where_none, none_where_undefined, predictable}
use Rattle.rv32_guest.proofs.laws.words_have_two_cases.Goals as goal

pub returns-clause-undefined : goal.returns-clause-undefined
returns-clause-undefined c word none = undefined_where_none table word none

pub returns-clause-fits_none : goal.returns-clause-fits_none
returns-clause-fits_none c word undefined = none_where_undefined table word undefined

pub returns-clause-by_its_row : goal.returns-clause-by_its_row
returns-clause-by_its_row c word = means_its_row table word table_apart

pub returns-clause-predictable : goal.returns-clause-predictable
returns-clause-predictable c word unpredictable = predictable table word unpredictable
