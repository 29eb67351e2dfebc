-- the number falls from call to call
use Rattle.number_text.proofs.write.+write_decimal.Given as goal

abbrev pub decreases-write_decimal : goal.decreases-write_decimal
decreases-write_decimal l = l.number
