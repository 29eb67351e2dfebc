-- The texts of the greatest numbers of a report and of a summary, and of some that 32 bits don't hold.
use lib.Count.{ones}
use Rattle.std.proofs.Common.{◌≡◌, ℕ, List, Some, codes, refl, sym}
use Rattle.std.specs.Fmt.{decimal}
use Rattle.number_text.specs.Decimal.{plain_number}
use Rattle.number_text.specs.Digits.{value_in}
use Rattle.number_text.proofs.PlainTexts.{plain_text}

-- the text of a number is the word that is read as it
shown : (word : List ℕ) (n : ℕ) → plain_number word ≡ Some n → decimal n ≡ word
shown word n is = sym (plain_text word n is).0

pub zero_shown : decimal 0 ≡ codes "0"
unfolding value_in ones
zero_shown = shown (codes "0") 0 refl

pub thread_shown : decimal 15 ≡ codes "15"
unfolding value_in ones
thread_shown = shown (codes "15") 15 refl

pub threads_shown : decimal 16 ≡ codes "16"
unfolding value_in ones
threads_shown = shown (codes "16") 16 refl

pub rounds_shown : decimal 50000 ≡ codes "50000"
unfolding value_in ones
rounds_shown = shown (codes "50000") 50000 refl

pub budget_shown : decimal 1000000000000 ≡ codes "1000000000000"
unfolding value_in ones
budget_shown = shown (codes "1000000000000") 1000000000000 refl

pub seed_shown : decimal 18446744073709551615 ≡ codes "18446744073709551615"
unfolding value_in ones
seed_shown = shown (codes "18446744073709551615") 18446744073709551615 refl

pub reads_shown : decimal 4294967296 ≡ codes "4294967296"
unfolding value_in ones
reads_shown = shown (codes "4294967296") 4294967296 refl

pub writes_shown : decimal 8589934592 ≡ codes "8589934592"
unfolding value_in ones
writes_shown = shown (codes "8589934592") 8589934592 refl

pub fails_shown : decimal 4294967297 ≡ codes "4294967297"
unfolding value_in ones
fails_shown = shown (codes "4294967297") 4294967297 refl
