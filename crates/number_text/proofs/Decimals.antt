-- A decimal number by its last digit.
use Rattle.std.proofs.Common.{◌≡◌, ℕ, ◌+◌, ◌/◌, ◌%◌, ◌^◌, ◌<◌, ◌≤◌, [], ◌∷◌, length, ap, ◌∙◌, length-append}
use Rattle.std.specs.Fmt.{decimal}
pub use Rattle.std.proofs.lemmas.Fmt.{decimal_digit, decimal_step}

pub length_step : (n : ℕ) → 10 ≤ n → n < 2 ^ 64 → length (decimal n) ≡ length (decimal (n / 10)) + 1
length_step n h small = ap length (decimal_step n h small) ∙ length-append (decimal (n / 10)) ((48 + n % 10) ∷ [])

-- one digit, or those of a tenth and the last one
pub ruleset decimal_ends = (decimal_digit, decimal_step, length_step)
