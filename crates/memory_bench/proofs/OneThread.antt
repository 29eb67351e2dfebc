-- The number of one thread alone.
use Rattle.std.proofs.Common.{◌≡◌, ℕ, Bool, nat_lt, sym, ◌∙◌, arith}
use Rattle.std.proofs.lemmas.Bool.{ltb-true}
use Rattle.shared_memory.specs.Seen.{IsSingle}

pub zero-of-one : (f : ℕ → Bool) → ((t : ℕ) → f t ≡ nat_lt t 1) → IsSingle 0 f
zero-of-one f one = record { has = one 0; only = λ u has. let small = ltb-true u 1 (sym (one u) ∙ has) in omega arith }
