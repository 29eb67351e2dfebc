-- Names of registers and of kinds of shift are words, and are read again.
use Rattle.std.proofs.Common.{◌≡◌, ℕ, ◌<◌, ◌≤◌, Some, length, refl, subst, codes, arith}
use Rattle.a32_forms.specs.Names.{register_of, register_name, shift_of, shift_name, place_from}
use Rattle.a32_forms.proofs.Below.{below_4, below_16}

pub register_again : (v : ℕ) → v < 16 → register_of (register_name v) ≡ Some v
unfolding place_from
register_again v h = below_16 (λ v. register_of (register_name v) ≡ Some v) refl refl refl refl refl refl refl refl refl refl refl refl refl refl refl refl v h

pub shift_again : (v : ℕ) → v < 4 → shift_of (shift_name v) ≡ Some v
unfolding place_from
shift_again v h = below_4 (λ v. shift_of (shift_name v) ≡ Some v) refl refl refl refl v h

pub register_room : (v : ℕ) → v < 16 → length (register_name v) ≤ 3
register_room v h = below_16 (λ v. length (register_name v) ≤ 3) (omega arith) (omega arith) (omega arith) (omega arith) (omega arith) (omega arith) (omega arith) (omega arith) (omega arith) (omega arith) (omega arith) (omega arith) (omega arith) (omega arith) (omega arith) (omega arith) v h

pub shift_room : (v : ℕ) → v < 4 → length (shift_name v) ≤ 3
shift_room v h = below_4 (λ v. length (shift_name v) ≤ 3) (omega arith) (omega arith) (omega arith) (omega arith) v h

-- the last of the registers, whose name stands for each number that is none of the others
pub last_register : (v : ℕ) → 15 ≤ v → v < 16 → codes "pc" ≡ register_name v
last_register v above below = let last : 15 ≡ v = omega (arith, above, below) in subst (λ w. codes "pc" ≡ register_name w) last refl
