-- Stops at the limit of a class's writes, and whether the class of the word has had its writes by one store.
use Rattle.std.proofs.Common.{◌≡◌, ℕ, ◌≤◌, lit≤, arith}
use Rattle.llsc_base.specs.Memory.{class_of, row_of}
use Rattle.llsc_base.specs.declared.outside.Stop.TheVariants.{TagLimit}
use Rattle.guest_thread.specs.Outcome.{IsSpent}
use Rattle.guest_thread.specs.Worked.{machine_of, store_of, word}

-- two stops at a limit are one only at one address
pub same_limit : (addr other : ℕ) → TagLimit addr ≡ TagLimit other → addr ≡ other
same_limit addr other same = cc

-- the class of the word is spent by one store, where it takes one
pub spent_once : IsSpent (machine_of 2 1 1) (store_of 1 word) 8
unfolding row_of class_of
spent_once = lit≤ tt

-- and not, where it takes two
pub not_by_one : IsSpent (machine_of 2 1 2) (store_of 1 word) 8 → ⊥
unfolding row_of class_of
not_by_one spent = let wrong : 2 ≤ 1 = spent in absurd (omega (arith, wrong))
