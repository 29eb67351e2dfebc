-- How 64 bits count the threads of a machine of which some begin by themselves and may start others.
use Rattle.std.proofs.Common.{◌≡◌, ◌+◌, ◌-◌, ◌*◌, ◌^◌, ◌≤◌, min, ℕ, zero, suc, None, arith, inl, inr, refl, ap}
use Rattle.std.proofs.Math.Nat.{mul-le-mul_right, zero-mul}
use Rattle.std.proofs.lemmas.Bool.{cases_lt}
use Rattle.std.proofs.lemmas.Bool.Decides.{nat_tests}
use Rattle.llsc_base.specs.Sizes.{Numbers, is_threads, size_fault}

-- a product of which one number was cut off before is cut off as the whole one is
pub saturated : (first spare most : ℕ) → min (first * min (spare + 1) most) most ≡ min (first * (1 + spare)) most
saturated zero spare most = rw (zero-mul (min (spare + 1) most), zero-mul (1 + spare)) refl
saturated (suc n) spare most = elim (cases_lt most (spare + 1)) [
  | inl past ↦
      let cut : min (spare + 1) most ≡ most = omega arith in
      let least : 1 * most ≤ suc n * most = mul-le-mul_right most (omega arith) in
      let exact : 1 * (1 + spare) ≤ suc n * (1 + spare) = mul-le-mul_right (1 + spare) (omega arith) in
      rw cut (omega arith)
  | inr within ↦
      let whole : min (spare + 1) most ≡ 1 + spare = omega arith in
      rw whole refl
]

-- a machine may have as many threads as 64 bits count just where it may have all
alike : (counted all : ℕ) → counted ≡ min all (2 ^ 64 - 1) → is_threads counted ≡ is_threads all
alike counted all is = grind (arith, nat_tests)

-- a machine without a fault has 1 to 16 threads
pub few_threads : (n : Numbers) → size_fault n ≡ None → (1 ≤ n.threads) × (n.threads ≤ 16)
few_threads n clean = grind (arith, nat_tests)

-- the machine with as many threads as 64 bits count has the fault of the one with all
pub fault_same : (n : Numbers) (counted all : ℕ) → counted ≡ min all (2 ^ 64 - 1) → size_fault (record n { threads = counted }) ≡ size_fault (record n { threads = all })
fault_same n counted all is = cc (alike counted all is)

-- and is that one, where it has no fault
pub machine_same : (n : Numbers) (counted all : ℕ) → counted ≡ min all (2 ^ 64 - 1) → size_fault (record n { threads = all }) ≡ None
    → ◌≡◌ {A = Numbers} (record n { threads = counted }) (record n { threads = all })
machine_same n counted all is clean =
    let few = few_threads (record n { threads = all }) clean in
    let whole : counted ≡ all = omega (arith, few, is) in
    ap (λ (t : ℕ). record n { threads = t }) whole
