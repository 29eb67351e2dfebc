-- What no bar against an access says of its place, and where there is none.
use Rattle.std.proofs.Common.{◌≡◌, ℕ, ◌+◌, ◌≤◌, Bool, true, false, Some, None, length, arith, nat_lt, not, ◌&&◌, if◌then◌else◌, refl}
use Rattle.llsc_base.specs.Memory.{is_aligned, size_bytes}
use Rattle.llsc_base.specs.Images.{Program, bar_of, touches_read_only}
use Rattle.llsc_base.specs.declared.access.Place.{Place}
use Rattle.llsc_base.specs.declared.access.Bar.TheVariants.{Alignment, Outside, ReadOnly}

-- what holds of the three tests where none of them gives a bar
none_cases : (aligned store kept : Bool) (count end : ℕ)
    → (if not aligned then Some Alignment else if nat_lt count end then Some Outside else if store && kept then Some ReadOnly else None) ≡ None
    → (aligned ≡ true) × (end ≤ count) × ((store && kept) ≡ false)
none_cases true store kept count end e = (refl, grind arith, grind arith)
none_cases false store kept count end e = absurd (let h : ⊥ = cc in h)

passed : (program : Program) (place : Place) (store : Bool) → bar_of program place store ≡ None
    → (is_aligned place ≡ true) × (place.addr + size_bytes place.size ≤ length program.bytes)
    × ((store && touches_read_only program.spans place.addr (place.addr + size_bytes place.size)) ≡ false)
passed program place store e =
    let end = place.addr + size_bytes place.size in
    none_cases (is_aligned place) store (touches_read_only program.spans place.addr end) (length program.bytes) end e

-- the place is aligned
pub bar_of-aligned : (program : Program) (place : Place) (store : Bool) → bar_of program place store ≡ None → is_aligned place ≡ true
bar_of-aligned program place store e = (passed program place store e).0

-- the place lies in memory
pub bar_of-inside : (program : Program) (place : Place) (store : Bool)
    → bar_of program place store ≡ None → place.addr + size_bytes place.size ≤ length program.bytes
bar_of-inside program place store e = (passed program place store e).1

-- a store meets no span that isn't written
pub bar_of-written : (program : Program) (place : Place)
    → bar_of program place true ≡ None → touches_read_only program.spans place.addr (place.addr + size_bytes place.size) ≡ false
bar_of-written program place e = (passed program place true e).2

none_from : (aligned barred : Bool) (count end : ℕ) → aligned ≡ true → end ≤ count → barred ≡ false
    → (if not aligned then Some Alignment else if nat_lt count end then Some Outside else if barred then Some ReadOnly else None) ≡ None
none_from aligned barred count end flat inside apart = grind arith

-- nothing stands against an access that passes the three tests
pub bar_of-none : (program : Program) (place : Place) (store : Bool) → is_aligned place ≡ true
    → place.addr + size_bytes place.size ≤ length program.bytes
    → (store && touches_read_only program.spans place.addr (place.addr + size_bytes place.size)) ≡ false
    → bar_of program place store ≡ None
bar_of-none program place store aligned inside apart = none_from (is_aligned place) _ (length program.bytes) _ aligned inside apart
