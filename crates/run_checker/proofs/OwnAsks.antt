-- A place is itself, and so is a store.
use Rattle.std.proofs.Common.{◌≡◌, ℕ, ◌==◌, ◌&&◌, Bool, true, false, refl}
use Rattle.std.proofs.lemmas.Bool.{eq-eqb}
use Rattle.llsc_base.specs.Memory.{size_bytes}
use Rattle.llsc_base.specs.declared.access.Place.{Place}
use Rattle.run_checker.specs.Verdict.{is_place}

both_true : (a b : Bool) → a ≡ true → b ≡ true → (a && b) ≡ true
both_true true b one other = other
both_true false b one other = cc

pub same_place : (place : Place) → is_place place place ≡ true
same_place place =
    both_true (place.addr == place.addr) (size_bytes place.size == size_bytes place.size)
    (eq-eqb place.addr place.addr refl) (eq-eqb (size_bytes place.size) (size_bytes place.size) refl)

pub same_store : (place : Place) (value : ℕ) → (is_place place place && (value == value)) ≡ true
same_store place value = both_true (is_place place place) (value == value) (same_place place) (eq-eqb value value refl)
