-- Nothing stands against an access behind the code of an assembled program.
use Rattle.std.proofs.Common.{◌≡◌, ℕ, ◌+◌, ◌≤◌, ◌==◌, ◌&&◌, ◌||◌, Bool, true, false, not, max, min, if◌then◌else◌, [], ◌∷◌, None, Some, length, nat_lt, refl, ap, ◌∙◌, arith, le-ltb}
use Rattle.llsc_base.specs.Images.{bar_of, touches_read_only}
use Rattle.llsc_base.specs.Flat.{values_below}
use Rattle.llsc_base.specs.Memory.{is_aligned, size_bytes}
use Rattle.llsc_base.specs.Sizes.{Numbers}
use Rattle.llsc_base.specs.declared.access.Bar.TheVariants as bar
use Rattle.llsc_base.specs.declared.access.Place.{Place}
use Rattle.llsc_base.proofs.Values.{length-values_below}
use Rattle.elf32.specs.Units.{code_end, data_of, data_size, data_spans, unit_byte, unit_image}
use Rattle.elf32.specs.declared.units.Unit.{Unit}

-- the data is written, so it bars no store
written : (unit : Unit) (from to : ℕ) → touches_read_only (data_spans unit) from to ≡ false
written unit from to = by_size (data_size unit == 0)
  where
    by_size : (none : Bool)
        → touches_read_only (if none then [] else record { start = data_of unit; end = data_of unit + data_size unit; run = false; write = true } ∷ []) from to ≡ false
    by_size true = refl
    by_size false = refl

-- what stands against an access of which each test passes
none_by : (good past barred : Bool) → good ≡ true → past ≡ false → barred ≡ false
    → (if not good then Some bar.Alignment else if past then Some bar.Outside else if barred then Some bar.ReadOnly else None) ≡ None
none_by true false false a b c = refl
none_by false past barred a b c = absurd (let f : ⊥ = cc in f)
none_by true true barred a b c = absurd (let f : ⊥ = cc in f)
none_by true false true a b c = absurd (let f : ⊥ = cc in f)

both : (store touched : Bool) → touched ≡ false → (store && touched) ≡ false
both true touched e = e
both false touched e = refl

-- A place behind the code that lies in memory may be read and written.
pub unbarred : (unit : Unit) (size : Numbers) (place : Place) (store : Bool) → is_aligned place ≡ true
    → code_end unit ≤ place.addr → place.addr + size_bytes place.size ≤ size.mem
    → bar_of (unit_image unit size) place store ≡ None
unbarred unit size place store aligned behind inside =
    let past : nat_lt (length (values_below size.mem (unit_byte unit))) (place.addr + size_bytes place.size) ≡ false =
    le-ltb _ _ (omega (arith, inside, length-values_below size.mem (unit_byte unit))) in
    let apart : nat_lt (max 4096 place.addr) (min (code_end unit) (place.addr + size_bytes place.size)) ≡ false = grind (arith, behind) in
    none_by _ _ _ aligned past
    (both store (touches_read_only (unit_image unit size).spans place.addr (place.addr + size_bytes place.size))
    (ap (λ b. b || touches_read_only (data_spans unit) place.addr (place.addr + size_bytes place.size)) apart
    ∙ written unit place.addr (place.addr + size_bytes place.size)))
