-- A memory on which a store-exclusive loses to nothing but writes: loads, load-exclusives, failed store-exclusives and CLREX of
-- others end no reservation. This project's own, as DDI 0406C A3.4 leaves it to an implementation.
use Rattle.std.specs.Prelude.{◌≡◌, true, List}
use Rattle.std.specs.List.{list_any}
use Rattle.llsc_base.specs.Memory.{row_of}
use Rattle.llsc_base.specs.Sizes.{Numbers}
use Rattle.history.specs.Cause.{is_begin_of_another, since_watch}
use Rattle.history.specs.Each.{IsOfEach}
use Rattle.history.specs.declared.entry.Cause.TheVariants.{Lost}
use Rattle.history.specs.declared.entry.Entry.{Entry}
use Rattle.history.specs.declared.entry.Entry.TheVariants.{Fail}

-- a store-exclusive has lost only where a write of another thread in the class of its row has begun since its thread's last Watch
abbrev pub IsSteady : Numbers → List Entry → Entry → Type 0
IsSteady size past (Fail thread place value Lost) =
    list_any (is_begin_of_another size thread (row_of size.granule place)) (since_watch thread past) ≡ true
IsSteady size past _ = Unit {0}

-- so has each of a history that has lost
abbrev pub AreSteady : Numbers → List Entry → Type 0
AreSteady size history = IsOfEach (IsSteady size) history
