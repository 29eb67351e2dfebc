-- What has passed its tests lies in memory.
use Rattle.std.proofs.Common.{◌≡◌, ◌+◌, ◌≤◌, ◌&&◌, nat_lt, not, if◌then◌else◌, Bool, true, false, IsTrue, Some, None, length, refl}
use Rattle.std.proofs.lemmas.Bool.{ltb-false, not-false}
use Rattle.llsc_base.specs.Memory.{is_aligned, size_bytes}
use Rattle.llsc_base.specs.Images.{Program, bar_of, touches_read_only}
use Rattle.llsc_base.specs.declared.access.Bar.TheVariants as bar
use Rattle.llsc_base.specs.declared.access.Place.{Place}
use Rattle.llsc_base.specs.declared.outside.Ask.{Ask}
use Rattle.llsc_base.specs.declared.outside.Ask.TheVariants as ask
use Rattle.guest_core.specs.Machine.{PassesTests}
use Rattle.guest_core.specs.Ports.{IsPlaced}

unbarred : (unaligned past read_only : Bool)
    → (if unaligned then Some bar.Alignment else if past then Some bar.Outside else if read_only then Some bar.ReadOnly else None) ≡ None
    → (unaligned ≡ false) × (past ≡ false)
unbarred true past read_only none = cc
unbarred false true read_only none = cc
unbarred false false read_only none = (refl, refl)

-- a place that nothing bars is aligned and lies in memory
placed_where : (program : Program) (place : Place) (store : Bool) → bar_of program place store ≡ None
    → IsTrue (is_aligned place) × (place.addr + size_bytes place.size ≤ length program.bytes)
placed_where program place store none =
    let found = unbarred (not (is_aligned place)) (nat_lt (length program.bytes) (place.addr + size_bytes place.size))
    (store && touches_read_only program.spans place.addr (place.addr + size_bytes place.size)) none in
    (not-false (is_aligned place) found.0, ltb-false (length program.bytes) (place.addr + size_bytes place.size) found.1)

pub passed_placed : (program : Program) (asked : Ask) → PassesTests program asked → IsPlaced (length program.bytes) asked
passed_placed program (ask.Load place) passed = placed_where program place false passed
passed_placed program (ask.LoadEx place) passed = placed_where program place false passed
passed_placed program (ask.Store place value) passed = placed_where program place true passed
passed_placed program (ask.StoreEx place value) passed = placed_where program place true passed
passed_placed program ask.Clear passed = tt
