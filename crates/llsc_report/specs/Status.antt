-- The status by the stops of threads.
use Rattle.std.specs.Prelude.{ℕ, ◌==◌, if◌then◌else◌, Bool, List}
use Rattle.std.specs.List.{list_all}
use Rattle.llsc_base.specs.declared.outside.Stop.{Stop}
use Rattle.llsc_base.specs.declared.outside.Stop.TheVariants as stop
use Rattle.guest_thread.specs.declared.ends.GuestEnd.{GuestEnd}

-- 0 where a thread left by an exit call with code 0, else 1
abbrev pub status_of : Stop → ℕ
status_of (stop.Exit code) = if code == 0 then 0 else 1
status_of _ = 1

-- each thread left by an exit call with code 0
abbrev pub have_left : List GuestEnd → Bool
have_left ends = list_all (λ end. status_of end.stop == 0) ends

-- 0 where each thread left so, else 1
abbrev pub status_of_all : List GuestEnd → ℕ
status_of_all ends = if have_left ends then 0 else 1
