-- The guest calls of RISC-V: those of the table of guest calls, under the numbers that Linux has for RISC-V.
use Rattle.std.specs.Prelude.{ℕ, ◌==◌, if◌then◌else◌}
use Rattle.llsc_base.specs.declared.outside.CallAsk.{CallAsk}

-- the number in the table of exit, write and sched_yield; 0 is no call there
abbrev pub number_of : ℕ → ℕ
number_of number =
    if number == 93 then 1 else
    if number == 64 then 4 else
    if number == 124 then 158 else
    0

-- the call of the table that a call is
abbrev pub call_of : CallAsk → CallAsk
call_of call = record call { number = number_of call.number }
