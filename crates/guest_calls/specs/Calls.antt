-- The table of guest calls. An A32 guest calls by SVC with the immediate 0: the number of the call is in r7, its arguments
-- are in r0, r1 and r2, and the answer goes to r0. Call numbers and errors are those of Linux's EABI. Another instruction set says
-- which call of this table a call of its own is.
use Rattle.std.specs.Prelude.{ℕ, ◌+◌, ◌%◌, ◌==◌, ◌&&◌, ◌||◌, Bool, not, nat_lt, if◌then◌else◌}
use Rattle.llsc_base.specs.declared.outside.CallAsk.{CallAsk}

-- what a guest call does: it ends the thread with a code, is answered, or writes so many bytes of memory
-- from an address up, and then has their number as its answer
pub data CallEffect : Type 0 where
  exits : (code : ℕ) → CallEffect
  answers : (value : ℕ) → CallEffect
  writes_bytes : (from count : ℕ) → CallEffect

-- the most bytes that a thread writes
abbrev pub most_output : ℕ
most_output = 65536

-- the errors of calls, as answers: no such call (minus 38), no such descriptor (minus 9), an address that is none
-- (minus 14), and no room for the bytes (minus 28)
abbrev pub no_call : ℕ
no_call = 0xFFFFFFDA

abbrev pub bad_descriptor : ℕ
bad_descriptor = 0xFFFFFFF7

abbrev pub bad_address : ℕ
bad_address = 0xFFFFFFF2

abbrev pub no_room : ℕ
no_room = 0xFFFFFFE4

-- write(descriptor, buffer, count) where memory has `mem` bytes and the thread wrote `written` bytes before: the first
-- rule that fits. Descriptors 1 and 2 are one output. The end of the buffer is not taken modulo 2 to the 32.
abbrev pub write_effect : (descriptor buffer count mem written : ℕ) → CallEffect
write_effect descriptor buffer count mem written =
    if not ((descriptor == 1) || (descriptor == 2)) then answers bad_descriptor else
    if count == 0 then answers 0 else
    if nat_lt mem (buffer + count) then answers bad_address else
    if nat_lt most_output (written + count) then answers no_room else
    writes_bytes buffer count

-- the call that starts a thread, where a thread has a stock of numbers for those that it starts: its number is this project's own
abbrev pub is_start_call : CallAsk → Bool
is_start_call call = (call.number == 0xF0001) && (call.imm == 0)

-- the call by its number: exit is 1, write is 4 and sched_yield is 158; there is no other, and none by another immediate
abbrev pub call_effect : CallAsk → (mem written : ℕ) → CallEffect
call_effect call mem written =
    if not (call.imm == 0) then answers no_call else
    if call.number == 1 then exits (call.a % 256) else
    if call.number == 4 then write_effect call.a call.b call.c mem written else
    if call.number == 158 then answers 0 else
    answers no_call
