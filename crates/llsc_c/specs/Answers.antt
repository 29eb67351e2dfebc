-- Which answer each call gives, by what C holds. This project's own.
use Rattle.std.specs.Prelude.{ℕ, Option, Some, None, ◌==◌, nat_lt, if◌then◌else◌}
use Rattle.llsc_base.specs.declared.sizes.SizeFault.{SizeFault}
use Rattle.memory_handle.specs.Handles.{handle_origin, has_all}
use Rattle.memory_handle.specs.Faults.{access_fault, clear_fault, split_fault, store_fault}
use Rattle.memory_handle.specs.declared.handles.Handle.{Handle}
use Rattle.memory_handle.specs.declared.misuse.Misuse.{Misuse}
use Rattle.memory_handle.specs.declared.misuse.Misuse.TheVariants.{Width, Alignment, Outside, Value, Several, One, Used, Busy, Spent, NoMemory}
use Rattle.llsc_c.specs.declared.answers.TheConstants.{DONE, NO_THREAD, WIDTH, UNALIGNED, OUTSIDE, VALUE, SEVERAL, ONE, USED, APART, NOT_ALL, BUSY, SPENT, NO_MEMORY, THREAD_HERE, SIZE, GRANULE, LENGTH}

-- to a misuse
abbrev pub misuse_answer : Misuse → ℕ
misuse_answer Width = WIDTH
misuse_answer Alignment = UNALIGNED
misuse_answer Outside = OUTSIDE
misuse_answer Value = VALUE
misuse_answer Several = SEVERAL
misuse_answer One = ONE
misuse_answer Used = USED
misuse_answer Busy = BUSY
misuse_answer Spent = SPENT
misuse_answer NoMemory = NO_MEMORY

-- by what stands against a call, if anything does
abbrev pub answer_of : Option Misuse → ℕ
answer_of None = DONE
answer_of (Some misuse) = misuse_answer misuse

-- a load's or a load-exclusive's
abbrev pub load_answer : Option Handle → ℕ → ℕ → ℕ
load_answer None addr width = NO_THREAD
load_answer (Some handle) addr width = answer_of (access_fault handle addr width)

-- a store's or a store-exclusive's, before memory is asked
abbrev pub store_answer : Option Handle → ℕ → ℕ → ℕ → ℕ
store_answer None addr width value = NO_THREAD
store_answer (Some handle) addr width value = answer_of (store_fault handle addr width value)

-- a CLREX's
abbrev pub clear_answer : Option Handle → ℕ
clear_answer None = NO_THREAD
clear_answer (Some handle) = answer_of (clear_fault handle)

-- of a struct that is to hold no thread
abbrev pub empty_answer : Option Handle → ℕ
empty_answer None = DONE
empty_answer (Some handle) = THREAD_HERE

-- of opening, by what stands against the numbers, before the heap is asked
abbrev pub open_answer : Option SizeFault → ℕ → Option Handle → ℕ
open_answer (Some fault) granule old = SIZE
open_answer None granule old = if nat_lt 8 granule then GRANULE else empty_answer old

-- of splitting, before the heap is asked
abbrev pub split_answer : Option Handle → Option Handle → ℕ
split_answer thread (Some there) = THREAD_HERE
split_answer None None = NO_THREAD
split_answer (Some handle) None = answer_of (split_fault handle)

-- of taking in what comes next
abbrev pub join_answer : Option Handle → Option Handle → ℕ
join_answer (Some mine) (Some yours) = if mine.upto == yours.first then DONE else APART
join_answer (Some mine) None = NO_THREAD
join_answer None yours = NO_THREAD

-- of closing, into so many bytes
abbrev pub close_answer : Option Handle → ℕ → ℕ
close_answer None len = NO_THREAD
close_answer (Some handle) len = if has_all handle then (if len == (handle_origin handle).size.mem then DONE else LENGTH) else NOT_ALL

-- of ending
abbrev pub end_answer : Option Handle → ℕ
end_answer None = NO_THREAD
end_answer (Some handle) = DONE
