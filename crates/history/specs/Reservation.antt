-- The reservation of a thread, this project's own: the row that it watches, and what ends that.
use Rattle.std.specs.Prelude.{ℕ, ◌==◌, ◌&&◌, if◌then◌else◌, Bool, false, Option, Some, None, List}
use Rattle.std.specs.List.{list_any}
use Rattle.llsc_base.specs.Memory.{row_of}
use Rattle.llsc_base.specs.Sizes.{Numbers}
use Rattle.history.specs.Entry.{is_in_class}
use Rattle.history.specs.Since.{Since, since_last, watch_of}
use Rattle.history.specs.declared.entry.Entry.{Entry}
use Rattle.history.specs.declared.entry.Entry.TheVariants.{Write, Fail, Clear, Miss, Begin}

-- an entry ends the reservation of a thread on a row: the thread's own Miss, Clear, Fail or exclusive Write, or its
-- Begin in the class of the row
abbrev pub ends_reservation : Numbers → ℕ → ℕ → Entry → Bool
ends_reservation size thread row (Miss other place) = other == thread
ends_reservation size thread row (Clear other) = other == thread
ends_reservation size thread row (Fail other place value cause) = other == thread
ends_reservation size thread row (Write other place value ex) = (other == thread) && ex
ends_reservation size thread row (Begin other place) = (other == thread) && is_in_class size row place
ends_reservation size thread row _ = false

-- the watched row, unless a later entry has ended the reservation
abbrev pub reserved_since : Numbers → ℕ → Option Since → Option ℕ
reserved_since size thread None = None
reserved_since size thread (Some since) =
    if list_any (ends_reservation size thread (row_of size.granule since.place)) since.later then None else Some (row_of size.granule since.place)

-- the row on which a thread holds a reservation after a history, if it holds one: that of its last Watch, unless an
-- entry since then has ended the reservation
abbrev pub reservation_of : Numbers → ℕ → List Entry → Option ℕ
reservation_of size thread history = reserved_since size thread (since_last (watch_of thread) history)
