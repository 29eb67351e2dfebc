-- Which calls are refused, and why: the first misuse that stands against each. This project's own.
use Rattle.std.specs.Prelude.{◌≡◌, ◌⊎◌, ℕ, Bool, Option, Some, None, List, codes, ◌+◌, ◌-◌, ◌%◌, ◌^◌, ◌==◌, ◌||◌, nat_lt, if◌then◌else◌}
use Rattle.memory_handle.specs.declared.handles.Handle.{Handle}
use Rattle.memory_handle.specs.declared.misuse.Misuse.{Misuse}
use Rattle.memory_handle.specs.declared.misuse.Misuse.TheVariants.{Width, Alignment, Outside, Value, Several, One, Used, Busy, Spent, NoMemory}

-- how many bytes an access may have
abbrev pub is_width : ℕ → Bool
is_width width = width == 1 || width == 2 || width == 4 || width == 8

-- what stands against a place, in a memory of so many bytes
abbrev pub place_fault : ℕ → ℕ → ℕ → Option Misuse
place_fault mem addr width =
    if is_width width then (if nat_lt mem (addr + width) then Some Outside else (if addr % width == 0 then None else Some Alignment)) else Some Width

-- what stands against a call of one thread
abbrev pub clear_fault : Handle → Option Misuse
clear_fault handle = if handle.upto - handle.first == 1 then None else Some Several

-- what stands against an access
abbrev pub access_fault : Handle → ℕ → ℕ → Option Misuse
access_fault handle addr width = if handle.upto - handle.first == 1 then place_fault handle.mem addr width else Some Several

-- what stands against a value
abbrev pub value_fault : ℕ → ℕ → Option Misuse
value_fault width value = if nat_lt value (256 ^ width) then None else Some Value

-- of two, the first that stands
abbrev pub first_of : Option Misuse → Option Misuse → Option Misuse
first_of None later = later
first_of (Some misuse) later = Some misuse

-- what stands against a store, before memory is asked
abbrev pub store_fault : Handle → ℕ → ℕ → ℕ → Option Misuse
store_fault handle addr width value = first_of (access_fault handle addr width) (value_fault width value)

-- nothing stands against a store, and memory has refused it
pub record IsRefused (handle : Handle) (addr width value : ℕ) (misuse : Misuse) : Type 0 where
  pub sound : store_fault handle addr width value ≡ None
  pub why : (misuse ≡ Busy) ⊎ (misuse ≡ Spent)

-- what stands against a split
abbrev pub split_fault : Handle → Option Misuse
split_fault handle = if handle.upto - handle.first == 1 then Some One else (if handle.fresh then None else Some Used)

-- a misuse's name
abbrev pub misuse_name : Misuse → List ℕ
misuse_name Width = codes "Width"
misuse_name Alignment = codes "Alignment"
misuse_name Outside = codes "Outside"
misuse_name Value = codes "Value"
misuse_name Several = codes "Several"
misuse_name One = codes "One"
misuse_name Used = codes "Used"
misuse_name Busy = codes "Busy"
misuse_name Spent = codes "Spent"
misuse_name NoMemory = codes "NoMemory"
