-- The numbers of a machine and their ranges.
use Rattle.std.specs.Prelude.{◌≡◌, ◌-◌, ◌*◌, ◌^◌, ◌%◌, ◌==◌, ◌&&◌, not, nat_le, if◌then◌else◌, Bool, Option, Some, None, List, codes, ℕ}
use Rattle.std.specs.Int.{is_power_of_two}
use Rattle.llsc_base.specs.declared.sizes.SizeFault.{SizeFault}
use Rattle.llsc_base.specs.declared.sizes.SizeFault.TheVariants as fault

-- how much memory, how many guest threads, how many classes of rows, how many writes of a class, and the granule number: a
-- row has 8 * 2 ^ granule bytes
pub record Numbers : Type 0 where
  pub mem : ℕ
  pub threads : ℕ
  pub classes : ℕ
  pub limit : ℕ
  pub granule : ℕ

-- four numbers as one machine's, whose rows have eight bytes
abbrev pub numbers : ℕ → ℕ → ℕ → ℕ → Numbers
numbers mem threads classes limit = record { mem = mem; threads = threads; classes = classes; limit = limit; granule = 0 }

-- from 65,536 to 16,777,216 bytes, in pages of 4096
abbrev pub is_mem : ℕ → Bool
is_mem mem = nat_le 65536 mem && nat_le mem 16777216 && (mem % 4096 == 0)

-- 1 to 16
abbrev pub is_threads : ℕ → Bool
is_threads threads = nat_le 1 threads && nat_le threads 16

-- a power of two from 1 to 4096
abbrev pub is_classes : ℕ → Bool
is_classes classes = is_power_of_two classes && nat_le classes 4096

-- from 1 to 4,611,686,018,427,387,904, which is 2 to the 62
abbrev pub is_limit : ℕ → Bool
is_limit limit = nat_le 1 limit && nat_le limit (2 ^ 62)

-- from 0 to 8, which is rows of 8 to 2048 bytes
abbrev pub is_granule : ℕ → Bool
is_granule granule = nat_le granule 8

-- the first number, in the order of the fields, that is out of its range
abbrev pub size_fault : Numbers → Option SizeFault
size_fault n =
    if not (is_mem n.mem) then Some fault.Mem else
    if not (is_threads n.threads) then Some fault.Threads else
    if not (is_classes n.classes) then Some fault.Classes else
    if not (is_limit n.limit) then Some fault.Limit else
    if not (is_granule n.granule) then Some fault.Granule else None

-- every number is in its range
abbrev pub AreInRange : Numbers → Type 0
AreInRange n = size_fault n ≡ None

-- the bytes below the stacks: 4096 bytes for each thread stand at the end of memory
abbrev pub room_of : Numbers → ℕ
room_of n = n.mem - 4096 * n.threads

-- a fault's name
abbrev pub size_fault_name : SizeFault → List ℕ
size_fault_name fault.Mem = codes "Mem"
size_fault_name fault.Threads = codes "Threads"
size_fault_name fault.Classes = codes "Classes"
size_fault_name fault.Limit = codes "Limit"
size_fault_name fault.Granule = codes "Granule"
