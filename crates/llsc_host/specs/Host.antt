-- What a host of the program did in a call, by what it held before and after.
use Rattle.std.specs.Prelude.{◌≡◌, ℕ, ◌-◌, ◌^◌, ◌<◌, ◌⊎◌, List, ◌++◌, take, Option, Some, None, codes}
use Rattle.llsc_host.specs.declared.host.ReadFault.{ReadFault}
use Rattle.llsc_host.specs.declared.host.ReadFault.TheVariants.{Failed, FileTooLong, Memory}

-- a count rose: it is greater than before, or stands at the end of its type
abbrev pub Rose : ℕ → ℕ → Type 0
Rose old new = (old < new) ⊎ (new ≡ 2 ^ 64 - 1)

-- a file that is told to hold bytes holds just these; one that is not told may hold any
abbrev pub AreBytes : Option (List ℕ) → List ℕ → Type 0
AreBytes (Some told) bytes = bytes ≡ told
AreBytes None bytes = Unit {0}

-- What was written is what was written before and then the text, where both are told. A host may stop telling; what was once
-- not told is never told again.
abbrev pub Adds : Option (List ℕ) → Option (List ℕ) → List ℕ → Type 0
Adds (Some old) (Some new) text = new ≡ old ++ text
Adds (Some old) None text = Unit {0}
Adds None None text = Unit {0}
Adds None (Some new) text = ⊥

-- the first bytes of the text were added to what was written
abbrev pub AddsFront : Option (List ℕ) → Option (List ℕ) → List ℕ → Type 0
AddsFront old new text = (k : ℕ) × Adds old new (take k text)

-- the name of a read's fault
abbrev pub read_fault_name : ReadFault → List ℕ
read_fault_name Failed = codes "Failed"
read_fault_name FileTooLong = codes "FileTooLong"
read_fault_name Memory = codes "Memory"
