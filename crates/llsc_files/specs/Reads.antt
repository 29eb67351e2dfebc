-- What comes of a read, and which statuses an answer has.
use Rattle.std.specs.Prelude.{◌≡◌, ℕ, ◌⊎◌, List, Option, Some, None, Result, Ok, Err, Vec, codes}
use Rattle.std.specs.Global.{Global}
use Rattle.llsc_host.specs.declared.host.Host.{Ghosts}
use Rattle.llsc_host.specs.declared.host.ReadFault.{ReadFault}
use Rattle.llsc_host.specs.declared.host.ReadFault.TheVariants.{Failed, FileTooLong, Memory}
use Rattle.llsc_host.specs.Host.{AreBytes, Rose}
use Rattle.llsc_host.specs.Writes.{KeepsReads, KeepsWrites}
use Rattle.llsc_files.specs.Refusals.{too_long}

-- the statuses of an answer that was given whole
abbrev pub IsDone : ℕ → Type 0
IsDone status = (status ≡ 0) ⊎ ((status ≡ 1) ⊎ ((status ≡ 4) ⊎ (status ≡ 7)))

-- the bytes that a file may hold, and not too many
abbrev pub IsHad : Option (List ℕ) → ℕ → List ℕ → Type 0
IsHad held most bytes = AreBytes held bytes × (too_long most bytes ≡ None)

-- a file may hold too many bytes
abbrev pub MayBeLong : Option (List ℕ) → ℕ → Type 0
MayBeLong held most = (bytes : List ℕ) × (AreBytes held bytes × (too_long most bytes ≡ Some (codes "FileTooLong")))

-- what a read of a file's bytes came to, so many at most: they were had, or it failed, which the host counts, or they are too
-- many, or memory is wanting
abbrev pub Had : {S : Type 0} → Ghosts S → (old new : S) → List ℕ → ℕ → Result (Vec ℕ Global) ReadFault → Type 0
Had host old new name most (Ok file) = KeepsReads host old new × IsHad (host.file old name) most file.items
Had host old new name most (Err Failed) = Rose (host.read_faults old) (host.read_faults new) × (host.lost new ≡ name)
Had host old new name most (Err FileTooLong) = KeepsReads host old new × MayBeLong (host.file old name) most
Had host old new name most (Err Memory) = KeepsReads host old new

-- a read, which writes nothing
pub record Reads {S : Type 0} (host : Ghosts S) (old new : S) (name : List ℕ) (most : ℕ) (result : Result (Vec ℕ Global) ReadFault) : Type 0 where
  pub had : Had host old new name most result
  pub files : host.file new ≡ host.file old
  pub writes : KeepsWrites host old new
