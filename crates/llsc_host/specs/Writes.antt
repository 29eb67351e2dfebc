-- What calls on a host leave as it is, and what they write to it, by the host before and after.
use Rattle.std.specs.Prelude.{◌≡◌, List, ℕ, Result, Ok, Err}
use Rattle.llsc_host.specs.Host.{Adds, AddsFront, Rose}
use Rattle.llsc_host.specs.declared.host.Host.{Ghosts}

-- What is as it was after calls that read nothing: what files hold, how many reads failed, and the name of the last that did.
pub record KeepsReads {S : Type 0} (host : Ghosts S) (old new : S) : Type 0 where
  pub files : host.file new ≡ host.file old
  pub read_faults : host.read_faults new ≡ host.read_faults old
  pub lost : host.lost new ≡ host.lost old

-- What is as it was after calls that write nothing: what was written, and how many writes failed.
pub record KeepsWrites {S : Type 0} (host : Ghosts S) (old new : S) : Type 0 where
  pub written : host.written new ≡ host.written old
  pub write_faults : host.write_faults new ≡ host.write_faults old

-- a text was written whole, and nothing was read
pub record Wrote {S : Type 0} (host : Ghosts S) (old new : S) (text : List ℕ) : Type 0 where
  pub whole : Adds (host.written old) (host.written new) text
  pub other : host.write_faults new ≡ host.write_faults old
  pub reads : KeepsReads host old new

-- a write of a text failed, before which a front of it was written, and nothing was read
pub record Broke {S : Type 0} (host : Ghosts S) (old new : S) (text : List ℕ) : Type 0 where
  pub front : AddsFront (host.written old) (host.written new) text
  pub cause : Rose (host.write_faults old) (host.write_faults new)
  pub reads : KeepsReads host old new

-- a text was written whole, or after a failed write a front of it
abbrev pub Writes : {S A B : Type 0} → Ghosts S → (old new : S) → List ℕ → Result A B → Type 0
Writes host old new text (Ok _) = Wrote host old new text
Writes host old new text (Err _) = Broke host old new text
