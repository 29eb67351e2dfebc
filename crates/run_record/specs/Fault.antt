-- The fault of bytes that are no record's text: the first that they have, said by what stands in front of it.
use Rattle.std.specs.Prelude.{◌≡◌, ◌≢◌, ℕ, ◌+◌, ◌^◌, ◌<◌, ◌≤◌, List, [], All, flat_map, ◌++◌, length}
use Rattle.history.specs.declared.entry.Access.{Access}
use Rattle.run_record.specs.declared.faults.RecordFault.{RecordFault}
use Rattle.run_record.specs.declared.faults.RecordFault.TheVariants as fault
use Rattle.run_record.specs.Limits.{IsAccess, IsFormed, IsRun, most_accesses}
use Rattle.run_record.specs.Text.{header_text, line_text}

-- a header line of either format stands in front: the numbers are those of a run, and the number of accesses has 64 bits
pub record HasHeader (bytes : List ℕ) (threads granule budget count : ℕ) (rest : List ℕ) : Type 0 where
  pub numbers : IsRun threads granule budget
  pub small : count < 2 ^ 64
  pub text : bytes ≡ header_text threads granule budget count ++ rest

-- the line of an access stands in front, whose thread number has 64 bits, whichever threads there are
pub record HasLine (bytes : List ℕ) (access : Access) (rest : List ℕ) : Type 0 where
  pub thread : access.thread < 2 ^ 64
  pub formed : IsFormed access
  pub text : bytes ≡ line_text access ++ rest

-- a header and good lines stand in front, no more lines than the header says, and that is no more than a record may have
pub record Begins (bytes : List ℕ) (threads count : ℕ) (accesses : List Access) (rest : List ℕ) : Type 0 where
  pub granule : ℕ
  pub budget : ℕ
  pub header : HasHeader bytes threads granule budget count (flat_map line_text accesses ++ rest)
  pub few : count ≤ most_accesses
  pub good : All (IsAccess threads) accesses
  pub within : length accesses ≤ count

-- The first fault. Lines are counted from 1, the header first; so the line behind so many accesses has their number and 2.
pub data HasFault (bytes : List ℕ) : RecordFault → Type 0 where
  -- no header line stands in front
  header : ((threads granule budget count : ℕ) (rest : List ℕ) → HasHeader bytes threads granule budget count rest → ⊥)
      → HasFault bytes fault.Header
  -- the header says more accesses than a record may have
  too_long : (threads granule budget count : ℕ) (rest : List ℕ) → HasHeader bytes threads granule budget count rest
      → most_accesses < count
      → HasFault bytes fault.TooLong
  -- behind good lines one is due, and none stands there
  line : (threads count : ℕ) (accesses : List Access) (rest : List ℕ) → Begins bytes threads count accesses rest
      → length accesses < count
      → ((access : Access) (later : List ℕ) → HasLine rest access later → ⊥)
      → HasFault bytes (fault.Line (length accesses + 2))
  -- bytes stand behind the last line
  left : (threads count : ℕ) (accesses : List Access) (rest : List ℕ) → Begins bytes threads count accesses rest
      → length accesses ≡ count
      → rest ≢ []
      → HasFault bytes (fault.Line (length accesses + 2))
  -- behind good lines one is due, and one stands there of a thread that isn't of the run
  thread : (threads count : ℕ) (accesses : List Access) (rest : List ℕ) → Begins bytes threads count accesses rest
      → length accesses < count
      → (access : Access) (later : List ℕ) → HasLine rest access later
      → threads ≤ access.thread
      → HasFault bytes (fault.Thread (length accesses + 2))
