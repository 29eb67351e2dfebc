-- How often memory is written at places of a kind, and by whom.
use Rattle.std.proofs.Common.{◌≡◌, ℕ, ◌+◌, ◌==◌, Bool, true, false, if◌then◌else◌, List, [], ◌∷◌, ◌++◌, length, refl, sym, ◌∙◌, arith}
use Rattle.llsc_base.specs.declared.access.Place.{Place}
use Rattle.history.specs.ArmLegal.{IsArmLegal, MayAccess}
use Rattle.history.specs.Entry.{thread_of}
use Rattle.history.specs.Monitor.{Monitor, accessed}
use Rattle.history.specs.Parts.{entries_of}
use Rattle.history.specs.declared.entry.Entry.{Entry}
use Rattle.history.specs.declared.entry.Entry.TheVariants.{Read, Write, Fail, Clear, Watch, Miss, Begin, End, Start}
use Rattle.history.proofs.Marks.{IsAsLarge-accessed}
use Rattle.history.proofs.SumsBelow.{only, only-once, only-zero, sum_below, sum_below-plus, sum_below-same, sum_below-zero}

-- one where an entry is a write at a place of the kind
abbrev pub write_of : (Place → Bool) → Entry → ℕ
write_of kind (Write thread place value ex) = if kind place then 1 else 0
write_of kind _ = 0

-- how many writes of a list are at places of the kind
abbrev pub writes_of : (Place → Bool) → List Entry → ℕ
writes_of kind [] = 0
writes_of kind (entry ∷ entries) = write_of kind entry + writes_of kind entries

pub writes_of-append : (kind : Place → Bool) (front back : List Entry) → writes_of kind (front ++ back) ≡ writes_of kind front + writes_of kind back
writes_of-append kind [] back = omega arith
writes_of-append kind (entry ∷ front) back = let rest = writes_of-append kind front back in omega (arith, rest)

-- one entry more, for each thread
one_more_own : (kind : Place → Bool) (t : ℕ) (entry : Entry) (entries : List Entry)
    → writes_of kind (entries_of t (entry ∷ entries)) ≡ only (thread_of entry) (write_of kind entry) t + writes_of kind (entries_of t entries)
one_more_own kind t entry entries = by_case (thread_of entry == t)
  where
    by_case : (b : Bool) → writes_of kind (if b then entry ∷ entries_of t entries else entries_of t entries) ≡ (if b then write_of kind entry else 0) + writes_of kind (entries_of t entries)
    by_case true = refl
    by_case false = omega arith

-- a write is one of a thread that there is
by_its_thread : (m : Monitor) (threads : ℕ) (kind : Place → Bool) (entry : Entry) → length m.marks ≡ threads → MayAccess m entry
    → sum_below (only (thread_of entry) (write_of kind entry)) threads ≡ write_of kind entry
by_its_thread m n kind (Write t p v ex) many may = only-once t (if kind p then 1 else 0) n (let less = may.0.known in rw (sym many) less)
by_its_thread m n kind (Read t p v ex) many may = only-zero t n
by_its_thread m n kind (Fail t p v c) many may = only-zero t n
by_its_thread m n kind (Clear t) many may = only-zero t n
by_its_thread m n kind (Watch t p) many may = only-zero t n
by_its_thread m n kind (Miss t p) many may = only-zero t n
by_its_thread m n kind (Begin t p) many may = only-zero t n
by_its_thread m n kind (End t p) many may = only-zero t n
by_its_thread m n kind (Start t child entry arg) many may = only-zero t n

-- All writes at places of a kind are those of the threads.
pub writes_by_threads : (m : Monitor) (threads : ℕ) (kind : Place → Bool) (entries : List Entry) → length m.marks ≡ threads → IsArmLegal m entries
    → writes_of kind entries ≡ sum_below (λ t. writes_of kind (entries_of t entries)) threads
writes_by_threads m n kind [] many legal = sym (sum_below-zero n)
writes_by_threads m n kind (entry ∷ entries) many legal =
    let large = (IsAsLarge-accessed m entry legal.0).threads in
    let rest = writes_by_threads (accessed m entry) n kind entries (large ∙ many) legal.1 in
    let one = by_its_thread m n kind entry many legal.0 in
    let split = sum_below-plus (only (thread_of entry) (write_of kind entry)) (λ t. writes_of kind (entries_of t entries)) n in
    let each = sum_below-same (λ t. writes_of kind (entries_of t (entry ∷ entries))) (λ t. only (thread_of entry) (write_of kind entry) t + writes_of kind (entries_of t entries)) n (λ t less. one_more_own kind t entry entries) in
    omega (arith, rest, one, split, each)
