-- A memory of one thread that stores, or of two that each store: what is loaded there, and what bytes are left.
use Rattle.std.proofs.Common.{◌≡◌, ◌≤◌, ◌<◌, ◌+◌, ℕ, true, List, [], length, slice_index, sym, ap, subst, ◌∙◌, inl, inr, arith}
use Rattle.std.specs.Prelude.{All, Option}
use Rattle.std.proofs.lemmas.Bool.{cases_eq}
use Rattle.llsc_base.specs.Memory.{size_bytes, stored}
use Rattle.llsc_base.specs.Sizes.{AreInRange, Numbers}
use Rattle.llsc_base.specs.declared.access.Place.{Place}
use Rattle.llsc_base.proofs.Bytes.{length-stored}
use Rattle.llsc_base.proofs.Stores.{stored-byte}
use Rattle.history.specs.Monitor.{Monitor, at_rest_by}
use Rattle.history.specs.Parts.{accesses_of, entries_of}
use Rattle.history.specs.declared.entry.Entry.{Entry}
use Rattle.history.proofs.Appends.{accesses_of-append}
use Rattle.shared_memory.specs.Origin.{IsLegalFrom, Origin}
use Rattle.shared_memory.specs.Seen.{IsFront}
use Rattle.memory_handle.specs.Accesses.{IsPlaceOf}
use Rattle.memory_handle.specs.Left.{bytes_left}
use Rattle.memory_handle.specs.declared.handles.Handle.{Handle}
use Rattle.llsc_c.specs.Sequences.{AreApart, with_value}
use Rattle.llsc_c.specs.Threads.{IsOpened}
use Rattle.llsc_c.proofs.Done.{HasLoadedBack, HasStoredOnce, none_there, writes_and_reads, writes_once}
use Rattle.llsc_c.proofs.LeftBytes.{bytes_everywhere, left_are, puts_in, whole_cells}
use Rattle.llsc_c.proofs.Writes.{AllLeave, OthersLeave, ShareNone, WritesOnce, leave-parts, leaves_outside, missed, none_leave, one_write, reads_back, sound_by, two_writes}

-- a memory of these numbers and bytes, all of whose threads begin by themselves
abbrev pub made : Numbers → List ℕ → Origin
made size bytes = record { size = size; first = size.threads; spare = 0; bytes = bytes; spends = true; steady = true }

-- it is at rest
abbrev at_first : Numbers → List ℕ → Monitor
at_first size bytes = at_rest_by size.granule bytes size.threads

-- of so many threads there is no other
nobody : (size : Numbers) (bytes : List ℕ) (history : List Entry) (t : ℕ) → IsLegalFrom (made size bytes) history → size.threads ≤ t
    → entries_of t (accesses_of history) ≡ []
nobody size bytes history t legal past = none_there t history (legal.known t past)

-- what memory begins as: as many bytes as its numbers say, which are in their ranges
pub record IsBegun (size : Numbers) (bytes : List ℕ) : Type 0 where
  pub range : AreInRange size
  pub sized : length bytes ≡ size.mem
  pub small : (k : ℕ) → slice_index bytes k < 256

pub begun : (size : Numbers) (bytes : List ℕ) (opened : Option Handle) → IsOpened size bytes opened → All (λ byte. byte < 256) bytes → IsBegun size bytes
begun size bytes opened is small = record { range = is.range; sized = is.sized; small = bytes_everywhere bytes small }

-- ---- one thread

pub got_alone : (size : Numbers) (bytes : List ℕ) (addr width value got : ℕ) (history : List Entry) → size.threads ≡ 1
    → IsLegalFrom (made size bytes) history → HasLoadedBack 0 addr width value got history → got ≡ value
got_alone size bytes addr width value got history single legal back =
    reads_back (at_first size bytes) (accesses_of history) 0 back.place value got legal.legal.accesses (writes_and_reads 0 addr width value got history back)
    (λ u k other from below. none_leave k u (accesses_of history) (nobody size bytes history u legal (omega (arith, single, other))))

pub left_alone : (size : Numbers) (bytes : List ℕ) (addr width value : ℕ) (history : List Entry) (place : Place) → size.threads ≡ 1 → IsBegun size bytes
    → IsLegalFrom (made size bytes) history → IsPlaceOf addr width place → WritesOnce 0 place value (accesses_of history)
    → bytes_left (made size bytes) history ≡ with_value bytes addr width value
left_alone size bytes addr width value history place single begun legal is writes =
    let inside = (sound_by (at_first size bytes) (accesses_of history) 0 place value legal.legal.accesses writes).0 in
    left_are (made size bytes) history (stored bytes place value)
    (one_write (at_first size bytes) (accesses_of history) 0 place value legal.legal.accesses writes (λ u other. nobody size bytes history u legal (omega (arith, single, other))))
    (length-stored bytes place value inside ∙ begun.sized)
    (whole_cells size begun.range)
    (stored-byte bytes place value inside begun.small)
    ∙ puts_in bytes addr width value place is

-- ---- two threads

share_none : (addr width other_addr other_width : ℕ) (place other : Place) → IsPlaceOf addr width place → IsPlaceOf other_addr other_width other
    → AreApart addr width other_addr other_width → ShareNone place other
share_none addr width other_addr other_width place other is other_is (inl after) = inl (omega (arith, after, is.addr_is, is.width_is, other_is.addr_is))
share_none addr width other_addr other_width place other is other_is (inr before) = inr (omega (arith, before, is.addr_is, other_is.width_is, other_is.addr_is))

pub left_together : (size : Numbers) (bytes : List ℕ) (addr width value other_addr other_width second : ℕ) (history : List Entry) → size.threads ≡ 2
    → IsBegun size bytes → IsLegalFrom (made size bytes) history → HasStoredOnce 0 addr width value history
    → HasStoredOnce 1 other_addr other_width second history → AreApart addr width other_addr other_width
    → bytes_left (made size bytes) history ≡ with_value (with_value bytes addr width value) other_addr other_width second
left_together size bytes addr width value other_addr other_width second history two begun legal mine yours apart =
    let accesses = legal.legal.accesses in
    let first = writes_once 0 addr width value history mine in
    let last = writes_once 1 other_addr other_width second history yours in
    let inside = (sound_by (at_first size bytes) (accesses_of history) 0 mine.place value accesses first).0 in
    let within = (sound_by (at_first size bytes) (accesses_of history) 1 yours.place second accesses last).0 in
    let once = length-stored bytes mine.place value inside in
    let still : yours.place.addr + size_bytes yours.place.size ≤ length (stored bytes mine.place value) = omega (arith, once, within) in
    left_are (made size bytes) history (stored (stored bytes mine.place value) yours.place second)
    (two_writes (at_first size bytes) (accesses_of history) 0 1 mine.place yours.place value second accesses first last
    (share_none addr width other_addr other_width mine.place yours.place mine.place_is yours.place_is apart)
    (λ w not_first not_last. nobody size bytes history w legal (omega (arith, two, not_first, not_last))))
    (length-stored (stored bytes mine.place value) yours.place second still ∙ once ∙ begun.sized)
    (whole_cells size begun.range)
    (stored-byte (stored bytes mine.place value) yours.place second still (stored-byte bytes mine.place value inside begun.small))
    ∙ puts_in (stored bytes mine.place value) other_addr other_width second yours.place yours.place_is
    ∙ ap (λ (memory : List ℕ). with_value memory other_addr other_width second) (puts_in bytes addr width value mine.place mine.place_is)

-- the one thread's load, by what it has seen, where the other's store is in the whole of which that is a front
pub got_beside : (size : Numbers) (bytes : List ℕ) (addr width value got other_addr other_width second : ℕ) (seen whole : List Entry) → size.threads ≡ 2
    → IsLegalFrom (made size bytes) seen → HasLoadedBack 0 addr width value got seen → IsFront seen whole
    → HasStoredOnce 1 other_addr other_width second whole → AreApart addr width other_addr other_width → got ≡ value
got_beside size bytes addr width value got other_addr other_width second seen whole two legal back front yours apart =
    reads_back (at_first size bytes) (accesses_of seen) 0 back.place value got legal.legal.accesses (writes_and_reads 0 addr width value got seen back) others
  where
    others : OthersLeave 0 back.place (accesses_of seen)
    others u k other from below = elim (cases_eq u 1) [
      | inl same ↦
          let share = share_none addr width other_addr other_width back.place yours.place back.place_is yours.place_is apart in
          let all = leaves_outside k 1 yours.place second (accesses_of whole) (writes_once 1 other_addr other_width second whole yours) (missed k back.place yours.place share from below) in
          let parted = subst (λ (es : List Entry). AllLeave k (entries_of 1 es)) (ap accesses_of front.1 ∙ accesses_of-append seen front.0) all in
          subst (λ (n : ℕ). AllLeave k (entries_of n (accesses_of seen))) (sym same) (leave-parts k 1 (accesses_of seen) (accesses_of front.0) parted).0
      | inr not_last ↦ none_leave k u (accesses_of seen) (nobody size bytes seen u legal (omega (arith, two, other, not_last)))
    ]
