-- The accesses and replies of a thread decide how many loads, stores and failed store-exclusives it had.
use Rattle.std.proofs.Common.{◌≡◌, ℕ, zero, suc, ◌+◌, Bool, true, false, if◌then◌else◌, map, sum_by, List, [], ◌∷◌, refl, sym, ◌∙◌, ap, zero-add}
use Rattle.std.proofs.lemmas.List.Sums.{sum_by-cons}
use Rattle.history.specs.Entry.{is_access}
use Rattle.history.specs.declared.entry.Entry.{Entry}
use Rattle.history.specs.declared.entry.Entry.TheVariants as entry
use Rattle.llsc_base.specs.declared.outside.Ask.{Ask}
use Rattle.llsc_base.specs.declared.outside.Ask.TheVariants.{Load, LoadEx, Store, StoreEx, Clear}
use Rattle.guest_calls.specs.Run.{Pair}
use Rattle.guest_calls.specs.Pairs.{pair_of, pairs_of}
use Rattle.history.specs.Parts.{accesses_of, entries_of}
use Rattle.guest_thread.specs.Counts.{reads_in, writes_in, fails_in}

-- one for a load or a load-exclusive
abbrev pub read_by : Ask → ℕ → ℕ
read_by (Load place) reply = 1
read_by (LoadEx place) reply = 1
read_by _ reply = 0

-- a store, or a store-exclusive that stored
abbrev pub write_by : Ask → ℕ → ℕ
write_by (Store place value) reply = 1
write_by (StoreEx place value) zero = 1
write_by _ _ = 0

-- a store-exclusive that failed
abbrev pub fail_by : Ask → ℕ → ℕ
fail_by (StoreEx place value) (suc reply) = 1
fail_by _ _ = 0

-- An entry counts as its access and reply do, and what stands for a mark counts as nothing.
pub record IsCounted (f : Entry → ℕ) (g : Pair → ℕ) : Type 0 where
  pub entry : (e : Entry) → f e ≡ g (pair_of e)
  pub nothing : g (Clear, 0) ≡ 0

-- loads
reads_entry : (e : Entry) → reads_in e ≡ read_by (pair_of e).0 (pair_of e).1
reads_entry (entry.Read thread place value false) = refl
reads_entry (entry.Write thread place value false) = refl
reads_entry _ = refl

pub reads_counted : IsCounted reads_in (λ pair. read_by pair.0 pair.1)
reads_counted = record { entry = reads_entry; nothing = refl }

-- stores
writes_entry : (e : Entry) → writes_in e ≡ write_by (pair_of e).0 (pair_of e).1
writes_entry (entry.Read thread place value false) = refl
writes_entry (entry.Write thread place value false) = refl
writes_entry _ = refl

pub writes_counted : IsCounted writes_in (λ pair. write_by pair.0 pair.1)
writes_counted = record { entry = writes_entry; nothing = refl }

-- failed store-exclusives
fails_entry : (e : Entry) → fails_in e ≡ fail_by (pair_of e).0 (pair_of e).1
fails_entry (entry.Read thread place value false) = refl
fails_entry (entry.Write thread place value false) = refl
fails_entry _ = refl

pub fails_counted : IsCounted fails_in (λ pair. fail_by pair.0 pair.1)
fails_counted = record { entry = fails_entry; nothing = refl }

-- what stands for a mark
pair_of-mark : (e : Entry) → is_access e ≡ false → pair_of e ≡ (Clear, 0)
pair_of-mark (entry.Read thread place value ex) is = cc
pair_of-mark (entry.Write thread place value ex) is = cc
pair_of-mark (entry.Fail thread place value cause) is = cc
pair_of-mark (entry.Clear thread) is = cc
pair_of-mark _ is = refl

-- a mark counts as nothing
mark_counted : (f : Entry → ℕ) (g : Pair → ℕ) → IsCounted f g → (e : Entry) → is_access e ≡ false → f e ≡ 0
mark_counted f g counted e is = counted.entry e ∙ ap g (pair_of-mark e is) ∙ counted.nothing

-- one entry before those that are counted
entry_counted : (f : Entry → ℕ) (g : Pair → ℕ) → IsCounted f g → (e : Entry) (entries : List Entry) (b : Bool) → is_access e ≡ b
    → sum_by f entries ≡ sum_by g (map pair_of (accesses_of entries))
    → f e + sum_by f entries ≡ sum_by g (map pair_of (if b then e ∷ accesses_of entries else accesses_of entries))
entry_counted f g counted e entries true is rest =
    ap (λ n. n + sum_by f entries) (counted.entry e) ∙ ap (λ n. g (pair_of e) + n) rest
    ∙ sym (sum_by-cons g (pair_of e) (map pair_of (accesses_of entries)))
entry_counted f g counted e entries false is rest =
    ap (λ n. n + sum_by f entries) (mark_counted f g counted e is) ∙ zero-add (sum_by f entries) ∙ rest

-- entries count as their accesses and replies do
entries_counted : (f : Entry → ℕ) (g : Pair → ℕ) → IsCounted f g → (entries : List Entry)
    → sum_by f entries ≡ sum_by g (map pair_of (accesses_of entries))
entries_counted f g counted [] = refl
entries_counted f g counted (e ∷ entries) =
    sum_by-cons f e entries ∙ entry_counted f g counted e entries (is_access e) refl (entries_counted f g counted entries)

-- where a thread has the same accesses and replies in two histories, its count is the same
pub same_count : (f : Entry → ℕ) (g : Pair → ℕ) → IsCounted f g → (t : ℕ) (history other : List Entry) → pairs_of t history ≡ pairs_of t other
    → sum_by f (entries_of t history) ≡ sum_by f (entries_of t other)
same_count f g counted t history other same =
    entries_counted f g counted (entries_of t history) ∙ ap (sum_by g) same ∙ sym (entries_counted f g counted (entries_of t other))
