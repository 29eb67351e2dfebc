-- The accesses of a merge may stand in a record.
use Rattle.std.proofs.Common.{◌≡◌, ℕ, ◌^◌, ◌<◌, ◌≤◌, All, List, [], ◌∷◌, length, map, None, refl, sym, ap, subst, ◌∙◌, arith}
use Rattle.std.proofs.lemmas.List.{length-replicate}
use Rattle.std.proofs.lemmas.List.Elements.{All-cons, All-nil}
use Rattle.llsc_base.specs.Memory.{size_bytes}
use Rattle.llsc_base.specs.Sizes.{Numbers}
use Rattle.llsc_base.specs.declared.access.Place.{Place}
use Rattle.llsc_base.specs.declared.access.Size.{Size}
use Rattle.llsc_base.specs.declared.access.Size.TheVariants.{B1, B2, B4, B8}
use Rattle.history.specs.Accesses.{entry_by, entry_of, history_of, nowhere}
use Rattle.history.specs.ArmLegal.{IsArmLegal, IsSound, MayAccess}
use Rattle.history.specs.Legal.{IsLegal}
use Rattle.history.specs.Monitor.{Monitor, accessed, at_rest_by}
use Rattle.history.specs.declared.entry.Access.{Access}
use Rattle.history.specs.declared.entry.Deed.{Deed}
use Rattle.history.specs.declared.entry.Deed.TheVariants as deed
use Rattle.history.specs.declared.entry.Entry.{Entry}
use Rattle.history.proofs.Appends.{IsArmLegal-from_accesses_of}
use Rattle.history.proofs.Marks.{IsAsLarge-accessed}
use Rattle.run_record.specs.Limits.{IsAccess, IsFormed}
use Rattle.run_merge.specs.Logs.{access_of}
use Rattle.run_merge.specs.Merge.{IsMerge}
use Rattle.guest_calls.proofs.Splits.{same_head, same_tail}
use Rattle.run_merge.proofs.LegalMerges.{merge_legal}

some_bytes : (size : Size) → 1 ≤ size_bytes size
some_bytes B1 = omega arith
some_bytes B2 = omega arith
some_bytes B4 = omega arith
some_bytes B8 = omega arith

module _ (m : Monitor) (threads : ℕ) (many : length m.marks ≡ threads) (small : length m.memory ≤ 2 ^ 32) where
  sound_access : (made : Deed) (thread : ℕ) (place : Place) (value : ℕ) → (made ≡ deed.Clear → ⊥) → IsSound (length m.marks) (length m.memory) thread place value
      → IsAccess threads (record { thread = thread; deed = made; place = place; value = value })
  sound_access made thread place value other sound = record {
    thread = subst (λ n. thread < n) many sound.known;
    formed = record {
      addr = omega (arith, sound.inside, small, some_bytes place.size);
      aligned = sound.aligned;
      fits = sound.fits;
      clear = λ is. absurd (other is);
    };
  }

  one_by : (made : Deed) (thread : ℕ) (place : Place) (value : ℕ) → MayAccess m (entry_by made thread place value)
      → record { thread = thread; deed = made; place = place; value = value } ≡ access_of (entry_by made thread place value)
      → IsAccess threads (record { thread = thread; deed = made; place = place; value = value })
  one_by deed.Load thread place value may form = sound_access deed.Load thread place value (λ e. cc) may.0
  one_by deed.LoadEx thread place value may form = sound_access deed.LoadEx thread place value (λ e. cc) may.0
  one_by deed.Store thread place value may form = sound_access deed.Store thread place value (λ e. cc) may.0
  one_by deed.StoreEx thread place value may form = sound_access deed.StoreEx thread place value (λ e. cc) may.0
  one_by deed.StoreFail thread place value may form = sound_access deed.StoreFail thread place value (λ e. cc) may
  one_by deed.Clear thread place value may form =
      let at : place ≡ nowhere = ap (λ (a : Access). a.place) form in
      let none : value ≡ 0 = ap (λ (a : Access). a.value) form in
      record {
        thread = subst (λ n. thread < n) many may;
        formed = subst (λ (p : Place). IsFormed (record { thread = thread; deed = deed.Clear; place = p; value = value })) (sym at)
            (subst (λ (v : ℕ). IsFormed (record { thread = thread; deed = deed.Clear; place = nowhere; value = v })) (sym none) (record {
              addr = omega arith;
              aligned = refl;
              fits = omega arith;
              clear = λ is. (refl, refl);
            }));
      }

all_from : (m : Monitor) (threads : ℕ) (accesses : List Access) → length m.marks ≡ threads → length m.memory ≤ 2 ^ 32 → IsArmLegal m (history_of accesses)
    → accesses ≡ map access_of (history_of accesses) → All (IsAccess threads) accesses
all_from m threads [] many small legal form = All-nil (IsAccess threads)
all_from m threads (access ∷ accesses) many small legal form =
    let grown = IsAsLarge-accessed m (entry_of access) legal.0 in
    All-cons (IsAccess threads) access accesses
    (one_by m threads many small access.deed access.thread access.place access.value legal.0
    (same_head access (access_of (entry_of access)) accesses (map access_of (history_of accesses)) form))
    (all_from (accessed m (entry_of access)) threads accesses (grown.threads ∙ many) (subst (λ n. n ≤ 2 ^ 32) (sym grown.bytes) small) legal.1
    (same_tail access (access_of (entry_of access)) accesses (map access_of (history_of accesses)) form))

pub merge_recorded : (size : Numbers) (bytes : List ℕ) (history : List Entry) (merged : List Access) → IsLegal size bytes history → length bytes ≤ 2 ^ 32 → IsMerge size history merged
    → merged ≡ map access_of (history_of merged) → All (IsAccess size.threads) merged
merge_recorded size bytes history merged legal small merge form =
    let first = at_rest_by size.granule bytes size.threads in
    all_from first size.threads merged (length-replicate size.threads None) small
    (merge_legal size bytes history (history_of merged) merge (IsArmLegal-from_accesses_of first history legal.accesses)) form
