-- What calls have done to the handles that structs hold, and what their threads have then done in the history.
use Rattle.std.proofs.Common.{◌≡◌, ℕ, false, List, [], ◌++◌, Option, Some, sym, ap, subst, ◌∙◌}
use Rattle.llsc_base.specs.declared.access.Place.{Place}
use Rattle.history.specs.Operation.{entries_of_operation}
use Rattle.history.specs.Operation.Operation.{load, store}
use Rattle.history.specs.Parts.{accesses_of, entries_of}
use Rattle.history.specs.declared.entry.Entry.{Entry}
use Rattle.history.proofs.Additions.{own_first}
use Rattle.history.proofs.Appends.{entries_of-append}
use Rattle.shared_memory.specs.Origin.{Origin}
use Rattle.shared_memory.specs.Seen.{Sees}
use Rattle.memory_handle.specs.Accesses.{HasStored, IsPlaceOf, Makes}
use Rattle.memory_handle.specs.Handles.{AreAlike, handle_origin, handle_seen}
use Rattle.memory_handle.specs.declared.handles.Handle.{Handle}
use Rattle.llsc_c.specs.Threads.{Becomes}
use Rattle.llsc_c.proofs.Same.{same_handle}
use Rattle.llsc_c.proofs.Writes.{WritesAndReads, WritesOnce}

-- what was done to the handle that a struct is known to hold
pub record HasDone (did : Handle → Handle → Type 0) (from to : Handle) : Type 0 where
  pub does : did from to
  pub alike : AreAlike from to

pub done : (did : Handle → Handle → Type 0) (old new : Option Handle) (from : Handle) → (becomes : Becomes did old new) → old ≡ Some from
    → HasDone did from becomes.to
done did old new from becomes held =
    subst (λ (h : Handle). HasDone did h becomes.to) (same_handle from becomes.from (sym held ∙ becomes.was)) (record { does = becomes.does; alike = becomes.alike })

-- a thread's own entries, once more was seen
own_after : (origin : Origin) (t : ℕ) (old own new : List Entry) → Sees origin t old own new → entries_of t new ≡ entries_of t old ++ own
own_after origin t old own new sees =
    ap (entries_of t) sees.longer ∙ entries_of-append t old sees.added ∙ ap (λ (entries : List Entry). entries_of t old ++ entries) sees.mine

-- ---- a store, and a load behind it

-- all that a thread has done in a history is a store
pub record HasStoredOnce (t addr width value : ℕ) (history : List Entry) : Type 0 where
  pub place : Place
  pub place_is : IsPlaceOf addr width place
  pub own : entries_of t history ≡ entries_of_operation t (store place value false)

pub stored_once : (t addr width value : ℕ) (old new : Handle) → old.first ≡ t → handle_seen old ≡ [] → HasStored addr width value old new
    → HasStoredOnce t addr width value (handle_seen new)
stored_once t addr width value old new first seen stores =
    subst (λ (n : ℕ). HasStoredOnce n addr width value (handle_seen new)) first
    (record {
      place = stores.place;
      place_is = stores.place_is;
      own =
          own_after (handle_origin old) old.first (handle_seen old) (entries_of_operation old.first (store stores.place value false)) (handle_seen new) stores.sees
          ∙ ap (λ (entries : List Entry). entries_of old.first entries ++ entries_of_operation old.first (store stores.place value false)) seen;
    })

-- a longer history that says no more of the thread
pub said_once : (t addr width value : ℕ) (history whole : List Entry) → entries_of t whole ≡ entries_of t history
    → HasStoredOnce t addr width value history → HasStoredOnce t addr width value whole
said_once t addr width value history whole same once = record { place = once.place; place_is = once.place_is; own = same ∙ once.own }

-- all that it has done is a store, and a load of the same place
pub record HasLoadedBack (t addr width value got : ℕ) (history : List Entry) : Type 0 where
  pub place : Place
  pub place_is : IsPlaceOf addr width place
  pub other : Place
  pub other_is : IsPlaceOf addr width other
  pub own : entries_of t history ≡ entries_of_operation t (store place value false) ++ entries_of_operation t (load other got)

pub loaded_back : (t addr width value got : ℕ) (old new : Handle) → old.first ≡ t → HasStoredOnce t addr width value (handle_seen old)
    → Makes addr width (λ place. load place got) old new → HasLoadedBack t addr width value got (handle_seen new)
loaded_back t addr width value got old new first once loads =
    record {
      place = once.place;
      place_is = once.place_is;
      other = loads.place;
      other_is = loads.place_is;
      own =
          subst (λ (n : ℕ). entries_of n (handle_seen new) ≡ entries_of n (handle_seen old) ++ entries_of_operation n (load loads.place got)) first
          (own_after (handle_origin old) old.first (handle_seen old) (entries_of_operation old.first (load loads.place got)) (handle_seen new) loads.sees)
          ∙ ap (λ (entries : List Entry). entries ++ entries_of_operation t (load loads.place got)) once.own;
    }

-- ---- the same among the accesses

pub none_there : (t : ℕ) (history : List Entry) → entries_of t history ≡ [] → entries_of t (accesses_of history) ≡ []
none_there t history none = sym (own_first t history) ∙ ap accesses_of none

pub writes_once : (t addr width value : ℕ) (history : List Entry) → (once : HasStoredOnce t addr width value history)
    → WritesOnce t once.place value (accesses_of history)
writes_once t addr width value history once = record { ex = false; rest = []; own = sym (own_first t history) ∙ ap accesses_of once.own; leave = λ k. tt }

pub writes_and_reads : (t addr width value got : ℕ) (history : List Entry) → (both : HasLoadedBack t addr width value got history)
    → WritesAndReads t both.place value got (accesses_of history)
writes_and_reads t addr width value got history both = record {
  ex = false;
  other_ex = false;
  other = both.other;
  addr = both.other_is.addr_is ∙ sym both.place_is.addr_is;
  size = both.other_is.width_is ∙ sym both.place_is.width_is;
  own = sym (own_first t history) ∙ ap accesses_of both.own;
}
