-- A turn of a thread that adds 1: a load-exclusive, and a store-exclusive that succeeds or fails.
use Rattle.std.proofs.Common.{◌≡◌, ◌+◌, ℕ, true, List, [], ◌∷◌, ◌++◌, refl, ap, sym, ◌∙◌, subst, ◌⊎◌, ⊎_elim, append_assoc}
use Rattle.llsc_base.specs.declared.access.Place.{Place}
use Rattle.history.specs.Operation.{entries_of_operation}
use Rattle.history.specs.Operation.Operation.{load_watched, load_missed, store, fail}
use Rattle.history.specs.Parts.{accesses_of, entries_of}
use Rattle.history.specs.declared.entry.Cause.{Cause}
use Rattle.history.specs.declared.entry.Entry.{Entry}
use Rattle.history.specs.declared.entry.Entry.TheVariants.{Read, Write, Fail}
use Rattle.history.proofs.Appends.{accesses_of-append, entries_of-append}
use Rattle.shared_memory.specs.Origin.{Origin}
use Rattle.shared_memory.specs.Seen.{Sees}
use Rattle.by_hand.specs.inner.Counting.{HasAdded, next_value, accesses_by, stored, failed}

-- a thread's accesses, once more was seen
accesses_after : (origin : Origin) (t : ℕ) (old own new : List Entry) → Sees origin t old own new
    → accesses_by t new ≡ accesses_by t old ++ accesses_of own
accesses_after origin t old own new sees =
    ap (accesses_by t) sees.longer
    ∙ ap accesses_of (entries_of-append t old sees.added)
    ∙ accesses_of-append (entries_of t old) (entries_of t sees.added)
    ∙ ap (λ (entries : List Entry). accesses_by t old ++ accesses_of entries) sees.mine

-- what a memory promises of a load-exclusive
abbrev pub Loads : Origin → ℕ → Place → ℕ → List Entry → List Entry → Type 0
Loads origin t word value old mid =
    Sees origin t old (entries_of_operation t (load_watched word value)) mid ⊎ Sees origin t old (entries_of_operation t (load_missed word value)) mid

loaded : (origin : Origin) (t : ℕ) (word : Place) (value : ℕ) (old mid : List Entry) → Loads origin t word value old mid
    → accesses_by t mid ≡ accesses_by t old ++ Read t word value true ∷ []
loaded origin t word value old mid = ⊎_elim (accesses_after origin t old _ mid) (accesses_after origin t old _ mid)

-- a load-exclusive, and a store-exclusive of one access
both : (origin : Origin) (t : ℕ) (word : Place) (value : ℕ) (own : List Entry) (access : Entry) (old mid new : List Entry)
    → Loads origin t word value old mid → Sees origin t mid own new → accesses_of own ≡ access ∷ []
    → accesses_by t new ≡ accesses_by t old ++ Read t word value true ∷ access ∷ []
both origin t word value own access old mid new loads sees one =
    accesses_after origin t mid own new sees
    ∙ ap (λ (back : List Entry). accesses_by t mid ++ back) one
    ∙ ap (λ (front : List Entry). front ++ access ∷ []) (loaded origin t word value old mid loads)
    ∙ append_assoc (accesses_by t old) (Read t word value true ∷ []) (access ∷ [])

-- one addition more
pub once_more : (origin : Origin) (t : ℕ) (word : Place) (times value : ℕ) (old mid new : List Entry)
    → HasAdded t word times (accesses_by t old) → Loads origin t word value old mid
    → Sees origin t mid (entries_of_operation t (store word (next_value value) true)) new
    → HasAdded t word (times + 1) (accesses_by t new)
once_more origin t word times value old mid new before loads stores =
    subst (HasAdded t word (times + 1)) (sym (both origin t word value _ (Write t word (next_value value) true) old mid new loads stores refl))
    (stored times value (accesses_by t old) before)

-- a turn that is none
pub not_yet : (origin : Origin) (t : ℕ) (word : Place) (times value : ℕ) (cause : Cause) (old mid new : List Entry)
    → HasAdded t word times (accesses_by t old) → Loads origin t word value old mid
    → Sees origin t mid (entries_of_operation t (fail word (next_value value) cause)) new
    → HasAdded t word times (accesses_by t new)
not_yet origin t word times value cause old mid new before loads fails =
    subst (HasAdded t word times) (sym (both origin t word value _ (Fail t word (next_value value) cause) old mid new loads fails refl))
    (failed times value (accesses_by t old) cause before)
