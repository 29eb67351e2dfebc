-- The accesses of a thread in a history, and each of them by what was asked and replied: for any guest.
use Rattle.std.proofs.Common.{◌≡◌, ℕ, ◌%◌, ◌^◌, ◌==◌, true, false, List, [], ◌∷◌, ap, ◌∙◌, arith, eqb-true, inl, inr}
use Rattle.std.proofs.lemmas.Bool.{cases_Bool}
use Rattle.llsc_base.specs.declared.access.Place.{Place}
use Rattle.history.specs.Entry.{is_access, thread_of}
use Rattle.history.specs.Parts.{accesses_of, entries_of}
use Rattle.history.specs.declared.entry.Cause.{Cause}
use Rattle.history.specs.declared.entry.Entry.{Entry}
use Rattle.history.specs.declared.entry.Entry.TheVariants.{Read, Write, Fail, Clear, Watch, Miss, Begin, End, Start}
use Rattle.llsc_base.specs.declared.outside.Ask.TheVariants as ask
use Rattle.guest_calls.specs.Pairs.{pair_of}
use Rattle.guest_calls.specs.Run.{Pair}

-- each entry is an access of this thread
abbrev pub AreOwn : ℕ → List Entry → Type 0
AreOwn t [] = Unit {0}
AreOwn t (entry ∷ entries) = (thread_of entry ≡ t) × ((is_access entry ≡ true) × AreOwn t entries)

-- the accesses among the entries of a thread are its own
pub own_accesses : (t : ℕ) (history : List Entry) → AreOwn t (accesses_of (entries_of t history))
own_accesses t [] = tt
own_accesses t (entry ∷ history) = elim (cases_Bool (thread_of entry == t)) [
  | inl own ↦ elim (cases_Bool (is_access entry)) [
    | inl access ↦ rw (own, access) (eqb-true (thread_of entry) t own, (access, own_accesses t history))
    | inr no_access ↦ rw (own, no_access) (own_accesses t history)
  ]
  | inr other ↦ rw other (own_accesses t history)
]

-- ---- one access by its pair

-- a load-exclusive
pub read_by : (t : ℕ) (e : Entry) (place : Place) (value : ℕ) → thread_of e ≡ t → is_access e ≡ true
    → pair_of e ≡ (ask.LoadEx place, value) → e ≡ Read t place value true
read_by t (Read u p v true) place value own access same =
    let asked : ask.LoadEx p ≡ ask.LoadEx place = ap (λ (pair : Pair). pair.0) same in
    let at : p ≡ place = cc in
    let read : v ≡ value = ap (λ (pair : Pair). pair.1) same in
    ap (λ (n : ℕ). Read n p v true) own ∙ ap (λ q. Read t q v true) at ∙ ap (λ (n : ℕ). Read t place n true) read
read_by t (Read u p v false) place value own access same = absurd (let g : ask.Load p ≡ ask.LoadEx place = ap (λ (pair : Pair). pair.0) same in let f : ⊥ = cc in f)
read_by t (Write u p v true) place value own access same = absurd (let g : ask.StoreEx p v ≡ ask.LoadEx place = ap (λ (pair : Pair). pair.0) same in let f : ⊥ = cc in f)
read_by t (Write u p v false) place value own access same = absurd (let g : ask.Store p v ≡ ask.LoadEx place = ap (λ (pair : Pair). pair.0) same in let f : ⊥ = cc in f)
read_by t (Fail u p v c) place value own access same = absurd (let g : ask.StoreEx p v ≡ ask.LoadEx place = ap (λ (pair : Pair). pair.0) same in let f : ⊥ = cc in f)
read_by t (Clear u) place value own access same = absurd (let g : ask.Clear ≡ ask.LoadEx place = ap (λ (pair : Pair). pair.0) same in let f : ⊥ = cc in f)
read_by t (Watch u p) place value own access same = absurd (let f : ⊥ = cc in f)
read_by t (Miss u p) place value own access same = absurd (let f : ⊥ = cc in f)
read_by t (Begin u p) place value own access same = absurd (let f : ⊥ = cc in f)
read_by t (End u p) place value own access same = absurd (let f : ⊥ = cc in f)
read_by t (Start u c e a) place value own access same = absurd (let f : ⊥ = cc in f)

-- a store-exclusive that was replied 0 in its 32 bits
pub write_by : (t : ℕ) (e : Entry) (place : Place) (value reply : ℕ) → thread_of e ≡ t → is_access e ≡ true
    → pair_of e ≡ (ask.StoreEx place value, reply) → reply % 2 ^ 32 ≡ 0 → e ≡ Write t place value true
write_by t (Read u p v true) place value reply own access same zero_reply = absurd (let g : ask.LoadEx p ≡ ask.StoreEx place value = ap (λ (pair : Pair). pair.0) same in let f : ⊥ = cc in f)
write_by t (Read u p v false) place value reply own access same zero_reply = absurd (let g : ask.Load p ≡ ask.StoreEx place value = ap (λ (pair : Pair). pair.0) same in let f : ⊥ = cc in f)
write_by t (Write u p v true) place value reply own access same zero_reply =
    let asked : ask.StoreEx p v ≡ ask.StoreEx place value = ap (λ (pair : Pair). pair.0) same in
    let at : p ≡ place = cc in
    let wrote : v ≡ value = cc in
    ap (λ (n : ℕ). Write n p v true) own ∙ ap (λ q. Write t q v true) at ∙ ap (λ (n : ℕ). Write t place n true) wrote
write_by t (Write u p v false) place value reply own access same zero_reply = absurd (let g : ask.Store p v ≡ ask.StoreEx place value = ap (λ (pair : Pair). pair.0) same in let f : ⊥ = cc in f)
write_by t (Fail u p v c) place value reply own access same zero_reply = let one : 1 ≡ reply = ap (λ (pair : Pair). pair.1) same in absurd (omega (arith, one, zero_reply))
write_by t (Clear u) place value reply own access same zero_reply = absurd (let g : ask.Clear ≡ ask.StoreEx place value = ap (λ (pair : Pair). pair.0) same in let f : ⊥ = cc in f)
write_by t (Watch u p) place value reply own access same zero_reply = absurd (let f : ⊥ = cc in f)
write_by t (Miss u p) place value reply own access same zero_reply = absurd (let f : ⊥ = cc in f)
write_by t (Begin u p) place value reply own access same zero_reply = absurd (let f : ⊥ = cc in f)
write_by t (End u p) place value reply own access same zero_reply = absurd (let f : ⊥ = cc in f)
write_by t (Start u c e a) place value reply own access same zero_reply = absurd (let f : ⊥ = cc in f)

-- a store-exclusive that was replied another number
pub fail_by : (t : ℕ) (e : Entry) (place : Place) (value reply : ℕ) → thread_of e ≡ t → is_access e ≡ true
    → pair_of e ≡ (ask.StoreEx place value, reply) → (reply % 2 ^ 32 ≡ 0 → ⊥) → (cause : Cause) × (e ≡ Fail t place value cause)
fail_by t (Read u p v true) place value reply own access same other = absurd (let g : ask.LoadEx p ≡ ask.StoreEx place value = ap (λ (pair : Pair). pair.0) same in let f : ⊥ = cc in f)
fail_by t (Read u p v false) place value reply own access same other = absurd (let g : ask.Load p ≡ ask.StoreEx place value = ap (λ (pair : Pair). pair.0) same in let f : ⊥ = cc in f)
fail_by t (Write u p v true) place value reply own access same other = let none : 0 ≡ reply = ap (λ (pair : Pair). pair.1) same in absurd (other (omega (arith, none)))
fail_by t (Write u p v false) place value reply own access same other = absurd (let g : ask.Store p v ≡ ask.StoreEx place value = ap (λ (pair : Pair). pair.0) same in let f : ⊥ = cc in f)
fail_by t (Fail u p v c) place value reply own access same other =
    let asked : ask.StoreEx p v ≡ ask.StoreEx place value = ap (λ (pair : Pair). pair.0) same in
    let at : p ≡ place = cc in
    let wrote : v ≡ value = cc in
    (c, ap (λ (n : ℕ). Fail n p v c) own ∙ ap (λ q. Fail t q v c) at ∙ ap (λ (n : ℕ). Fail t place n c) wrote)
fail_by t (Clear u) place value reply own access same other = absurd (let g : ask.Clear ≡ ask.StoreEx place value = ap (λ (pair : Pair). pair.0) same in let f : ⊥ = cc in f)
fail_by t (Watch u p) place value reply own access same other = absurd (let f : ⊥ = cc in f)
fail_by t (Miss u p) place value reply own access same other = absurd (let f : ⊥ = cc in f)
fail_by t (Begin u p) place value reply own access same other = absurd (let f : ⊥ = cc in f)
fail_by t (End u p) place value reply own access same other = absurd (let f : ⊥ = cc in f)
fail_by t (Start u c e a) place value reply own access same other = absurd (let f : ⊥ = cc in f)
