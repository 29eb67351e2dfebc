-- An access of a thread in a history that isn't exclusive, by what was asked and replied, as `OwnAccesses` has it of exclusives: for
-- any guest.
use Rattle.std.proofs.Common.{◌≡◌, ℕ, true, false, ap, ◌∙◌}
use Rattle.llsc_base.specs.declared.access.Place.{Place}
use Rattle.history.specs.Entry.{is_access, thread_of}
use Rattle.history.specs.declared.entry.Entry.{Entry}
use Rattle.history.specs.declared.entry.Entry.TheVariants.{Read, Write, Fail, Clear, Watch, Miss, Begin, End, Start}
use Rattle.llsc_base.specs.declared.outside.Ask.TheVariants as ask
use Rattle.guest_calls.specs.Pairs.{pair_of}
use Rattle.guest_calls.specs.Run.{Pair}

-- a load
pub load_by : (t : ℕ) (e : Entry) (place : Place) (value : ℕ) → thread_of e ≡ t → is_access e ≡ true
    → pair_of e ≡ (ask.Load place, value) → e ≡ Read t place value false
load_by t (Read u p v false) place value own access same =
    let asked : ask.Load p ≡ ask.Load place = ap (λ (pair : Pair). pair.0) same in
    let at : p ≡ place = cc in
    let read : v ≡ value = ap (λ (pair : Pair). pair.1) same in
    ap (λ (n : ℕ). Read n p v false) own ∙ ap (λ q. Read t q v false) at ∙ ap (λ (n : ℕ). Read t place n false) read
load_by t (Read u p v true) place value own access same = absurd (let g : ask.LoadEx p ≡ ask.Load place = ap (λ (pair : Pair). pair.0) same in let f : ⊥ = cc in f)
load_by t (Write u p v true) place value own access same = absurd (let g : ask.StoreEx p v ≡ ask.Load place = ap (λ (pair : Pair). pair.0) same in let f : ⊥ = cc in f)
load_by t (Write u p v false) place value own access same = absurd (let g : ask.Store p v ≡ ask.Load place = ap (λ (pair : Pair). pair.0) same in let f : ⊥ = cc in f)
load_by t (Fail u p v c) place value own access same = absurd (let g : ask.StoreEx p v ≡ ask.Load place = ap (λ (pair : Pair). pair.0) same in let f : ⊥ = cc in f)
load_by t (Clear u) place value own access same = absurd (let g : ask.Clear ≡ ask.Load place = ap (λ (pair : Pair). pair.0) same in let f : ⊥ = cc in f)
load_by t (Watch u p) place value own access same = absurd (let f : ⊥ = cc in f)
load_by t (Miss u p) place value own access same = absurd (let f : ⊥ = cc in f)
load_by t (Begin u p) place value own access same = absurd (let f : ⊥ = cc in f)
load_by t (End u p) place value own access same = absurd (let f : ⊥ = cc in f)
load_by t (Start u c e a) place value own access same = absurd (let f : ⊥ = cc in f)

-- a store
pub store_by : (t : ℕ) (e : Entry) (place : Place) (value reply : ℕ) → thread_of e ≡ t → is_access e ≡ true
    → pair_of e ≡ (ask.Store place value, reply) → e ≡ Write t place value false
store_by t (Write u p v false) place value reply own access same =
    let asked : ask.Store p v ≡ ask.Store place value = ap (λ (pair : Pair). pair.0) same in
    let at : p ≡ place = cc in
    let wrote : v ≡ value = cc in
    ap (λ (n : ℕ). Write n p v false) own ∙ ap (λ q. Write t q v false) at ∙ ap (λ (n : ℕ). Write t place n false) wrote
store_by t (Read u p v true) place value reply own access same = absurd (let g : ask.LoadEx p ≡ ask.Store place value = ap (λ (pair : Pair). pair.0) same in let f : ⊥ = cc in f)
store_by t (Read u p v false) place value reply own access same = absurd (let g : ask.Load p ≡ ask.Store place value = ap (λ (pair : Pair). pair.0) same in let f : ⊥ = cc in f)
store_by t (Write u p v true) place value reply own access same = absurd (let g : ask.StoreEx p v ≡ ask.Store place value = ap (λ (pair : Pair). pair.0) same in let f : ⊥ = cc in f)
store_by t (Fail u p v c) place value reply own access same = absurd (let g : ask.StoreEx p v ≡ ask.Store place value = ap (λ (pair : Pair). pair.0) same in let f : ⊥ = cc in f)
store_by t (Clear u) place value reply own access same = absurd (let g : ask.Clear ≡ ask.Store place value = ap (λ (pair : Pair). pair.0) same in let f : ⊥ = cc in f)
store_by t (Watch u p) place value reply own access same = absurd (let f : ⊥ = cc in f)
store_by t (Miss u p) place value reply own access same = absurd (let f : ⊥ = cc in f)
store_by t (Begin u p) place value reply own access same = absurd (let f : ⊥ = cc in f)
store_by t (End u p) place value reply own access same = absurd (let f : ⊥ = cc in f)
store_by t (Start u c e a) place value reply own access same = absurd (let f : ⊥ = cc in f)
