-- What is known of an access that is as it was asked.
use Rattle.std.proofs.Common.{◌≡◌, ℕ, ◌+◌, ◌^◌, ◌<◌, ◌≤◌, ◌==◌, ◌&&◌, true, refl, sym, ap, subst, ◌∙◌, arith}
use Rattle.std.proofs.lemmas.Bool.{and_parts, eqb-true}
use Rattle.llsc_base.specs.Memory.{size_bytes}
use Rattle.llsc_base.specs.declared.access.Place.{Place}
use Rattle.llsc_base.specs.declared.access.Size.{Size}
use Rattle.llsc_base.specs.declared.access.Size.TheVariants.{B1, B2, B4, B8}
use Rattle.history.specs.declared.entry.Access.{Access}
use Rattle.history.specs.declared.entry.Deed.{Deed}
use Rattle.history.specs.declared.entry.Deed.TheVariants as deed
use Rattle.llsc_base.specs.declared.outside.Ask.{Ask}
use Rattle.llsc_base.specs.declared.outside.Ask.TheVariants as ask
use Rattle.guest_calls.specs.Pairs.{pair_of}
use Rattle.history.specs.Accesses.{entry_by, entry_of}
use Rattle.guest_core.specs.Ports.{IsPlaced, ReplyFits}
use Rattle.run_checker.specs.Verdict.{fits, is_asked, is_place}

-- ---- places

same_size : (one other : Size) → size_bytes one ≡ size_bytes other → one ≡ other
same_size B1 B1 e = refl
same_size B2 B2 e = refl
same_size B4 B4 e = refl
same_size B8 B8 e = refl
same_size _ _ e = absurd (omega (arith, e))

abbrev place_of : ℕ → Size → Place
place_of addr size = record { addr = addr; size = size }

same_place : (one other : Place) → is_place one other ≡ true → one ≡ other
same_place one other same =
    let parts = and_parts (one.addr == other.addr) (size_bytes one.size == size_bytes other.size) same in
    let addrs : one.addr ≡ other.addr = eqb-true one.addr other.addr parts.0 in
    let sizes : one.size ≡ other.size = same_size one.size other.size (eqb-true (size_bytes one.size) (size_bytes other.size) parts.1) in
    ap (λ a. place_of a one.size) addrs ∙ ap (place_of other.addr) sizes

-- the place and the value of a store
same_store : (one other : Place) (stored value : ℕ) → (is_place one other && (stored == value)) ≡ true → (one ≡ other) × (stored ≡ value)
same_store one other stored value same =
    let parts = and_parts (is_place one other) (stored == value) same in (same_place one other parts.0, eqb-true stored value parts.1)

in_memory : (mem : ℕ) (one other : Place) → one ≡ other → one.addr + size_bytes one.size ≤ mem → other.addr + size_bytes other.size ≤ mem
in_memory mem one other same inside = subst (λ (p : Place). p.addr + size_bytes p.size ≤ mem) same inside

small_there : (one other : Place) (value : ℕ) → one ≡ other → value < 256 ^ size_bytes other.size → value < 256 ^ size_bytes one.size
small_there one other value same small = subst (λ (p : Place). value < 256 ^ size_bytes p.size) (sym same) small

-- ---- its pair

-- the reply to an access, as its pair has it
abbrev reply_in : Deed → ℕ → Place → ℕ → ℕ
reply_in made thread place value = (pair_of (entry_by made thread place value)).1

-- what its thread asked is what was asked
pair_by : (asked : Ask) (made : Deed) (thread : ℕ) (place : Place) (value : ℕ) → fits asked made place value ≡ true
    → pair_of (entry_by made thread place value) ≡ (asked, reply_in made thread place value)
pair_by (ask.Load asked) deed.Load thread place value same = ap (λ p. (ask.Load p, value)) (sym (same_place asked place same))
pair_by (ask.LoadEx asked) deed.LoadEx thread place value same = ap (λ p. (ask.LoadEx p, value)) (sym (same_place asked place same))
pair_by (ask.Store asked stored) deed.Store thread place value same =
    let is = same_store asked place stored value same in ap (λ p. (ask.Store p value, 0)) (sym is.0) ∙ ap (λ v. (ask.Store asked v, 0)) (sym is.1)
pair_by (ask.StoreEx asked stored) deed.StoreEx thread place value same =
    let is = same_store asked place stored value same in ap (λ p. (ask.StoreEx p value, 0)) (sym is.0) ∙ ap (λ v. (ask.StoreEx asked v, 0)) (sym is.1)
pair_by (ask.StoreEx asked stored) deed.StoreFail thread place value same =
    let is = same_store asked place stored value same in ap (λ p. (ask.StoreEx p value, 1)) (sym is.0) ∙ ap (λ v. (ask.StoreEx asked v, 1)) (sym is.1)
pair_by ask.Clear deed.Clear thread place value same = refl
pair_by _ _ thread place value same = cc

-- what was asked, and its reply
pub asked_pair : (asked : Ask) (access : Access) → is_asked asked access ≡ true → pair_of (entry_of access) ≡ (asked, (pair_of (entry_of access)).1)
asked_pair asked access same = pair_by asked access.deed access.thread access.place access.value same

-- ---- its place and its value

placed_by : (mem : ℕ) (asked : Ask) (made : Deed) (place : Place) (value : ℕ) → fits asked made place value ≡ true → IsPlaced mem asked
    → (made ≡ deed.Clear → ⊥) → place.addr + size_bytes place.size ≤ mem
placed_by mem (ask.Load asked) deed.Load place value same placed other = in_memory mem asked place (same_place asked place same) placed.1
placed_by mem (ask.LoadEx asked) deed.LoadEx place value same placed other = in_memory mem asked place (same_place asked place same) placed.1
placed_by mem (ask.Store asked stored) deed.Store place value same placed other = in_memory mem asked place (same_store asked place stored value same).0 placed.1
placed_by mem (ask.StoreEx asked stored) deed.StoreEx place value same placed other = in_memory mem asked place (same_store asked place stored value same).0 placed.1
placed_by mem (ask.StoreEx asked stored) deed.StoreFail place value same placed other = in_memory mem asked place (same_store asked place stored value same).0 placed.1
placed_by mem ask.Clear deed.Clear place value same placed other = absurd (other refl)
placed_by mem _ _ place value same placed other = cc

-- its place lies in memory where that of what was asked does
pub asked_inside : (mem : ℕ) (asked : Ask) (access : Access) → is_asked asked access ≡ true → IsPlaced mem asked
    → (access.deed ≡ deed.Clear → ⊥) → access.place.addr + size_bytes access.place.size ≤ mem
asked_inside mem asked access same placed other = placed_by mem asked access.deed access.place access.value same placed other

reply_by : (asked : Ask) (made : Deed) (thread : ℕ) (place : Place) (value : ℕ) → fits asked made place value ≡ true
    → value < 256 ^ size_bytes place.size → ReplyFits asked (reply_in made thread place value)
reply_by (ask.Load asked) deed.Load thread place value same small = small_there asked place value (same_place asked place same) small
reply_by (ask.LoadEx asked) deed.LoadEx thread place value same small = small_there asked place value (same_place asked place same) small
reply_by (ask.Store asked stored) made thread place value same small = tt
reply_by (ask.StoreEx asked stored) made thread place value same small = tt
reply_by ask.Clear made thread place value same small = tt
reply_by _ _ thread place value same small = cc

-- its reply fits
pub asked_reply : (asked : Ask) (access : Access) → is_asked asked access ≡ true → access.value < 256 ^ size_bytes access.place.size
    → ReplyFits asked (pair_of (entry_of access)).1
asked_reply asked access same small = reply_by asked access.deed access.thread access.place access.value same small
