-- What holds in each case of an answer, a flag or a choice.
use Rattle.std.proofs.Common.{◌≡◌, ◌≢◌, ◌≤◌, ◌⊎◌, ◌∙◌, inl, inr, ℕ, Bool, true, false, not, if◌then◌else◌, List, Option, Some, None, ap, sym, refl}
use Rattle.std.proofs.lemmas.Bool.{le-ltb}
use Rattle.std.specs.Bool.{OnFalse, OnTrue}
use mir.Val.{bool_byte}
use Rattle.llsc_base.specs.declared.sizes.SizeFault.{SizeFault}
use Rattle.history.specs.declared.entry.Entry.{Entry}
use Rattle.memory_handle.specs.Faults.{split_fault}
use Rattle.memory_handle.specs.declared.handles.Handle.{Handle}
use Rattle.memory_handle.specs.declared.misuse.Misuse.{Misuse}
use Rattle.memory_handle.specs.declared.misuse.Misuse.TheVariants.{Width, Alignment, Outside, Value, Several, One, Used, Busy, Spent, NoMemory}
use Rattle.llsc_c.specs.Answers.{answer_of, empty_answer, misuse_answer, open_answer, split_answer}
use Rattle.llsc_c.specs.declared.answers.TheConstants.{BUSY, DONE, GRANULE, NO_MEMORY, SPENT}

-- no misuse is answered as what is done
pub misuse-not_done : (misuse : Misuse) → misuse_answer misuse ≢ DONE
misuse-not_done Width = λ is. cc
misuse-not_done Alignment = λ is. cc
misuse-not_done Outside = λ is. cc
misuse-not_done Value = λ is. cc
misuse-not_done Several = λ is. cc
misuse-not_done One = λ is. cc
misuse-not_done Used = λ is. cc
misuse-not_done Busy = λ is. cc
misuse-not_done Spent = λ is. cc
misuse-not_done NoMemory = λ is. cc

-- one alone is answered as a write in flight, and one as a class that is spent
pub misuse-busy : (misuse : Misuse) → misuse_answer misuse ≡ BUSY → misuse ≡ Busy
misuse-busy Width is = cc
misuse-busy Alignment is = cc
misuse-busy Outside is = cc
misuse-busy Value is = cc
misuse-busy Several is = cc
misuse-busy One is = cc
misuse-busy Used is = cc
misuse-busy Busy is = refl
misuse-busy Spent is = cc
misuse-busy NoMemory is = cc

pub misuse-spent : (misuse : Misuse) → misuse_answer misuse ≡ SPENT → misuse ≡ Spent
misuse-spent Width is = cc
misuse-spent Alignment is = cc
misuse-spent Outside is = cc
misuse-spent Value is = cc
misuse-spent Several is = cc
misuse-spent One is = cc
misuse-spent Used is = cc
misuse-spent Busy is = cc
misuse-spent Spent is = refl
misuse-spent NoMemory is = cc

-- a flag of what is not done is 0 where it is done
pub flag-done : (done : Bool) (flag : ℕ) (A : Type 0) → flag ≡ bool_byte (not done) → flag ≡ 0 → OnTrue done A → A
flag-done true flag A is zero told = told
flag-done false flag A is zero told = cc

-- and not 0 where it isn't
pub flag-failed : (done : Bool) (flag : ℕ) (A : Type 0) → flag ≡ bool_byte (not done) → flag ≢ 0 → OnFalse done A → A
flag-failed true flag A is other told = absurd (other is)
flag-failed false flag A is other told = told

-- of two lists that are both another, either is
pub either-same : (choice : Bool) (xs ys both : List Entry) → xs ≡ both → ys ≡ both → (if choice then ys else xs) ≡ both
either-same true xs ys both one two = two
either-same false xs ys both one two = one

-- threads against whose split nothing stands may be split
pub splits-fresh : (one fresh : Bool) → (if one then Some One else (if fresh then None else Some Used)) ≡ None → fresh ≡ true
splits-fresh true fresh none = cc
splits-fresh false true none = refl
splits-fresh false false none = cc

-- to numbers against which nothing stands, opening is answered by what the struct holds
pub open-empty : (fault : Option SizeFault) (granule : ℕ) {old now : Option Handle} → fault ≡ None → granule ≤ 8 → old ≡ now → open_answer fault granule old ≡ empty_answer now
open-empty None granule {now = now} none small is =
    ap (open_answer None granule) is ∙ ap (λ (wide : Bool). if wide then GRANULE else empty_answer now) (le-ltb 8 granule small)
open-empty (Some fault) granule none small is = cc

-- a split that is refused is answered by what stands against it, or by want of memory
pub split-refused : (handle : Handle) (misuse : Misuse) (answer : ℕ) {thread last : Option Handle} → thread ≡ Some handle → last ≡ None → answer ≡ misuse_answer misuse
    → (split_fault handle ≡ Some misuse) ⊎ ((split_fault handle ≡ None) × (misuse ≡ NoMemory))
    → (answer ≡ split_answer thread last) ⊎ ((split_answer thread last ≡ DONE) × (answer ≡ NO_MEMORY))
split-refused handle misuse answer {thread = thread} {last = last} held empty is fault =
    let told : split_answer thread last ≡ answer_of (split_fault handle) = rw (held, empty) refl in
    elim fault [
      | inl stands ↦ inl (is ∙ sym (told ∙ ap answer_of stands))
      | inr none ↦ inr (told ∙ ap answer_of none.0, is ∙ ap misuse_answer none.1)
    ]
