-- What the spans of a program say of the addresses in them.
use Rattle.std.proofs.Common.{zero, ◌≡◌, ℕ, suc, ◌+◌, ◌<◌, ◌≤◌, ◌%◌, Bool, true, false, Some, None, List, [], ◌∷◌, length, refl, ◌∙◌, arith}
use Rattle.std.specs.List.{position_or_len, list_any}
use Rattle.std.specs.Prelude.{All, cond, nat_lt, position, not, nat_le, ◌&&◌, ◌||◌, slice_get}
use Rattle.std.proofs.lemmas.List.Folds.{Any-from_list_any}
use Rattle.std.specs.Option.{option_map_or}
use Rattle.llsc_base.specs.Images.{serves, IsProgram, IsSpan, holds_word, program_of, runs_at}
use Rattle.llsc_base.specs.declared.images.Span.{Span}

-- the last of three tests that hold together
and-nat_le : (a b : Bool) (x y : ℕ) → (a && b && nat_le x y) ≡ true → x ≤ y
and-nat_le a b x y h = grind arith

-- where four bytes are run they lie in memory
pub runs_at-inside : (spans : List Span) (addr count : ℕ) → All (IsSpan count) spans → runs_at spans addr ≡ true → addr + 4 ≤ count
runs_at-inside spans addr count sound held =
    let some = Any-from_list_any (λ (span : Span). holds_word span addr) spans held in
    let whole : IsSpan count some.1 = rw some.3 at (sound some.0 some.1 some.2) in
    let last : addr + 4 ≤ some.1.end = and-nat_le some.1.run (nat_le some.1.start addr) _ _ some.4 in
    omega (arith, last, whole.inside)

lt-zero : (n : ℕ) → true ≡ nat_lt 0 (suc n)
lt-zero n = grind arith

lt-suc : (i n : ℕ) → nat_lt i n ≡ nat_lt (1 + i) (suc n)
lt-suc i n = grind arith

-- an index is found exactly where some element passes
found : (p : Span → Bool) (spans : List Span) → list_any p spans ≡ nat_lt (position_or_len p spans) (length spans)
found p [] = refl
found p (span ∷ spans) =
    elim (p span) as (λ b. (b || list_any p spans) ≡ nat_lt (cond (not b) (1 + position_or_len p spans) 0) (suc (length spans))) [
      | true ↦ lt-zero (length spans)
      | false ↦ found p spans ∙ lt-suc (position_or_len p spans) (length spans)
    ]

cond-some : (b : Bool) (i at : ℕ) → Some at ≡ cond b (Some i) None → b ≡ true
cond-some true i at e = refl
cond-some false i at e = cc

cond-none : (b : Bool) (i : ℕ) → None ≡ cond b (Some i) None → b ≡ false
cond-none true i e = cc
cond-none false i e = refl

cond-index : (b : Bool) (i at : ℕ) → Some at ≡ cond b (Some i) None → at ≡ i
cond-index true i at e = cc
cond-index false i at e = cc

or-true : (b : Bool) → (b || true) ≡ true
or-true true = refl
or-true false = refl

-- where the element at an index passes some element does
any-served : (p : Span → Bool) (spans : List Span) (at : ℕ)
    → option_map_or p (slice_get spans at) false ≡ true → list_any p spans ≡ true
any-served p [] at h = cc
any-served p (span ∷ spans) zero h = rw h refl
any-served p (span ∷ spans) (suc at) h = rw (any-served p spans at h) (or-true (p span))

first-served : (p : Span → Bool) (span : Span) (spans : List Span) (b : Bool) → p span ≡ b
    → (list_any p spans ≡ true → option_map_or p (slice_get spans (position_or_len p spans)) false ≡ true)
    → (b || list_any p spans) ≡ true
    → option_map_or p (slice_get (span ∷ spans) (cond (not b) (1 + position_or_len p spans) 0)) false ≡ true
first-served p span spans true e rest h = e
first-served p span spans false e rest h =
    let one : 1 + position_or_len p spans ≡ suc (position_or_len p spans) = omega arith in rw one (rest h)

-- where some element passes the first that does passes
served-first : (p : Span → Bool) (spans : List Span)
    → list_any p spans ≡ true → option_map_or p (slice_get spans (position_or_len p spans)) false ≡ true
served-first p [] h = cc
served-first p (span ∷ spans) h = first-served p span spans (p span) refl (served-first p spans) h

-- where the span of an index serves some span holds the four bytes
pub runs_at-serves : (spans : List Span) (at addr : ℕ) → serves spans at addr ≡ true → runs_at spans addr ≡ true
runs_at-serves spans at addr h = any-served (λ span. holds_word span addr) spans at h

-- the span of the index that is found serves
pub serves-position : (spans : List Span) (addr at : ℕ)
    → Some at ≡ position (λ span. holds_word span addr) spans → serves spans at addr ≡ true
serves-position spans addr at e =
    let p : Span → Bool = λ span. holds_word span addr in
    let some : list_any p spans ≡ true = found p spans ∙ cond-some _ _ _ e in
    rw (cond-index _ _ _ e) (served-first p spans some)

-- where no index is found no span holds the four bytes
pub runs_at-none : (spans : List Span) (addr : ℕ)
    → None ≡ position (λ span. holds_word span addr) spans → runs_at spans addr ≡ false
runs_at-none spans addr e = found (λ span. holds_word span addr) spans ∙ cond-none _ _ e

-- one span that isn't written
pub IsProgram-one : (bytes : List ℕ) (span : Span) (entry : ℕ) → entry % 4 ≡ 0
    → span.start < span.end → span.end ≤ length bytes → span.write ≡ false → IsProgram (program_of bytes (span ∷ []) entry)
IsProgram-one bytes span entry aligned filled inside kept =
    let whole : IsSpan (length bytes) span = record { filled = filled; inside = inside; apart = λ _. kept } in
    record {
      aligned = aligned;
      spans = λ k d h. let first : k ≡ 0 = omega arith in rw first whole;
      apart = λ i j d low high. absurd (omega arith);
    }
