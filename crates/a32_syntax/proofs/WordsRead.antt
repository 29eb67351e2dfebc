-- What is read as a mnemonic is its text.
use Rattle.std.proofs.Common.{◌≡◌, ℕ, suc, ◌+◌, ◌-◌, ◌<◌, ◌≤◌, ◌==◌, ◌&&◌, ◌||◌, not, nat_eq, nat_lt, Bool, true, false, if◌then◌else◌, IsTrue, List, [], ◌∷◌, ◌++◌, length, drop, slice_index_or, Option, Some, None, arith, refl, sym, subst}
use Rattle.std.specs.List.{starts_with}
use Rattle.std.specs.Option.{option_map}
use Rattle.std.specs.Str.{bytes_eq}
use Rattle.std.proofs.lemmas.Bool.{both_ways, and_from, lt-ltb}
use Rattle.std.proofs.lemmas.Bool.Decides.{Decides-eqb}
use Rattle.std.proofs.lemmas.Slice.Eq.{starts_is, bytes_eq-Decides}
use Rattle.a32_forms.specs.Names.{names_in, place_from}
use Rattle.a32_syntax.specs.declared.operations.Operation.{Operation}
use Rattle.a32_syntax.specs.declared.operations.Mnemonic.{Mnemonic}
use Rattle.a32_syntax.specs.Mnemonics.{mnemonic, mnemonic_text, mnemonic_of, is_mnemonic, base_of, flags_text, conditions, condition_name, condition_of, may_set_flags, may_have_condition, operations, with_condition, or_mnemonic, read_among, as_operation, with_flags}

-- The place of a word among names: that name stands there.

abbrev IsPlace : ℕ → List (List ℕ) → List ℕ → ℕ → Type 0
IsPlace start names word place = (start ≤ place) × (place < start + length names) × (slice_index_or names (place - start) [] ≡ word)

place_here : (start : ℕ) (name : List ℕ) (names : List (List ℕ)) (word : List ℕ) (place : ℕ) → name ≡ word → Some start ≡ Some place
    → IsPlace start (name ∷ names) word place
place_here start name names word place same e =
    let at : start ≡ place = cc in
    let here : IsPlace start (name ∷ names) word start = (omega arith, omega arith, rw (self_less start) same) in
    subst (IsPlace start (name ∷ names) word) at here
  where
    self_less : (n : ℕ) → n - n ≡ 0
    self_less n = omega arith

place_later : (start : ℕ) (name : List ℕ) (names : List (List ℕ)) (word : List ℕ) (place : ℕ) → IsPlace (start + 1) names word place
    → IsPlace start (name ∷ names) word place
place_later start name names word place h =
    let at : place - start ≡ suc (place - (start + 1)) = omega (arith, h.0) in
    (omega (arith, h.0), omega (arith, h.1), rw at h.2)

by_name : (b : Bool) (start : ℕ) (name : List ℕ) (names : List (List ℕ)) (word : List ℕ) (place : ℕ) → (b ≡ true → name ≡ word)
    → (place_from (start + 1) names word ≡ Some place → IsPlace (start + 1) names word place)
    → (if b then Some start else place_from (start + 1) names word) ≡ Some place → IsPlace start (name ∷ names) word place
by_name true start name names word place same later e = place_here start name names word place (same refl) e
by_name false start name names word place same later e = place_later start name names word place (later e)

place_is : (start : ℕ) (names : List (List ℕ)) (word : List ℕ) (place : ℕ) → place_from start names word ≡ Some place → IsPlace start names word place
unfolding place_from
place_is start [] word place e = cc
place_is start (name ∷ names) word place e =
    by_name (bytes_eq name word) start name names word place (bytes_eq-Decides name word).0 (place_is (start + 1) names word place) e

-- a condition's word is its name
condition_is : (word : List ℕ) (cond : ℕ) → condition_of word ≡ Some cond → (cond < 15) × (condition_name cond ≡ word)
condition_is [] cond e =
    let at : 14 ≡ cond = cc in
    let here : (14 < 15) × (condition_name 14 ≡ []) = (omega arith, refl) in
    subst (λ cond. (cond < 15) × (condition_name cond ≡ [])) at here
condition_is (code ∷ word) cond e =
    let place : IsPlace 0 (names_in conditions) (code ∷ word) cond = place_is 0 (names_in conditions) (code ∷ word) cond e in
    (omega (arith, place.1), rw (less_none cond) at place.2)
  where
    less_none : (n : ℕ) → n - 0 ≡ n
    less_none n = omega arith

-- What stands behind the base.

abbrev IsBehind : Operation → Bool → List ℕ → Mnemonic → Type 0
IsBehind operation set_flags word m =
    (m.operation ≡ operation) × (m.set_flags ≡ set_flags) × (condition_name m.cond ≡ word)
    × IsTrue (if may_have_condition m.operation then nat_lt m.cond 15 else m.cond == 14)

always_fits : (b : Bool) → IsTrue (if b then nat_lt 14 15 else 14 == 14)
always_fits true = refl
always_fits false = refl

below_fits : (b : Bool) (cond : ℕ) → b ≡ true → cond < 15 → IsTrue (if b then nat_lt cond 15 else cond == 14)
below_fits true cond e h = lt-ltb cond 15 h
below_fits false cond e h = absurd (both_ways false refl e)

by_condition : (b : Bool) (found : Option ℕ) (operation : Operation) (set_flags : Bool) (word : List ℕ) (m : Mnemonic)
    → may_have_condition operation ≡ b → condition_of word ≡ found
    → (if b then option_map (mnemonic operation set_flags) found else None) ≡ Some m → IsBehind operation set_flags word m
by_condition true (Some cond) operation set_flags word m may is e =
    let same : mnemonic operation set_flags cond ≡ m = cc in
    let named : (cond < 15) × (condition_name cond ≡ word) = condition_is word cond is in
    let here : IsBehind operation set_flags word (mnemonic operation set_flags cond) =
    (refl, refl, named.1, below_fits (may_have_condition operation) cond may named.0) in
    subst (IsBehind operation set_flags word) same here
by_condition true None operation set_flags word m may is e = cc
by_condition false found operation set_flags word m may is e = cc

behind : (operation : Operation) (set_flags : Bool) (word : List ℕ) (m : Mnemonic) → with_condition operation set_flags word ≡ Some m
    → IsBehind operation set_flags word m
behind operation set_flags [] m e =
    let same : mnemonic operation set_flags 14 ≡ m = cc in
    let here : IsBehind operation set_flags [] (mnemonic operation set_flags 14) = (refl, refl, refl, always_fits (may_have_condition operation)) in
    subst (IsBehind operation set_flags []) same here
behind operation set_flags (code ∷ word) m e =
    by_condition (may_have_condition operation) (condition_of (code ∷ word)) operation set_flags (code ∷ word) m refl refl e

-- with the `s`
abbrev IsBehindBase : Operation → List ℕ → Mnemonic → Type 0
IsBehindBase operation word m =
    (m.operation ≡ operation) × (flags_text m.set_flags ++ condition_name m.cond ≡ word) × IsTrue (is_mnemonic m)

or_from_left : (a b : Bool) → a ≡ true → (a || b) ≡ true
or_from_left true b e = refl
or_from_left false b e = cc

or_from_right : (a b : Bool) → b ≡ true → (a || b) ≡ true
or_from_right true b e = refl
or_from_right false b e = e

behind_base : (operation : Operation) (set_flags : Bool) (word : List ℕ) (m : Mnemonic) → (may_set_flags operation || not set_flags) ≡ true
    → IsBehind operation set_flags word m → IsBehindBase operation (flags_text set_flags ++ word) m
behind_base operation set_flags word m may h =
    let flags : (may_set_flags m.operation || not m.set_flags) ≡ true = rw (h.0, h.1) may in (
      h.0,
      rw (h.1, h.2) refl,
      and_from (may_set_flags m.operation || not m.set_flags) (if may_have_condition m.operation then nat_lt m.cond 15 else m.cond == 14) flags h.3,
    )

by_letter : (may is : Bool) (operation : Operation) (code : ℕ) (word : List ℕ) (m : Mnemonic) → may_set_flags operation ≡ may → (is ≡ true → code ≡ 115)
    → (if may && is then with_condition operation true word else with_condition operation false (code ∷ word)) ≡ Some m
    → IsBehindBase operation (code ∷ word) m
by_letter true true operation code word m may is e =
    rw (is refl) (behind_base operation true word m (or_from_left (may_set_flags operation) false may) (behind operation true word m e))
by_letter true false operation code word m may is e =
    behind_base operation false (code ∷ word) m (or_from_right (may_set_flags operation) true refl) (behind operation false (code ∷ word) m e)
by_letter false is operation code word m may letter e =
    behind_base operation false (code ∷ word) m (or_from_right (may_set_flags operation) true refl) (behind operation false (code ∷ word) m e)

flags_behind : (operation : Operation) (word : List ℕ) (m : Mnemonic) → with_flags operation word ≡ Some m → IsBehindBase operation word m
unfolding with_flags
flags_behind operation [] m e =
    behind_base operation false [] m (or_from_right (may_set_flags operation) true refl) (behind operation false [] m e)
flags_behind operation (code ∷ word) m e =
    by_letter (may_set_flags operation) (code == 115) operation code word m refl (Decides-eqb code 115).0 e

-- Words and their texts.

abbrev IsText : List ℕ → Mnemonic → Type 0
IsText word m = (mnemonic_text m ≡ word) × IsTrue (is_mnemonic m)

with_base : (operation : Operation) (word rest : List ℕ) (m : Mnemonic) → word ≡ base_of operation ++ rest → IsBehindBase operation rest m → IsText word m
with_base operation word rest m e h = (rw (h.0, h.1) (sym e), h.2)

by_start : (b : Bool) (operation : Operation) (word : List ℕ) (m : Mnemonic)
    → (b ≡ true → word ≡ base_of operation ++ drop (length (base_of operation)) word)
    → (if b then with_flags operation (drop (length (base_of operation)) word) else None) ≡ Some m → IsText word m
by_start true operation word m starts e =
    with_base operation word (drop (length (base_of operation)) word) m (starts refl) (flags_behind operation (drop (length (base_of operation)) word) m e)
by_start false operation word m starts e = cc

operation_text : (word : List ℕ) (operation : Operation) (m : Mnemonic) → as_operation word operation ≡ Some m → IsText word m
unfolding as_operation
operation_text word operation m e =
    by_start (starts_with nat_eq word (base_of operation)) operation word m
    (starts_is Decides-eqb word (base_of operation) (starts_with nat_eq word (base_of operation)) refl).0 e

one_of_two : (first later : Option Mnemonic) (m : Mnemonic) (P : Type 0) → (first ≡ Some m → P) → (later ≡ Some m → P) → or_mnemonic first later ≡ Some m → P
one_of_two (Some found) later m P f g e = f e
one_of_two None later m P f g e = g e

among_text : (operations : List Operation) (word : List ℕ) (m : Mnemonic) → read_among operations word ≡ Some m → IsText word m
unfolding read_among
among_text [] word m e = cc
among_text (operation ∷ operations) word m e =
    one_of_two (as_operation word operation) (read_among operations word) m (IsText word m) (operation_text word operation m) (among_text operations word m) e

-- a word that is read as a mnemonic is its text
pub word_is_text : (word : List ℕ) (m : Mnemonic) → mnemonic_of word ≡ Some m → (mnemonic_text m ≡ word) × IsTrue (is_mnemonic m)
word_is_text word m e = among_text operations word m e
