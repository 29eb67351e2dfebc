-- Fixed bits that no word has together, by a test that computes.
use Rattle.std.proofs.Common.{◌≡◌, ℕ, zero, suc, ◌+◌, ◌-◌, ◌/◌, ◌%◌, ◌^◌, ◌<◌, ◌≤◌, ◌==◌, nat_le, nat_lt, ◌&&◌, not, Bool, true, false, IsTrue, List, [], ◌∷◌, ⊎_elim, arith, refl, ◌∙◌, sym, ap, shr-shr}
use Rattle.std.specs.List.{list_any}
use Rattle.std.proofs.lemmas.Bool.{and_parts, or_cases, eqb-true, leb-true, ltb-true, eq-eqb, both_ways, not-true}
use Rattle.std.proofs.lemmas.Nat.{field_of, mod-pow-add}
use Rattle.llsc_base.specs.Bits.{Run, bits_of, has_all, field}

-- The test.

-- bit p of a word is in a run
abbrev pub within : ℕ → Run → Bool
within p run = nat_le run.low p && nat_lt p (run.low + run.width)

-- bit p of the words that have a run
abbrev pub digit : ℕ → Run → ℕ
digit p run = run.value / 2 ^ (p - run.low) % 2

abbrev differ_at : Run → Run → ℕ → Bool
differ_at run other p = within p run && (within p other && not (digit p run == digit p other))

abbrev below : ℕ → List ℕ
below zero = []
below (suc p) = p ∷ below p

abbrev differ : Run → Run → Bool
differ run other = list_any (differ_at run other) (below 32)

abbrev differ_from : Run → List Run → Bool
differ_from run others = list_any (differ run) others

-- of two lists of fixed bits one has a bit that differs
abbrev pub clash : List Run → List Run → Bool
clash runs others = list_any (λ run. differ_from run others) runs

-- Its meaning.

abbrev pub has : ℕ → Run → Type 0
has word run = bits_of word run.low run.width ≡ run.value

-- the lowest bit of more than one
lowest : (x r : ℕ) → x % 2 ^ (r + 1) % 2 ≡ x % 2
lowest x r = ap (λ (y : ℕ). y % 2) (mod-pow-add x r 1) ∙ omega arith

-- a bit inside a field
inside : (word low p width : ℕ) → low ≤ p → p < low + width → word / 2 ^ low % 2 ^ width / 2 ^ (p - low) % 2 ≡ word / 2 ^ p % 2
inside word low p width lower upper =
    let whole : low + (p - low) ≡ p = omega arith in
    let rest : (low + width - p - 1) + 1 + (p - low) ≡ width = omega arith in
    let split : word / 2 ^ low % 2 ^ ((low + width - p - 1) + 1 + (p - low)) / 2 ^ (p - low) ≡ word / 2 ^ low / 2 ^ (p - low) % 2 ^ ((low + width - p - 1) + 1) =
    field_of (word / 2 ^ low) ((low + width - p - 1) + 1) (p - low) in
    ap (λ (y : ℕ). y % 2) (rw rest at split)
    ∙ lowest (word / 2 ^ low / 2 ^ (p - low)) (low + width - p - 1)
    ∙ ap (λ (y : ℕ). y % 2) (shr-shr word low (p - low) ∙ ap (λ (y : ℕ). word / 2 ^ y) whole)

-- bit p of a word that has a run
pub bit_is : (word p : ℕ) (run : Run) → has word run → IsTrue (within p run) → word / 2 ^ p % 2 ≡ digit p run
bit_is word p run h covered =
    let parts : IsTrue (nat_le run.low p) × IsTrue (nat_lt p (run.low + run.width)) = and_parts (nat_le run.low p) (nat_lt p (run.low + run.width)) covered in
    sym (inside word run.low p run.width (leb-true run.low p parts.0) (ltb-true p (run.low + run.width) parts.1))
    ∙ ap (λ (y : ℕ). y / 2 ^ (p - run.low) % 2) h

differ_at_apart : (word : ℕ) (run other : Run) (p : ℕ) → has word run → has word other → IsTrue (differ_at run other p) → ⊥
differ_at_apart word run other p h g test =
    let first : IsTrue (within p run) × IsTrue (within p other && not (digit p run == digit p other)) =
    and_parts (within p run) (within p other && not (digit p run == digit p other)) test in
    let second : IsTrue (within p other) × IsTrue (not (digit p run == digit p other)) =
    and_parts (within p other) (not (digit p run == digit p other)) first.1 in
    let same : digit p run ≡ digit p other = sym (bit_is word p run h first.0) ∙ bit_is word p other g second.0 in
    both_ways (digit p run == digit p other) (not-true (digit p run == digit p other) second.1) (eq-eqb (digit p run) (digit p other) same)

-- no element passes a test that each of them fails
none_passes : {X : Type 0} (test : X → Bool) → ((x : X) → IsTrue (test x) → ⊥) → (xs : List X) → IsTrue (list_any test xs) → ⊥
none_passes test fails [] e = both_ways false refl e
none_passes test fails (x ∷ xs) e = ⊎_elim (fails x) (none_passes test fails xs) (or_cases (test x) (list_any test xs) e)

pub first_of : (word : ℕ) (run : Run) (runs : List Run) → IsTrue (has_all word (run ∷ runs)) → has word run
first_of word run [] h = eqb-true (bits_of word run.low run.width) run.value h
first_of word run (next ∷ runs) h =
    eqb-true (bits_of word run.low run.width) run.value (and_parts (bits_of word run.low run.width == run.value) (has_all word (next ∷ runs)) h).0

pub rest_of : (word : ℕ) (run : Run) (runs : List Run) → IsTrue (has_all word (run ∷ runs)) → IsTrue (has_all word runs)
rest_of word run [] h = refl
rest_of word run (next ∷ runs) h = (and_parts (bits_of word run.low run.width == run.value) (has_all word (next ∷ runs)) h).1

differ_from_apart : (word : ℕ) (run : Run) → has word run → (others : List Run) → IsTrue (has_all word others) → IsTrue (differ_from run others) → ⊥
differ_from_apart word run h [] all e = both_ways false refl e
differ_from_apart word run h (other ∷ others) all e =
    ⊎_elim
    (none_passes (differ_at run other) (λ p. differ_at_apart word run other p h (first_of word other others all)) (below 32))
    (differ_from_apart word run h others (rest_of word other others all))
    (or_cases (differ run other) (differ_from run others) e)

-- no word has both then
pub clash_apart : (word : ℕ) (runs others : List Run) → IsTrue (has_all word runs) → IsTrue (has_all word others) → IsTrue (clash runs others) → ⊥
clash_apart word [] others all more e = both_ways false refl e
clash_apart word (run ∷ runs) others all more e =
    ⊎_elim
    (differ_from_apart word run (first_of word run runs all) others more)
    (clash_apart word runs others (rest_of word run runs all) more)
    (or_cases (differ_from run others) (clash runs others) e)
