-- The registers of a list, from each register up.
use Rattle.std.proofs.Common.{◌≡◌, ℕ, zero, suc, ◌+◌, ◌-◌, ◌/◌, ◌%◌, ◌^◌, ◌<◌, ◌≤◌, ◌==◌, Bool, true, false, if◌then◌else◌, List, [], ◌∷◌, length, slice_index, slice_set, arith, refl, sym, ◌∙◌, ap, subst, shr-shr}
use Rattle.std.proofs.lemmas.Bool.{eqb-true}
use Rattle.std.proofs.lemmas.Nat.{ones-le}
use lib.Count.{ones, ones_step}
use Rattle.a32_instr.specs.Block.{is_listed, registers_of, count_of, below, loaded, listed_value}
use Rattle.a32_compute.specs.Lists.{highest, AreLeft}

-- all of them
pub from_lowest : (list : ℕ) → highest list 16 ≡ registers_of list
unfolding highest registers_of
from_lowest list = refl

-- none is left after the highest
pub at_end : (list r : ℕ) → 16 ≤ r → highest list (16 - r) ≡ []
unfolding highest
at_end list r past = let none : 16 - r ≡ 0 = omega (arith, past) in ap (highest list) none

step : (list r : ℕ) → r < 16 → highest list (16 - r) ≡ (if is_listed list r then r ∷ highest list (16 - (r + 1)) else highest list (16 - (r + 1)))
unfolding highest
step list r low =
    let more : 16 - r ≡ suc (16 - (r + 1)) = omega (arith, low) in
    let back : 15 - (16 - (r + 1)) ≡ r = omega (arith, low) in
    ap (highest list) more ∙ ap (λ (q : ℕ). if is_listed list q then q ∷ highest list (16 - (r + 1)) else highest list (16 - (r + 1))) back

if_listed : (b : Bool) (r : ℕ) (rs : List ℕ) → b ≡ true → (if b then r ∷ rs else rs) ≡ r ∷ rs
if_listed true r rs e = refl
if_listed false r rs e = cc

if_unlisted : (b : Bool) (r : ℕ) (rs : List ℕ) → b ≡ false → (if b then r ∷ rs else rs) ≡ rs
if_unlisted true r rs e = cc
if_unlisted false r rs e = refl

-- a register that is listed, and one that isn't
pub at_listed : (list r : ℕ) → r < 16 → is_listed list r ≡ true → highest list (16 - r) ≡ r ∷ highest list (16 - (r + 1))
at_listed list r low e = step list r low ∙ if_listed (is_listed list r) r (highest list (16 - (r + 1))) e

pub at_unlisted : (list r : ℕ) → r < 16 → is_listed list r ≡ false → highest list (16 - r) ≡ highest list (16 - (r + 1))
at_unlisted list r low e = step list r low ∙ if_unlisted (is_listed list r) r (highest list (16 - (r + 1))) e

-- Their number.

bit_counts : (x r : ℕ) (rs : List ℕ) → x < 2 → length (if x == 1 then r ∷ rs else rs) ≡ x + length rs
bit_counts zero r rs small = omega arith
bit_counts (suc zero) r rs small = omega arith
bit_counts (suc (suc x)) r rs small = absurd (omega (arith, small))

highest_count : (list k : ℕ) → list < 2 ^ 16 → k ≤ 16 → length (highest list k) ≡ ones (list / 2 ^ (16 - k))
unfolding highest
highest_count list zero small few =
    let none : list / 2 ^ 16 ≡ 0 = omega (arith, small) in
    let zeros : ones 0 ≤ 0 = ones-le 0 0 (omega arith) in
    let sum : 0 ≡ ones 0 = omega (arith, zeros) in
    sum ∙ ap ones (sym none)
highest_count list (suc k) small few =
    let shift : 15 - k + 1 ≡ 16 - k = omega (arith, few) in
    let here : 15 - k ≡ 16 - suc k = omega (arith, few) in
    let half : list / 2 ^ (15 - k) / 2 ^ 1 ≡ list / 2 ^ (16 - k) = shr-shr list (15 - k) 1 ∙ ap (λ (n : ℕ). list / 2 ^ n) shift in
    bit_counts (list / 2 ^ (15 - k) % 2) (15 - k) (highest list k) (omega arith)
    ∙ ap (λ (n : ℕ). list / 2 ^ (15 - k) % 2 + n) (highest_count list k small (omega (arith, few)) ∙ ap ones (sym half))
    ∙ sym (ones_step (list / 2 ^ (15 - k)))
    ∙ ap (λ (n : ℕ). ones (list / 2 ^ n)) here

pub count_is : (list : ℕ) → list < 2 ^ 16 → ones list ≡ count_of list
count_is list small =
    let whole : list / 1 ≡ list = omega arith in
    sym (ap (λ (rs : List ℕ). length rs) (sym (from_lowest list)) ∙ highest_count list 16 small (omega arith) ∙ ap ones whole)

few_of : (b : Bool) (r k : ℕ) (rs : List ℕ) → length rs ≤ k → length (if b then r ∷ rs else rs) ≤ suc k
few_of true r k rs few = omega (arith, few)
few_of false r k rs few = omega (arith, few)

highest_most : (list k : ℕ) → length (highest list k) ≤ k
unfolding highest
highest_most list zero = omega arith
highest_most list (suc k) = few_of (is_listed list (15 - k)) (15 - k) k (highest list k) (highest_most list k)

-- a list has 16 registers at most
pub registers_most : (list : ℕ) → count_of list ≤ 16
registers_most list = subst (λ (rs : List ℕ). length rs ≤ 16) (from_lowest list) (highest_most list 16)

pub ones_most : (list : ℕ) → list < 2 ^ 16 → ones list ≤ 16
ones_most list small = ones-le 16 list small

-- Those that are below.

below_next : (list r : ℕ) → below list (r + 1) ≡ (if is_listed list r then below list r + 1 else below list r)
unfolding below
below_next list r = let more : r + 1 ≡ suc r = omega arith in ap (below list) more

choose_then : (b : Bool) (x y : ℕ) → b ≡ true → (if b then x else y) ≡ x
choose_then true x y e = refl
choose_then false x y e = cc

choose_else : (b : Bool) (x y : ℕ) → b ≡ false → (if b then x else y) ≡ y
choose_else true x y e = cc
choose_else false x y e = refl

below_listed : (list r : ℕ) → is_listed list r ≡ true → below list (r + 1) ≡ below list r + 1
below_listed list r e = below_next list r ∙ choose_then (is_listed list r) (below list r + 1) (below list r) e

below_unlisted : (list r : ℕ) → is_listed list r ≡ false → below list (r + 1) ≡ below list r
below_unlisted list r e = below_next list r ∙ choose_else (is_listed list r) (below list r + 1) (below list r) e

none_below : (list : ℕ) → 0 ≡ below list 0
unfolding below
none_below list = refl

-- Those that are left.

pub left_first : (list : ℕ) → AreLeft list 0 0
left_first list =
    let all : 16 - 0 ≡ 16 = omega arith in
    let whole : highest list (16 - 0) ≡ registers_of list = ap (highest list) all ∙ from_lowest list in
    record {
      few = omega arith;
      passed = none_below list;
      same = λ i. ap (λ rs. slice_index rs i) whole ∙ ap (slice_index (registers_of list)) (omega arith);
      count = let none : 0 + length (highest list (16 - 0)) ≡ length (highest list (16 - 0)) = omega arith in none ∙ ap (λ rs. length rs) whole;
    }

-- past one that isn't listed the same are left
pub left_unlisted : (list r number : ℕ) → r < 16 → is_listed list r ≡ false → AreLeft list r number → AreLeft list (r + 1) number
left_unlisted list r number low unlisted left = record {
  few = omega (arith, left.few);
  passed = left.passed ∙ sym (below_unlisted list r unlisted);
  same = λ i. ap (λ rs. slice_index rs i) (sym (at_unlisted list r low unlisted)) ∙ left.same i;
  count = ap (λ rs. number + length rs) (sym (at_unlisted list r low unlisted)) ∙ left.count;
}

-- past the highest there are none
pub left_end : (list r number : ℕ) → 16 ≤ r → AreLeft list r number → number ≡ count_of list
left_end list r number past left =
    let none : length (highest list (16 - r)) ≡ 0 = ap (λ rs. length rs) (at_end list r past) in
    omega (arith, none, left.count)

module _ (list r number : ℕ) (low : r < 16) (listed : is_listed list r ≡ true) (left : AreLeft list r number) where
  -- the first that is left is the one of its number
  pub next_listed : slice_index (registers_of list) number ≡ r
  next_listed =
      let here : number ≡ number + 0 = omega arith in
      ap (slice_index (registers_of list)) here ∙ sym (left.same 0) ∙ ap (λ rs. slice_index rs 0) (at_listed list r low listed)

  more : length (highest list (16 - r)) ≡ length (highest list (16 - (r + 1))) + 1
  more = ap (λ rs. length rs) (at_listed list r low listed) ∙ omega arith

  pub less : number < count_of list
  less = let longer = more in omega (arith, longer, left.count)

  -- past it one fewer is left
  pub left_listed : AreLeft list (r + 1) (number + 1)
  left_listed = record {
    few = omega (arith, left.few);
    passed = ap (λ n. n + 1) left.passed ∙ sym (below_listed list r listed);
    same = λ i.
        let further : number + suc i ≡ number + 1 + i = omega arith in
        ap (λ rs. slice_index rs (suc i)) (sym (at_listed list r low listed)) ∙ left.same (suc i) ∙ ap (slice_index (registers_of list)) further;
    count = let longer = more in omega (arith, longer, left.count);
  }

-- a list with the PC isn't empty
highest_filled : (list k : ℕ) → is_listed list 15 ≡ true → 1 ≤ length (highest list (suc k))
unfolding highest
highest_filled list zero e = subst (λ (rs : List ℕ). 1 ≤ length rs) (sym (if_listed (is_listed list 15) 15 [] e)) (omega arith)
highest_filled list (suc k) e = grown (is_listed list (15 - suc k)) (15 - suc k) (highest list (suc k)) (highest_filled list k e)
  where
    grown : (b : Bool) (r : ℕ) (rs : List ℕ) → 1 ≤ length rs → 1 ≤ length (if b then r ∷ rs else rs)
    grown true r rs some = omega (arith, some)
    grown false r rs some = some

pub pc_counts : (list : ℕ) → is_listed list 15 ≡ true → 1 ≤ count_of list
pc_counts list e = subst (λ (rs : List ℕ). 1 ≤ length rs) (from_lowest list) (highest_filled list 15 e)

left_next : (list r : ℕ) (b : Bool) → r < 16 → is_listed list r ≡ b → AreLeft list r (below list r) → AreLeft list (r + 1) (below list (r + 1))
left_next list r true low e left = subst (AreLeft list (r + 1)) (sym (below_listed list r e)) (left_listed list r (below list r) low e left)
left_next list r false low e left = subst (AreLeft list (r + 1)) (sym (below_unlisted list r e)) (left_unlisted list r (below list r) low e left)

-- those from r up are left behind those below
left_at : (list r : ℕ) → r ≤ 16 → AreLeft list r (below list r)
left_at list zero few = subst (AreLeft list 0) (none_below list) (left_first list)
left_at list (suc r) few =
    let more : r + 1 ≡ suc r = omega arith in
    subst (λ q. AreLeft list q (below list q)) more (left_next list r (is_listed list r) (omega (arith, few)) refl (left_at list r (omega (arith, few))))

-- the PC, where it is listed, is the last
pub pc_last : (list : ℕ) → is_listed list 15 ≡ true → below list 15 ≡ count_of list - 1
pc_last list e =
    let all : below list 16 ≡ count_of list = left_end list 16 (below list 16) (omega arith) (left_at list 16 (omega arith)) in
    let last : below list 16 ≡ below list 15 + 1 = below_listed list 15 e in
    omega (arith, all, last)

module _ (list i : ℕ) (counts : i < count_of list) where
  abbrev IsBelow : ℕ → Type 0
  IsBelow k = (r number : ℕ) → r + k ≡ 16 → AreLeft list r number → number ≤ i → below list (slice_index (registers_of list) i) ≡ i

  -- register r is the one of this number, or one further up is
  here_or_up : (k r number : ℕ) → r + suc k ≡ 16 → AreLeft list r number → number ≤ i → IsBelow k
      → (listed here : Bool) → is_listed list r ≡ listed → (number == i) ≡ here → below list (slice_index (registers_of list) i) ≡ i
  here_or_up k r number whole left few up true true e same =
      let is : number ≡ i = eqb-true number i same in
      ap (λ q. below list (slice_index (registers_of list) q)) (sym is)
      ∙ ap (below list) (next_listed list r number (omega (arith, whole)) e left) ∙ sym left.passed ∙ is
  here_or_up k r number whole left few up true false e other =
      let behind : number + 1 ≤ i = grind (arith, few, other) in
      up (r + 1) (number + 1) (omega (arith, whole)) (left_listed list r number (omega (arith, whole)) e left) behind
  here_or_up k r number whole left few up false here e same =
      up (r + 1) number (omega (arith, whole)) (left_unlisted list r number (omega (arith, whole)) e left) few

  below_from : (k : ℕ) → IsBelow k
  below_from zero r number whole left few =
      let all : number ≡ count_of list = left_end list r number (omega (arith, whole)) left in
      absurd (omega (arith, all, few, counts))
  below_from (suc k) r number whole left few = here_or_up k r number whole left few (below_from k) (is_listed list r) (number == i) refl refl

-- below the register of a number are so many
pub below_is : (list i : ℕ) → i < count_of list → below list (slice_index (registers_of list) i) ≡ i
below_is list i counts = below_from list i counts 16 0 0 (omega arith) (left_first list) (omega arith)

-- The loaded registers.

pub loaded_all : (list r : ℕ) (words regs : List ℕ) → 16 ≤ r → loaded (highest list (16 - r)) list words regs ≡ regs
unfolding loaded
loaded_all list r words regs past = ap (λ (rs : List ℕ). loaded rs list words regs) (at_end list r past)

pub loaded_next : (list r : ℕ) (words regs : List ℕ) → r < 16 → is_listed list r ≡ true
    → loaded (highest list (16 - r)) list words regs ≡ loaded (highest list (16 - (r + 1))) list words (slice_set regs r (listed_value list words r))
unfolding loaded
loaded_next list r words regs low e = ap (λ (rs : List ℕ). loaded rs list words regs) (at_listed list r low e)
