-- Nodes lie apart from each other and from the top; what a store leaves of a stack and of the counts.
use Rattle.std.proofs.Common.{◌≡◌, ◌≢◌, ◌⊎◌, ℕ, zero, suc, ◌+◌, ◌*◌, ◌%◌, ◌^◌, ◌≤◌, ◌==◌, if◌then◌else◌, List, [], ◌∷◌, refl, ap, ◌∙◌, arith, inl, inr, eq-eqb, length}
use Rattle.std.proofs.lemmas.Bool.{cases_eq, cases_lt}
use Rattle.llsc_base.specs.Memory.{stored, value_at}
use Rattle.llsc_base.proofs.Stores.{value_at-stored_apart}
use Rattle.history.proofs.SumsBelow.{sum_below, sum_below-changed, sum_below-one, sum_below-same}
use Rattle.stack_runs.specs.Guest.{count_of, link_of, node_at, top}
use Rattle.stack_runs.specs.Stacks.{AreLinked, AreNodes, IsNode, counts_below, first_of, times}
use Rattle.stack_runs.proofs.Protocol.{count_at}

-- ---- lists and sums

-- one where a number stands there
pub one_if : (a b : ℕ) → b ≡ a → ◌≡◌ {A = ℕ} (if b == a then 1 else 0) 1
one_if a b same = ap (λ c. if c then 1 else 0) (eq-eqb b a same)

-- a number that isn't in a list isn't its first, nor in what follows
pub not_first : (n a : ℕ) (rest : List ℕ) → times n (a ∷ rest) ≡ 0 → a ≢ n
not_first n a rest none same = let one = one_if n a same in absurd (omega (arith, one, none))

pub not_later : (n a : ℕ) (rest : List ℕ) → times n (a ∷ rest) ≡ 0 → times n rest ≡ 0
not_later n a rest none = omega (arith, none)

pub first-not : (addresses : List ℕ) (n : ℕ) → times n addresses ≡ 0 → first_of addresses ≢ 0 → first_of addresses ≢ n
first-not [] n none some same = absurd (some refl)
first-not (a ∷ rest) n none some same = not_first n a rest none same

-- the sum of what they count, as one over their indices
pub counts-sum : (memory : List ℕ) (k : ℕ) → counts_below memory k ≡ sum_below (λ i. value_at memory (count_of (node_at i))) k
counts-sum memory zero = refl
counts-sum memory (suc k) = let rest = counts-sum memory k in omega (arith, rest)

-- ---- nodes, where there are so many

-- where a node lies
pub record IsInside (nodes a : ℕ) : Type 0 where
  pub from : 8256 ≤ a
  pub to : a + 8 ≤ 8256 + 8 * nodes

module _ (nodes : ℕ) where
  -- ---- where nodes lie

  pub inside : (a : ℕ) → IsNode nodes a → IsInside nodes a
  inside a node =
      let at = node.at in
      let known = node.known in
      record { from = omega (arith, at); to = omega (arith, at, known) }

  -- two of them are one, or lie apart
  same_or_apart : (a b : ℕ) → IsNode nodes a → IsNode nodes b → (b ≡ a) ⊎ ((a + 8 ≤ b) ⊎ (b + 8 ≤ a))
  same_or_apart a b one two =
      let at = one.at in
      let there = two.at in
      elim (cases_lt one.index two.index) [
        | inl less ↦ inr (inl (omega (arith, less, at, there)))
        | inr from ↦ elim (cases_eq one.index two.index) [
          | inl same ↦ inl (omega (arith, same, at, there))
          | inr more ↦ inr (inr (omega (arith, from, more, at, there)))
        ]
      ]

  apart : (a b : ℕ) → IsNode nodes a → IsNode nodes b → b ≢ a → (a + 8 ≤ b) ⊎ (b + 8 ≤ a)
  apart a b one two other = elim (same_or_apart a b one two) [
    | inl same ↦ absurd (other same)
    | inr lie ↦ lie
  ]

  -- a node is no 0
  pub node-some : (a : ℕ) → IsNode nodes a → a ≢ 0
  node-some a node none = absurd (omega (arith, (inside a node).from, none))

  -- the count of a node stands where its address modulo 2 to the 32 says
  pub count_at-is : nodes ≤ 64 → (a : ℕ) → IsNode nodes a → count_at a ≡ count_of a
  count_at-is few a node =
      let sum : (a + 4) % 2 ^ 32 ≡ a + 4 = omega (arith, few, (inside a node).to) in
      ap (λ (k : ℕ). record { addr = k; size = (count_of a).size }) sum

  -- ---- what a store leaves

  -- a store to the top
  pub top-link : (memory : List ℕ) (value a : ℕ) → 8256 + 8 * nodes ≤ length memory → IsNode nodes a
      → value_at (stored memory top value) (link_of a) ≡ value_at memory (link_of a)
  top-link memory value a room node =
      value_at-stored_apart memory top (link_of a) value (omega (arith, room)) (omega (arith, room, (inside a node).to)) (inl (omega (arith, (inside a node).from)))

  pub top-count : (memory : List ℕ) (value a : ℕ) → 8256 + 8 * nodes ≤ length memory → IsNode nodes a
      → value_at (stored memory top value) (count_of a) ≡ value_at memory (count_of a)
  top-count memory value a room node =
      value_at-stored_apart memory top (count_of a) value (omega (arith, room)) (omega (arith, room, (inside a node).to)) (inl (omega (arith, (inside a node).from)))

  -- a store to a link
  pub link-top : (memory : List ℕ) (value n : ℕ) → 8256 + 8 * nodes ≤ length memory → IsNode nodes n
      → value_at (stored memory (link_of n) value) top ≡ value_at memory top
  link-top memory value n room node =
      value_at-stored_apart memory (link_of n) top value (omega (arith, room, (inside n node).to)) (omega (arith, room)) (inr (omega (arith, (inside n node).from)))

  pub link-link : (memory : List ℕ) (value n a : ℕ) → 8256 + 8 * nodes ≤ length memory → IsNode nodes n → IsNode nodes a → a ≢ n
      → value_at (stored memory (link_of n) value) (link_of a) ≡ value_at memory (link_of a)
  link-link memory value n a room node other ne =
      value_at-stored_apart memory (link_of n) (link_of a) value (omega (arith, room, (inside n node).to)) (omega (arith, room, (inside a other).to))
      (elim (apart n a node other ne) [
        | inl after ↦ inl (omega (arith, after))
        | inr before ↦ inr (omega (arith, before))
      ])

  pub link-count : (memory : List ℕ) (value n a : ℕ) → 8256 + 8 * nodes ≤ length memory → IsNode nodes n → IsNode nodes a
      → value_at (stored memory (link_of n) value) (count_of a) ≡ value_at memory (count_of a)
  link-count memory value n a room node other =
      value_at-stored_apart memory (link_of n) (count_of a) value (omega (arith, room, (inside n node).to)) (omega (arith, room, (inside a other).to))
      (elim (same_or_apart n a node other) [
        | inl same ↦ inl (omega (arith, same))
        | inr (inl after) ↦ inl (omega (arith, after))
        | inr (inr before) ↦ inr (omega (arith, before))
      ])

  -- a store to a count
  pub count-top : (memory : List ℕ) (value n : ℕ) → 8256 + 8 * nodes ≤ length memory → IsNode nodes n
      → value_at (stored memory (count_of n) value) top ≡ value_at memory top
  count-top memory value n room node =
      value_at-stored_apart memory (count_of n) top value (omega (arith, room, (inside n node).to)) (omega (arith, room)) (inr (omega (arith, (inside n node).from)))

  pub count-link : (memory : List ℕ) (value n a : ℕ) → 8256 + 8 * nodes ≤ length memory → IsNode nodes n → IsNode nodes a
      → value_at (stored memory (count_of n) value) (link_of a) ≡ value_at memory (link_of a)
  count-link memory value n a room node other =
      value_at-stored_apart memory (count_of n) (link_of a) value (omega (arith, room, (inside n node).to)) (omega (arith, room, (inside a other).to))
      (elim (same_or_apart n a node other) [
        | inl same ↦ inr (omega (arith, same))
        | inr (inl after) ↦ inl (omega (arith, after))
        | inr (inr before) ↦ inr (omega (arith, before))
      ])

  pub count-count : (memory : List ℕ) (value n a : ℕ) → 8256 + 8 * nodes ≤ length memory → IsNode nodes n → IsNode nodes a → a ≢ n
      → value_at (stored memory (count_of n) value) (count_of a) ≡ value_at memory (count_of a)
  count-count memory value n a room node other ne =
      value_at-stored_apart memory (count_of n) (count_of a) value (omega (arith, room, (inside n node).to)) (omega (arith, room, (inside a other).to))
      (elim (apart n a node other ne) [
        | inl after ↦ inl (omega (arith, after))
        | inr before ↦ inr (omega (arith, before))
      ])

  -- ---- the stack

  -- a stack stays linked where the link of each node but one is kept, which isn't on it
  pub linked-but : (memory new addresses : List ℕ) (n : ℕ) → AreNodes nodes addresses → times n addresses ≡ 0
      → ((a : ℕ) → IsNode nodes a → a ≢ n → value_at new (link_of a) ≡ value_at memory (link_of a))
      → AreLinked memory addresses → AreLinked new addresses
  linked-but memory new [] n all none kept linked = tt
  linked-but memory new (a ∷ rest) n all none kept linked =
      (kept a all.0 (not_first n a rest none) ∙ linked.0, linked-but memory new rest n all.1 (not_later n a rest none) kept linked.1)

  -- or the link of each
  pub linked-all : (memory new addresses : List ℕ) → AreNodes nodes addresses
      → ((a : ℕ) → IsNode nodes a → value_at new (link_of a) ≡ value_at memory (link_of a))
      → AreLinked memory addresses → AreLinked new addresses
  linked-all memory new [] all kept linked = tt
  linked-all memory new (a ∷ rest) all kept linked = (kept a all.0 ∙ linked.0, linked-all memory new rest all.1 kept linked.1)

  -- the first node
  pub first-node : (addresses : List ℕ) → AreNodes nodes addresses → first_of addresses ≢ 0 → IsNode nodes (first_of addresses)
  first-node [] all some = absurd (some refl)
  first-node (a ∷ rest) all some = all.0

  -- ---- the counts

  -- a count is at most the sum
  pub counts-one : (memory : List ℕ) (n : ℕ) → IsNode nodes n → value_at memory (count_of n) ≤ counts_below memory nodes
  counts-one memory n node =
      let all = counts-sum memory nodes in
      let one = sum_below-one (λ i. value_at memory (count_of (node_at i))) node.index nodes node.known in
      let at : value_at memory (count_of n) ≡ value_at memory (count_of (node_at node.index)) = ap (λ (k : ℕ). value_at memory (count_of k)) node.at in
      omega (arith, all, one, at)

  -- the sum stays where each count does
  pub counts-all : (memory new : List ℕ) → ((a : ℕ) → IsNode nodes a → value_at new (count_of a) ≡ value_at memory (count_of a))
      → counts_below new nodes ≡ counts_below memory nodes
  counts-all memory new kept =
      let one = counts-sum new nodes in
      let two = counts-sum memory nodes in
      let same : sum_below (λ i. value_at new (count_of (node_at i))) nodes ≡ sum_below (λ i. value_at memory (count_of (node_at i))) nodes =
      sum_below-same _ _ nodes (λ i known. kept (node_at i) (record { index = i; known = known; at = refl })) in
      omega (arith, one, two, same)

  -- and changes as one of them does
  pub counts-but : (memory new : List ℕ) (n : ℕ) → IsNode nodes n → ((a : ℕ) → IsNode nodes a → a ≢ n → value_at new (count_of a) ≡ value_at memory (count_of a))
      → counts_below new nodes + value_at memory (count_of n) ≡ counts_below memory nodes + value_at new (count_of n)
  counts-but memory new n node kept =
      let one = counts-sum new nodes in
      let two = counts-sum memory nodes in
      let changed = sum_below-changed (λ i. value_at memory (count_of (node_at i))) (λ i. value_at new (count_of (node_at i))) node.index nodes node.known
      (λ i known other. kept (node_at i) (record { index = i; known = known; at = refl }) (λ same. let at = node.at in absurd (other (omega (arith, same, at))))) in
      let old : value_at memory (count_of n) ≡ value_at memory (count_of (node_at node.index)) = ap (λ (k : ℕ). value_at memory (count_of k)) node.at in
      let now : value_at new (count_of n) ≡ value_at new (count_of (node_at node.index)) = ap (λ (k : ℕ). value_at new (count_of k)) node.at in
      omega (arith, one, two, changed, old, now)
