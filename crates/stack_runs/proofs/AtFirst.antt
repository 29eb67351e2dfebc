-- The stack guest's memory as it is at first: all nodes are on the stack, and count 0.
use Rattle.std.proofs.Common.{◌≡◌, ℕ, zero, suc, ◌+◌, ◌-◌, ◌*◌, ◌%◌, ◌^◌, ◌<◌, ◌≤◌, ◌==◌, ◌&&◌, Bool, true, false, if◌then◌else◌, nat_le, nat_lt, List, [], ◌∷◌, ◌++◌, length, drop, replicate, slice_index, refl, sym, ap, ◌∙◌, arith, length-append, length-drop, drop-drop, inl, inr}
use Rattle.std.proofs.lemmas.Bool.{cases_eq, ne_eqb}
use Rattle.std.proofs.Math.Seq.{drop-append-add}
use Rattle.std.proofs.lemmas.List.{get_or-drop, get_or_append_left, length-replicate}
use Rattle.llsc_base.specs.Flat.{values_below}
use Rattle.llsc_base.specs.Memory.{bytes_of, value_at}
use Rattle.llsc_base.specs.Sizes.{Numbers}
use Rattle.llsc_base.specs.declared.access.Size.TheVariants.{B4}
use Rattle.llsc_base.proofs.Bytes.{length-bytes_of, number_of-bytes_of}
use Rattle.llsc_base.proofs.Values.{length-values_below}
use Rattle.elf32.specs.Units.{unit_byte}
use Rattle.elf32.proofs.FirstWords.{word-is}
use Rattle.history.proofs.SumsBelow.{sum_below-const, sum_below-none}
use Rattle.stack_runs.specs.Guest.{AreInRange, count_of, link_of, next_at, node_at, node_bytes, stack_data, stack_unit, top}
use Rattle.stack_runs.specs.Stacks.{AreLinked, AreNodes, counts_below, first_of, times}
use Rattle.stack_runs.proofs.Invariant.{Stands, setup_of, start_of}
use Rattle.stack_runs.proofs.Nodes.{one_if}
use Rattle.stack_runs.proofs.Protocol.{holds, idle}
use Rattle.stack_runs.proofs.Steps.{holds-none}

-- ---- the data

length-node_bytes : (left index : ℕ) → length (node_bytes left index) ≡ 8 * left
length-node_bytes zero index = refl
length-node_bytes (suc left) index =
    let rest = node_bytes left (suc index) in
    let long = length-node_bytes left (suc index) in
    length-append (bytes_of 4 (next_at left (suc index)) ++ bytes_of 4 0) rest
    ∙ omega (arith, long, length-append (bytes_of 4 (next_at left (suc index))) (bytes_of 4 0), length-bytes_of 4 (next_at left (suc index)), length-bytes_of 4 0)

pub length-stack_data : (nodes : ℕ) → length (stack_data nodes) ≡ 64 + 8 * nodes
length-stack_data nodes =
    length-append (bytes_of 4 (next_at nodes 0) ++ replicate {A = ℕ} 60 0) (node_bytes nodes 0)
    ∙ omega (arith, length-append (bytes_of 4 (next_at nodes 0)) (replicate {A = ℕ} 60 0), length-bytes_of 4 (next_at nodes 0), length-replicate {A = ℕ} 60 0, length-node_bytes nodes 0)

-- behind so many nodes the others stand
nodes-behind : (past left index all at : ℕ) → all ≡ past + left → at ≡ past + index → drop (8 * past) (node_bytes all index) ≡ node_bytes left at
unfolding bytes_of
nodes-behind zero left index all at many there =
    let others : all ≡ left = omega (arith, many) in
    let here : index ≡ at = omega (arith, there) in
    ap (λ (n : ℕ). node_bytes n index) others ∙ ap (node_bytes left) here
nodes-behind (suc past) left index zero at many there = absurd (omega (arith, many))
nodes-behind (suc past) left index (suc all) at many there =
    let more : 8 * suc past ≡ 8 + 8 * past = omega arith in
    ap (λ (k : ℕ). drop k (node_bytes (suc all) index)) more
    ∙ drop-append-add (bytes_of 4 (next_at all (suc index)) ++ bytes_of 4 0) (node_bytes all (suc index)) (8 * past)
    ∙ nodes-behind past left (suc index) all at (omega (arith, many)) (omega (arith, there))

data-behind : (nodes past left : ℕ) → nodes ≡ past + left → drop (64 + 8 * past) (stack_data nodes) ≡ node_bytes left past
unfolding bytes_of
data-behind nodes past left all =
    drop-append-add (bytes_of 4 (next_at nodes 0) ++ replicate {A = ℕ} 60 0) (node_bytes nodes 0) (8 * past)
    ∙ nodes-behind past left 0 nodes past all (omega arith)

-- and behind the link of the first of these its count
count-behind : (nodes past left : ℕ) → nodes ≡ past + suc left → drop (68 + 8 * past) (stack_data nodes) ≡ bytes_of 4 0 ++ node_bytes left (suc past)
unfolding bytes_of
count-behind nodes past left all =
    let more : 68 + 8 * past ≡ 64 + 8 * past + 4 = omega arith in
    ap (λ (k : ℕ). drop k (stack_data nodes)) more
    ∙ sym (drop-drop 4 (64 + 8 * past) (stack_data nodes))
    ∙ ap (drop 4) (data-behind nodes past (suc left) all)

-- ---- the words

by_data : (code within : Bool) (x y : ℕ) → code ≡ false → within ≡ true → ◌≡◌ {A = ℕ} (if code then x else if within then y else 0) y
by_data false true x y f g = refl
by_data true within x y f g = absurd (let h : ⊥ = cc in h)
by_data false false x y f g = absurd (let h : ⊥ = cc in h)

-- ---- how often each node stands on the stack

-- the nodes from an index on, from the top down
abbrev node_list : (left index : ℕ) → List ℕ
node_list zero index = []
node_list (suc left) index = node_at index ∷ node_list left (suc index)

abbrev pub first_stack : (nodes : ℕ) → List ℕ
first_stack nodes = node_list nodes 0

none-before : (left index k : ℕ) → k < index → times (node_at k) (node_list left index) ≡ 0
none-before zero index k less = refl
none-before (suc left) index k less =
    let other : ◌≡◌ {A = ℕ} (if node_at index == node_at k then 1 else 0) 0 =
    ap (λ b. if b then 1 else 0) (ne_eqb (node_at index) (node_at k) (λ same. absurd (omega (arith, same, less)))) in
    let rest = none-before left (suc index) k (omega (arith, less)) in
    omega (arith, other, rest)

once-first : (left index k : ℕ) → index ≤ k → k < index + left → times (node_at k) (node_list left index) ≡ 1
once-first zero index k from to = absurd (omega (arith, from, to))
once-first (suc left) index k from to = elim (cases_eq index k) [
  | inl same ↦
      let one = one_if (node_at k) (node_at index) (ap node_at same) in
      let rest = none-before left (suc index) k (omega (arith, same)) in
      omega (arith, one, rest)
  | inr other ↦
      let none : ◌≡◌ {A = ℕ} (if node_at index == node_at k then 1 else 0) 0 =
      ap (λ b. if b then 1 else 0) (ne_eqb (node_at index) (node_at k) (λ same. absurd (omega (arith, same, other)))) in
      let rest = once-first left (suc index) k (omega (arith, from, other)) (omega (arith, to)) in
      omega (arith, none, rest)
]

-- ---- the words

module _ (nodes rounds : ℕ) (size : Numbers) (range : AreInRange nodes rounds size) where
  abbrev byte : ℕ → ℕ
  byte = unit_byte (stack_unit nodes rounds)

  abbrev memory : List ℕ
  memory = values_below size.mem byte

  data_byte : (k : ℕ) → k < length (stack_data nodes) → byte (8192 + k) ≡ slice_index (stack_data nodes) k
  data_byte k known =
      let same : 8192 + k - 8192 ≡ k = omega arith in
      by_data (nat_le 4096 (8192 + k) && nat_lt (8192 + k) 4188) (nat_le 8192 (8192 + k) && nat_lt (8192 + k) (8192 + length (stack_data nodes))) _ _
      (grind arith) (grind (arith, known))
      ∙ ap (slice_index (stack_data nodes)) same

  -- the word that begins behind so many bytes of the data
  data_word : (k v : ℕ) (rest : List ℕ) → drop k (stack_data nodes) ≡ bytes_of 4 v ++ rest → v < 2 ^ 32
      → value_at memory (record { addr = 8192 + k; size = B4 }) ≡ v
  data_word k v rest behind fits =
      let few = range.few_nodes in
      let room = range.room in
      let long = length-stack_data nodes in
      let inside : k + 4 ≤ length (stack_data nodes) =
      (let same = ap length behind in omega (arith, same, length-drop k (stack_data nodes), length-append (bytes_of 4 v) rest, length-bytes_of 4 v)) in
      let small : v % 256 ^ 4 ≡ v = omega (arith, fits) in
      word-is size.mem byte (8192 + k) (bytes_of 4 v) (omega (arith, inside, long, few, room)) (length-bytes_of 4 v)
      (λ j low.
      let at : 8192 + k + j ≡ 8192 + (k + j) = omega arith in
      ap byte at
      ∙ data_byte (k + j) (omega (arith, inside, low))
      ∙ sym (get_or-drop k (stack_data nodes) j 0)
      ∙ ap (λ (l : List ℕ). slice_index l j) behind
      ∙ get_or_append_left (bytes_of 4 v) rest 0 j (let four = length-bytes_of 4 v in omega (arith, low, four)))
      ∙ number_of-bytes_of 4 v
      ∙ small

  next-small : (left index : ℕ) → left + index ≤ nodes → next_at left index < 2 ^ 32
  next-small zero index few = omega arith
  next-small (suc left) index few = let most = range.few_nodes in omega (arith, few, most)

  top-first : value_at memory top ≡ next_at nodes 0
  unfolding bytes_of
  top-first = data_word 0 (next_at nodes 0) (replicate 60 0 ++ node_bytes nodes 0) refl (next-small nodes 0 (omega arith))

  -- the words of a node, behind which so many others are
  link-first : (left index : ℕ) → nodes ≡ index + suc left → value_at memory (link_of (node_at index)) ≡ next_at left (suc index)
  unfolding bytes_of
  link-first left index all =
      let at : 8192 + (64 + 8 * index) ≡ node_at index = omega arith in
      ap (λ (k : ℕ). value_at memory (record { addr = k; size = B4 })) (sym at)
      ∙ data_word (64 + 8 * index) (next_at left (suc index)) (bytes_of 4 0 ++ node_bytes left (suc index)) (data-behind nodes index (suc left) all)
      (next-small left (suc index) (omega (arith, all)))

  count-first : (left index : ℕ) → nodes ≡ index + suc left → value_at memory (count_of (node_at index)) ≡ 0
  count-first left index all =
      let at : 8192 + (68 + 8 * index) ≡ node_at index + 4 = omega arith in
      ap (λ (k : ℕ). value_at memory (record { addr = k; size = B4 })) (sym at)
      ∙ data_word (68 + 8 * index) 0 (node_bytes left (suc index)) (count-behind nodes index left all) (omega arith)

  -- ---- the stack

  first-is : (left index : ℕ) → first_of (node_list left index) ≡ next_at left index
  first-is zero index = refl
  first-is (suc left) index = refl

  linked-first : (left index : ℕ) → nodes ≡ index + left → AreLinked memory (node_list left index)
  linked-first zero index all = tt
  linked-first (suc left) index all =
      (link-first left index all ∙ sym (first-is left (suc index)), linked-first left (suc index) (omega (arith, all)))

  counts-first : (k : ℕ) → k ≤ nodes → counts_below memory k ≡ 0
  counts-first zero known = refl
  counts-first (suc k) known =
      let rest = counts-first k (omega (arith, known)) in
      let one = count-first (nodes - suc k) k (omega (arith, known)) in
      omega (arith, rest, one)

  nodes-first : (left index : ℕ) → nodes ≡ index + left → AreNodes nodes (node_list left index)
  nodes-first zero index all = tt
  nodes-first (suc left) index all =
      (record { index = index; known = omega (arith, all); at = refl }, nodes-first left (suc index) (omega (arith, all)))

  pub first_stands : Stands (setup_of nodes rounds size range) (start_of nodes rounds size) (λ t. idle rounds) (first_stack nodes)
  first_stands = record {
    many = length-replicate size.threads _;
    room = let long = length-values_below size.mem byte in let room = range.room in let few = range.few_nodes in omega (arith, few, room, long);
    is = record { first = top-first ∙ sym (first-is nodes 0); linked = linked-first nodes 0 (omega arith) };
    all = nodes-first nodes 0 (omega arith);
    once = λ a is.
        let here : times a (first_stack nodes) ≡ 1 =
        ap (λ (k : ℕ). times k (first_stack nodes)) is.at ∙ once-first nodes 0 is.index (omega arith) (let known = is.known in omega (arith, known)) in
        let none = sum_below-none (λ t. holds a (idle rounds)) size.threads (λ t low. holds-none nodes a (idle rounds) is refl) in
        omega (arith, here, none);
    each = λ t low. tt;
    sum =
        let none = counts-first nodes (omega arith) in
        let all = sum_below-const rounds size.threads in
        omega (arith, none, all);
  }
