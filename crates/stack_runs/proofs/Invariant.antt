-- What holds at every point of a history of the stack guest: each node is on the stack or in the hands of one thread.
use Rattle.std.proofs.Common.{◌≡◌, ◌≢◌, ℕ, ◌+◌, ◌*◌, ◌^◌, ◌<◌, ◌≤◌, Option, Some, List, length, refl, ◌∙◌, arith, mul-le-mul}
use Rattle.llsc_base.specs.Memory.{row_of, value_at}
use Rattle.llsc_base.specs.Sizes.{Numbers}
use Rattle.history.specs.Monitor.{Monitor, at_rest_by, marked_row}
use Rattle.history.proofs.SumsBelow.{sum_below, sum_below-one, sum_below-two}
use Rattle.stack_runs.specs.Guest.{AreInRange, count_of, link_of, stack_image, top}
use Rattle.stack_runs.specs.Stacks.{AreNodes, IsNode, IsStack, counts_below, times}
use Rattle.stack_runs.proofs.Nodes.{node-some, one_if}
use Rattle.stack_runs.proofs.Protocol.{Point, below, counted, full, held, holds, idle, left, linked, owned, placed, seen}

-- how many nodes and threads there are, and how many rounds all threads make together
pub record Setup : Type 0 where
  pub nodes : ℕ
  pub threads : ℕ
  pub total : ℕ
  pub few_nodes : nodes ≤ 64
  pub few_rounds : total < 2 ^ 32

pub few_together : (threads rounds : ℕ) → threads ≤ 16 → rounds < 65536 → threads * rounds < 2 ^ 32
few_together threads rounds crew few =
    let low : rounds ≤ 65535 = omega (arith, few) in
    let most : threads * rounds ≤ 16 * 65535 = mul-le-mul crew low in
    omega (arith, most)

-- those of the guest, in range
abbrev pub setup_of : (nodes rounds : ℕ) (size : Numbers) → AreInRange nodes rounds size → Setup
setup_of nodes rounds size range = record {
  nodes = nodes;
  threads = size.threads;
  total = size.threads * rounds;
  few_nodes = range.few_nodes;
  few_rounds = few_together size.threads rounds range.few_threads range.few_rounds;
}

-- and the memory and the monitors at first
abbrev pub start_of : (nodes rounds : ℕ) → Numbers → Monitor
start_of nodes rounds size = at_rest_by size.granule (stack_image nodes rounds size).bytes size.threads

-- the thread is marked on the row of the top
abbrev pub IsOnTop : ℕ → Option ℕ → Type 0
IsOnTop granule mark = mark ≡ Some (row_of granule top)

-- What holds of a thread at a point: what it has read of the stack is still so where it is marked on the top's row, and what it has
-- read and written of a node that it holds is so.
abbrev pub IsSo : (nodes granule : ℕ) (memory : List ℕ) (mark : Option ℕ) → Point → Type 0
IsSo nodes granule memory mark (idle q) = Unit {0}
IsSo nodes granule memory mark (seen q n) = IsNode nodes n × (IsOnTop granule mark → value_at memory top ≡ n)
IsSo nodes granule memory mark (below q n x) =
    IsNode nodes n × (IsOnTop granule mark → (value_at memory top ≡ n) × (value_at memory (link_of n) ≡ x))
IsSo nodes granule memory mark (held q n) = IsNode nodes n
IsSo nodes granule memory mark (counted q n c) = IsNode nodes n × (value_at memory (count_of n) ≡ c)
IsSo nodes granule memory mark (full q n) = IsNode nodes n
IsSo nodes granule memory mark (linked q n x) = IsNode nodes n × (IsOnTop granule mark → value_at memory top ≡ x)
IsSo nodes granule memory mark (placed q n x) =
    IsNode nodes n × ((value_at memory (link_of n) ≡ x) × (IsOnTop granule mark → value_at memory top ≡ x))

-- What holds of the memory and the monitors, where each thread stands at its point, and these nodes are on the stack. That each node is
-- on the stack once, or in the hands of one thread, is said by a sum.
pub record Stands (setup : Setup) (m : Monitor) (p : ℕ → Point) (stack : List ℕ) : Type 0 where
  pub many : length m.marks ≡ setup.threads
  pub room : 8256 + 8 * setup.nodes ≤ length m.memory
  pub is : IsStack m.memory stack
  pub all : AreNodes setup.nodes stack
  pub once : (a : ℕ) → IsNode setup.nodes a → times a stack + sum_below (λ t. holds a (p t)) setup.threads ≡ 1
  pub each : (t : ℕ) → t < setup.threads → IsSo setup.nodes m.granule m.memory (marked_row m t) (p t)
  pub sum : counts_below m.memory setup.nodes + sum_below (λ t. left (p t)) setup.threads ≡ setup.total

-- ---- what a thread holds

module _ (setup : Setup) (m : Monitor) (p : ℕ → Point) (stack : List ℕ) (stands : Stands setup m p stack) (t n : ℕ) where
  -- it isn't on the stack
  pub not_on_stack : t < setup.threads → IsNode setup.nodes n → owned (p t) ≡ n → times n stack ≡ 0
  not_on_stack member node own =
      let one : holds n (p t) ≡ 1 = one_if n (owned (p t)) own in
      let most = sum_below-one (λ u. holds n (p u)) t setup.threads member in
      let once = stands.once n node in
      omega (arith, one, most, once)

  -- nor in other hands
  pub not_in_others : t < setup.threads → IsNode setup.nodes n → owned (p t) ≡ n → (u : ℕ) → u < setup.threads → u ≢ t → owned (p u) ≢ n
  not_in_others member node own u low other same =
      let one : holds n (p t) ≡ 1 = one_if n (owned (p t)) own in
      let two : holds n (p u) ≡ 1 = one_if n (owned (p u)) same in
      let most = sum_below-two (λ v. holds n (p v)) t u setup.threads member low other in
      let once = stands.once n node in
      absurd (omega (arith, one, two, most, once))

-- ---- another memory and mark

-- What holds of a thread goes on holding: where it is marked now it was before, and the top and the first node's link are what they were;
-- and so are the words of the node that it holds.
pub still_so : (nodes g : ℕ) (memory new : List ℕ) (mark later : Option ℕ) (point : Point)
    → (IsOnTop g later → IsOnTop g mark × ((value_at new top ≡ value_at memory top)
    × ((n : ℕ) → value_at memory top ≡ n → n ≢ 0 → value_at new (link_of n) ≡ value_at memory (link_of n))))
    → ((a : ℕ) → IsNode nodes a → owned point ≡ a → (value_at new (link_of a) ≡ value_at memory (link_of a)) × (value_at new (count_of a) ≡ value_at memory (count_of a)))
    → IsSo nodes g memory mark point → IsSo nodes g new later point
still_so nodes g memory new mark later (idle q) stays words so = tt
still_so nodes g memory new mark later (seen q n) stays words so = (so.0, λ on. (stays on).1.0 ∙ so.1 (stays on).0)
still_so nodes g memory new mark later (below q n x) stays words so =
    (so.0, λ on. ((stays on).1.0 ∙ (so.1 (stays on).0).0, (stays on).1.1 n (so.1 (stays on).0).0 (node-some nodes n so.0) ∙ (so.1 (stays on).0).1))
still_so nodes g memory new mark later (held q n) stays words so = so
still_so nodes g memory new mark later (counted q n c) stays words so = (so.0, (words n so.0 refl).1 ∙ so.1)
still_so nodes g memory new mark later (full q n) stays words so = so
still_so nodes g memory new mark later (linked q n x) stays words so = (so.0, λ on. (stays on).1.0 ∙ so.1 (stays on).0)
still_so nodes g memory new mark later (placed q n x) stays words so =
    (so.0, ((words n so.0 refl).0 ∙ so.1.0, λ on. (stays on).1.0 ∙ so.1.1 (stays on).0))
