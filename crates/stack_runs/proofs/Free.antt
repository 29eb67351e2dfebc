-- Nothing stands against what a thread of the stack guest accesses next.
use Rattle.std.proofs.Common.{◌≡◌, ℕ, ◌+◌, ◌%◌, ◌≤◌, Bool, Option, None, List, refl, sym, subst, arith, eq-eqb}
use Rattle.llsc_base.specs.Images.{bar_of}
use Rattle.llsc_base.specs.Sizes.{Numbers}
use Rattle.elf32.proofs.Unbarred.{unbarred}
use Rattle.stack_runs.specs.Guest.{count_of, link_of, stack_image, stack_unit, top}
use Rattle.stack_runs.specs.Stacks.{IsNode}
use Rattle.stack_runs.proofs.Invariant.{IsSo}
use Rattle.stack_runs.proofs.Nodes.{count_at-is, inside}
use Rattle.stack_runs.proofs.Protocol.{Point, below, count_at, counted, full, held, idle, linked, placed, seen, wanted}

module _ (nodes rounds : ℕ) (size : Numbers) (few : nodes ≤ 64) (room : 65536 ≤ size.mem) where
  free-top : (store : Bool) → bar_of (stack_image nodes rounds size) top store ≡ None
  free-top store = unbarred (stack_unit nodes rounds) size top store refl (omega arith) (omega (arith, room))

  free-link : (n : ℕ) → IsNode nodes n → (store : Bool) → bar_of (stack_image nodes rounds size) (link_of n) store ≡ None
  free-link n node store =
      let at = node.at in
      let from = (inside nodes n node).from in
      let to = (inside nodes n node).to in
      let whole : n % 4 ≡ 0 = omega (arith, at) in
      unbarred (stack_unit nodes rounds) size (link_of n) store (eq-eqb (n % 4) 0 whole) (omega (arith, from)) (omega (arith, few, to, room))

  free-count : (n : ℕ) → IsNode nodes n → (store : Bool) → bar_of (stack_image nodes rounds size) (count_at n) store ≡ None
  free-count n node store =
      let at = node.at in
      let from = (inside nodes n node).from in
      let to = (inside nodes n node).to in
      let whole : (n + 4) % 4 ≡ 0 = omega (arith, at) in
      subst (λ place. bar_of (stack_image nodes rounds size) place store ≡ None) (sym (count_at-is nodes few n node))
      (unbarred (stack_unit nodes rounds) size (count_of n) store (eq-eqb ((n + 4) % 4) 0 whole) (omega (arith, from)) (omega (arith, few, to, room)))

  pub free : (g : ℕ) (memory : List ℕ) (mark : Option ℕ) (point : Point) → IsSo nodes g memory mark point
      → (store : Bool) → bar_of (stack_image nodes rounds size) (wanted point) store ≡ None
  free g memory mark (idle q) so = free-top
  free g memory mark (seen q n) so = free-link n so.0
  free g memory mark (below q n x) so = free-top
  free g memory mark (held q n) so = free-count n so
  free g memory mark (counted q n c) so = free-count n so.0
  free g memory mark (full q n) so = free-top
  free g memory mark (linked q n x) so = free-link n so.0
  free g memory mark (placed q n x) so = free-top
