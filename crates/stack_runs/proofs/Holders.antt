-- Who accesses what: the point at which a thread stands tells what its next access may be of.
use Rattle.std.proofs.Common.{◌≡◌, ◌⊎◌, ℕ, ◌+◌, ◌<◌, ◌≤◌, Bool, true, false, Option, List, ◌∷◌, ◌++◌, refl, ap, subst, inl, inr, arith}
use Rattle.llsc_base.specs.Sizes.{Numbers}
use Rattle.llsc_base.specs.declared.access.Place.{Place}
use Rattle.llsc_base.specs.declared.outside.Ask.{Ask}
use Rattle.llsc_base.specs.declared.outside.Ask.TheVariants.{Clear, Load, LoadEx, Store, StoreEx}
use Rattle.history.specs.ArmLegal.{IsArmLegal}
use Rattle.history.specs.Entry.{is_access, thread_of}
use Rattle.history.specs.Monitor.{marked_row, monitor_after}
use Rattle.history.specs.Parts.{accesses_of}
use Rattle.history.specs.declared.entry.Entry.{Entry}
use Rattle.history.specs.declared.entry.Entry.TheVariants.{Read, Write}
use Rattle.guest_calls.specs.Pairs.{pair_of}
use Rattle.guest_calls.specs.Run.{Pair}
use Rattle.guest_calls.proofs.Protocols.{next_step}
use Rattle.guest_thread.specs.Outcome.{IsOutcome}
use Rattle.guest_thread.specs.declared.ends.GuestEnd.{GuestEnd}
use Rattle.a32_step.specs.Machine.{a32}
use Rattle.a32_guests.proofs.ThreadRuns.{stops_of}
use Rattle.stack_runs.specs.Guest.{AreInRange, count_of, link_of, node_at, stack_image, top}
use Rattle.stack_runs.specs.Hands.{IsInHand, hand_of}
use Rattle.stack_runs.specs.Stacks.{IsNode}
use Rattle.stack_runs.proofs.EachPoint.{Ending, StandsBehind}
use Rattle.stack_runs.proofs.Invariant.{IsSo, setup_of, start_of}
use Rattle.stack_runs.proofs.Matching.{matched-owned}
use Rattle.stack_runs.proofs.Nodes.{count_at-is}
use Rattle.stack_runs.proofs.Outcomes.{keeps, stands_behind}
use Rattle.stack_runs.proofs.Protocol.{Point, Step, owned, waits, sees, looks, pops, pop_fails, reads, counts, looks_up, links, pushes, push_fails}

-- A thread that has this node in hand asks: exclusively for the top, for stores to words of the node, and for loads of its count, or of
-- the link of any node.
abbrev MayAsk : (nodes own : ℕ) → Ask → Type 0
MayAsk nodes own (LoadEx place) = place ≡ top
MayAsk nodes own (StoreEx place value) = place ≡ top
MayAsk nodes own (Store place value) = IsNode nodes own × ((place ≡ link_of own) ⊎ (place ≡ count_of own))
MayAsk nodes own (Load place) = (node : ℕ) × (IsNode nodes node × ((place ≡ link_of node) ⊎ ((place ≡ count_of node) × (own ≡ node))))
MayAsk nodes own Clear = Unit {0}

may_ask : (nodes : ℕ) → nodes ≤ 64 → (g : ℕ) (memory : List ℕ) (mark : Option ℕ) (point later : Point) (pair : Pair)
    → IsSo nodes g memory mark point → Step point pair later → MayAsk nodes (owned point) pair.0
may_ask nodes few g memory mark _ _ _ so (waits q v none) = refl
may_ask nodes few g memory mark _ _ _ so (sees q v some) = refl
may_ask nodes few g memory mark _ _ _ so (looks q n v) = (n, (so.0, inl refl))
may_ask nodes few g memory mark _ _ _ so (pops q n x reply done) = refl
may_ask nodes few g memory mark _ _ _ so (pop_fails q n x reply other) = refl
may_ask nodes few g memory mark _ _ _ so (reads q n v) = (n, (so, inr (count_at-is nodes few n so, refl)))
may_ask nodes few g memory mark _ _ _ so (counts q n c reply) = (so.0, inr (count_at-is nodes few n so.0))
may_ask nodes few g memory mark _ _ _ so (looks_up q n v) = refl
may_ask nodes few g memory mark _ _ _ so (links q n x reply) = (so.0, inl refl)
may_ask nodes few g memory mark _ _ _ so (pushes q n x reply done) = refl
may_ask nodes few g memory mark _ _ _ so (push_fails q n x reply other) = refl

module _ (nodes rounds budget : ℕ) (size : Numbers) (history : List Entry) (ends : List GuestEnd) (range : AreInRange nodes rounds size)
    (outcome : IsOutcome a32 (stack_image nodes rounds size) size budget history ends) (front back : List Entry) where
  -- so does the thread that makes the next access of a history
  next_ask : (entry : Entry) → is_access entry ≡ true → accesses_of history ≡ front ++ (entry ∷ back)
      → MayAsk nodes (hand_of (thread_of entry) front).node (pair_of entry).0
  next_ask entry access are =
      let start = start_of nodes rounds size in
      let t = thread_of entry in
      let m = monitor_after start front in
      let at = stands_behind nodes rounds budget size history ends range outcome front (entry ∷ back) are in
      let next = next_step Point Step (Ending (stack_image nodes rounds size) (stops_of ends)) start size.threads
      (StandsBehind (setup_of nodes rounds size range) start) (keeps nodes rounds size range ends) front at.points entry back access
      (subst (IsArmLegal start) are outcome.legal.accesses) at.go in
      subst (λ (own : ℕ). MayAsk nodes own (pair_of entry).0) (matched-owned (at.points t) (hand_of t front) (at.holds.hands t next.member))
      (may_ask nodes range.few_nodes m.granule m.memory (marked_row m t) (at.points t) next.first.later (pair_of entry)
      (at.holds.stands.each t next.member) next.first.step)

  pub exclusives_to_top : (t value : ℕ) (place : Place) → accesses_of history ≡ front ++ (Write t place value true ∷ back) → place ≡ top
  exclusives_to_top t value place are = next_ask (Write t place value true) refl are

  pub stores_in_hand : (t value : ℕ) (place : Place) → accesses_of history ≡ front ++ (Write t place value false ∷ back)
      → IsInHand nodes (hand_of t front) place
  stores_in_hand t value place are =
      let asked = next_ask (Write t place value false) refl are in
      record { node = asked.0; at = asked.1 }

  pub loads_in_hand : (index t value : ℕ) (exclusive : Bool) → index < nodes
      → accesses_of history ≡ front ++ (Read t (count_of (node_at index)) value exclusive ∷ back) → (hand_of t front).node ≡ node_at index
  loads_in_hand index t value true known are =
      let asked = next_ask (Read t (count_of (node_at index)) value true) refl are in
      let addr : node_at index + 4 ≡ 8192 = ap (λ (place : Place). place.addr) asked in
      absurd (omega (arith, addr))
  loads_in_hand index t value false known are =
      let asked = next_ask (Read t (count_of (node_at index)) value false) refl are in
      let at = asked.1.0.at in
      elim asked.1.1 [
        | inl link ↦
            let addr : node_at index + 4 ≡ asked.0 = ap (λ (place : Place). place.addr) link in
            absurd (omega (arith, addr, at))
        | inr count ↦
            let addr : node_at index + 4 ≡ asked.0 + 4 = ap (λ (place : Place). place.addr) count.0 in
            let own = count.1 in
            omega (arith, addr, own)
      ]
