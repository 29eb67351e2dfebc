-- At every point of a history whose threads go by the protocol of the stack guest, and at its end.
use Rattle.std.proofs.Common.{◌≡◌, ◌≢◌, ◌⊎◌, Option, Some, None, ℕ, zero, suc, ◌<◌, ◌==◌, Bool, if◌then◌else◌, List, [], ◌∷◌, ◌++◌, length, refl, sym, ap, subst, ◌∙◌, arith, inl, inr, append-nil}
use Rattle.std.proofs.lemmas.Bool.{cases_eq}
use Rattle.llsc_base.specs.Images.{Program, bar_of}
use Rattle.llsc_base.specs.declared.outside.Stop.{Stop}
use Rattle.llsc_base.specs.declared.outside.Stop.TheVariants.{Exit}
use Rattle.history.specs.Entry.{thread_of}
use Rattle.history.specs.Monitor.{Monitor, marked_row, monitor_after}
use Rattle.history.specs.Parts.{entries_of}
use Rattle.history.specs.Standing.{updated}
use Rattle.history.specs.declared.entry.Entry.{Entry}
use Rattle.history.proofs.Appends.{entries_of-append, monitor_after-push}
use Rattle.history.proofs.Held.{other_entry, own_entry}
use Rattle.history.proofs.Marks.{updated-other, updated-same}
use Rattle.history.proofs.SumsBelow.{sum_below, sum_below-none}
use Rattle.a32_guests.specs.Cuts.{MayCut}
use Rattle.a32_guests.proofs.Onward.{never_barred, never_cut}
use Rattle.stack_runs.specs.Guest.{node_at}
use Rattle.stack_runs.specs.Hands.{EachIsSomewhere, Hand, empty_hand, hand_after, hand_behind, hand_of, hands_with}
use Rattle.stack_runs.specs.Stacks.{HoldsEachOnce, IsNode, counts_below}
use Rattle.stack_runs.proofs.Invariant.{IsSo, Setup, Stands}
use Rattle.stack_runs.proofs.Matching.{Match, matched-owned, still_matched}
use Rattle.stack_runs.proofs.OneStep.{one_step}
use Rattle.stack_runs.proofs.Protocol.{MayEnd, Point, Step, at_bar, cut, holds, idle, left as to_add, over, owned, wanted}
use Rattle.guest_calls.proofs.Protocols.{IsAt, IsKept, at_end}
use Rattle.stack_runs.proofs.Steps.{holds-none}

-- ---- hands

hand_behind-append : (hand : Hand) (front back : List Entry) → hand_behind hand (front ++ back) ≡ hand_behind (hand_behind hand front) back
hand_behind-append hand [] back = refl
hand_behind-append hand (entry ∷ front) back = hand_behind-append (hand_after hand entry) front back

-- a thread's hand after one more access, of its own and of another
hand_of-own : (t : ℕ) (entry : Entry) (front : List Entry) → thread_of entry ≡ t → hand_of t (front ++ entry ∷ []) ≡ hand_after (hand_of t front) entry
hand_of-own t entry front own =
    ap (hand_behind empty_hand) (entries_of-append t front (entry ∷ []) ∙ ap (λ l. entries_of t front ++ l) (own_entry t entry [] own))
    ∙ hand_behind-append empty_hand (entries_of t front) (entry ∷ [])

hand_of-other : (t : ℕ) (entry : Entry) (front : List Entry) → thread_of entry ≢ t → hand_of t (front ++ entry ∷ []) ≡ hand_of t front
hand_of-other t entry front other =
    ap (hand_behind empty_hand)
    (entries_of-append t front (entry ∷ []) ∙ ap (λ l. entries_of t front ++ l) (other_entry t entry [] other) ∙ append-nil (entries_of t front))

-- ---- each point

-- how things stand behind these accesses
pub record StandsBehind (setup : Setup) (start : Monitor) (front : List Entry) (p : ℕ → Point) : Type 0 where
  pub stack : List ℕ
  pub stands : Stands setup (monitor_after start front) p stack
  pub hands : (t : ℕ) → t < setup.threads → Match (p t) (hand_of t front)

-- where all threads have left
pub record Ended (setup : Setup) (memory : List ℕ) : Type 0 where
  pub holds_each : HoldsEachOnce setup.nodes memory
  pub sum : counts_below memory setup.nodes ≡ setup.total

hands-sum : (node : ℕ) (accesses : List Entry) (points : ℕ → Point) (threads : ℕ)
    → ((t : ℕ) → t < threads → owned (points t) ≡ (hand_of t accesses).node)
    → hands_with node accesses threads ≡ sum_below (λ t. holds node (points t)) threads
hands-sum node accesses points zero same = refl
hands-sum node accesses points (suc t) same =
    let rest = hands-sum node accesses points t (λ u low. same u (omega (arith, low))) in
    let last : holds node (points t) ≡ (if (hand_of t accesses).node == node then 1 else 0) =
    ap (λ (n : ℕ). if n == node then 1 else 0) (same t (omega arith)) in
    omega (arith, rest, last)

-- a thread that leaves with code 0 has made all its rounds
has_left : (program : Program) (stop : Stop) (point : Point) → MayEnd program stop point → stop ≡ Exit 0 → point ≡ idle 0
has_left program stop _ (over left) is = refl
has_left program stop _ (cut point may) is = absurd (never_cut stop 0 may is)
has_left program stop _ (at_bar point store bar against stopped) is = absurd (never_barred bar (wanted point).addr stop 0 stopped is)

-- a thread that is at no bar has left, or was cut off
ends_well : (program : Program) (stop : Stop) (point : Point) → MayEnd program stop point
    → ((store : Bool) → bar_of program (wanted point) store ≡ None) → (stop ≡ Exit 0) ⊎ MayCut stop
ends_well program stop _ (over left) free = inl left
ends_well program stop _ (cut point may) free = inr may
ends_well program stop _ (at_bar point store bar against stopped) free =
    absurd (let wrong : None ≡ Some bar = sym (free store) ∙ against in let f : ⊥ = cc in f)

-- where each thread of this program may end, with these stops
abbrev pub Ending : Program → (ℕ → Stop) → ℕ → Point → Type 0
Ending program stops t = MayEnd program (stops t)

module _ (setup : Setup) (program : Program) (stops : ℕ → Stop) (start : Monitor) where
  -- Each access keeps how things stand.
  pub each_keeps : length start.marks ≡ setup.threads → IsKept Point Step (Ending program stops) start setup.threads (StandsBehind setup start)
  each_keeps many = record {
    many = many;
    kept = λ front p t entry pair later before member made step.
        let more = front ++ entry ∷ [] in
        let after = one_step setup (monitor_after start front) p before.stack t entry (p t) later pair
        (record { stands = before.stands; member = member; at = refl }) made step in
        let mine = still_matched (monitor_after start front) t entry (p t) later pair (hand_of t front) made step (before.hands t member) in
        record {
          stack = after.0;
          stands = subst (λ n. Stands setup n (updated p t later) after.0) (sym (monitor_after-push start front entry)) after.1;
          hands = λ u low. elim (cases_eq u t) [
            | inl same ↦
                subst (λ (k : ℕ). Match (updated p t later k) (hand_of k more)) (sym same)
                (subst (λ point. Match point (hand_of t more)) (sym (updated-same p t later))
                (subst (Match later) (sym (hand_of-own t entry front made.own)) mine))
            | inr other ↦
                subst (λ point. Match point (hand_of u more)) (sym (updated-other p t later u other))
                (subst (Match (p u)) (sym (hand_of-other u entry front (λ e. other (sym e ∙ made.own)))) (before.hands u low))
          ];
        };
  }

  -- how things stand at a point of the history
  abbrev pub Stood : (front back : List Entry) → Type 0
  Stood = IsAt Point Step (Ending program stops) start setup.threads (StandsBehind setup start)

  pub somewhere : (front back : List Entry) → Stood front back → EachIsSomewhere setup.nodes setup.threads (monitor_after start front).memory front
  somewhere front back stood = record {
    addresses = behind.stack;
    stack = behind.stands.is;
    all = behind.stands.all;
    once = λ index known.
        let once = behind.stands.once (node_at index) (record { index = index; known = known; at = refl }) in
        let sum = hands-sum (node_at index) front stood.points setup.threads (λ t low. matched-owned (stood.points t) (hand_of t front) (behind.hands t low)) in
        omega (arith, once, sum);
  }
    where
      behind : StandsBehind setup start front stood.points
      behind = stood.holds

  -- ---- the end

  -- each thread may end where it stands there
  may_end : (front : List Entry) (stood : Stood front []) (t : ℕ) → t < setup.threads → MayEnd program (stops t) (stood.points t)
  may_end front stood t low = at_end Point Step (Ending program stops t) (stood.points t) [] (stood.go t low) refl

  pub ended : (front : List Entry) → Stood front [] → ((t : ℕ) → t < setup.threads → stops t ≡ Exit 0) → Ended setup (monitor_after start front).memory
  ended front stood left = record {
    holds_each = record {
      addresses = behind.stack;
      stack = behind.stands.is;
      all = behind.stands.all;
      once = λ index known.
          let node : IsNode setup.nodes (node_at index) = record { index = index; known = known; at = refl } in
          let once = behind.stands.once (node_at index) node in
          let none = sum_below-none (λ t. holds (node_at index) (stood.points t)) setup.threads
          (λ t low. ap (holds (node_at index)) (done t low) ∙ holds-none setup.nodes (node_at index) (idle 0) node refl) in
          omega (arith, once, none);
    };
    sum =
        let sum = behind.stands.sum in
        let none = sum_below-none (λ t. to_add (stood.points t)) setup.threads (λ t low. ap to_add (done t low)) in
        omega (arith, sum, none);
  }
    where
      behind : StandsBehind setup start front stood.points
      behind = stood.holds

      done : (t : ℕ) → t < setup.threads → stood.points t ≡ idle 0
      done t low = has_left program (stops t) (stood.points t) (may_end front stood t low) (left t low)

  -- No thread was stopped at a bar, where what each accesses next may be accessed.
  pub ended_well : (front : List Entry) → Stood front []
      → ((g : ℕ) (memory : List ℕ) (mark : Option ℕ) (point : Point) → IsSo setup.nodes g memory mark point → (store : Bool) → bar_of program (wanted point) store ≡ None)
      → (t : ℕ) → t < setup.threads → (stops t ≡ Exit 0) ⊎ MayCut (stops t)
  ended_well front stood free t member =
      let m = monitor_after start front in
      ends_well program (stops t) (stood.points t) (may_end front stood t member)
      (free m.granule m.memory (marked_row m t) (stood.points t) (behind.stands.each t member))
    where
      behind : StandsBehind setup start front stood.points
      behind = stood.holds
