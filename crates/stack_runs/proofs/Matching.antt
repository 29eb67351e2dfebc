-- The point at which a thread of the stack guest stands tells what it has in its hand.
use Rattle.std.proofs.Common.{◌≡◌, ◌≢◌, ℕ, suc, ◌+◌, ◌%◌, ◌^◌, ◌==◌, true, if◌then◌else◌, sym, ap, subst, ◌∙◌, eq-eqb}
use Rattle.std.proofs.lemmas.Bool.{ne_eqb}
use Rattle.history.specs.ArmLegal.{MayAccess}
use Rattle.history.specs.Monitor.{Monitor}
use Rattle.history.specs.declared.entry.Entry.{Entry}
use Rattle.history.specs.declared.entry.Entry.TheVariants.{Read}
use Rattle.guest_calls.specs.Run.{Pair}
use Rattle.guest_calls.proofs.OwnAccesses.{fail_by, read_by, write_by}
use Rattle.stack_runs.specs.Guest.{link_of, top}
use Rattle.stack_runs.specs.Hands.{Hand, hand_after}
use Rattle.guest_calls.proofs.PlainAccesses.{load_by, store_by}
use Rattle.stack_runs.proofs.Protocol.{Point, Step, below, count_at, counted, full, held, idle, linked, owned, placed, seen, waits, sees, looks, pops, pop_fails, reads, counts, looks_up, links, pushes, push_fails}
use Rattle.guest_calls.proofs.Protocols.{IsMade}
use Rattle.stack_runs.proofs.Steps.{low}

-- a hand goes with a point
abbrev pub Match : Point → Hand → Type 0
Match (idle q) hand = hand.node ≡ 0
Match (seen q n) hand = (hand.node ≡ 0) × ((hand.read ≡ n) × (n ≢ 0))
Match (below q n x) hand = (hand.node ≡ 0) × ((hand.read ≡ n) × (n ≢ 0))
Match (held q n) hand = (hand.node ≡ n) × (n ≢ 0)
Match (counted q n c) hand = (hand.node ≡ n) × (n ≢ 0)
Match (full q n) hand = (hand.node ≡ n) × (n ≢ 0)
Match (linked q n x) hand = (hand.node ≡ n) × (n ≢ 0)
Match (placed q n x) hand = (hand.node ≡ n) × (n ≢ 0)

pub matched-owned : (point : Point) (hand : Hand) → Match point hand → owned point ≡ hand.node
matched-owned (idle q) hand is = sym is
matched-owned (seen q n) hand is = sym is.0
matched-owned (below q n x) hand is = sym is.0
matched-owned (held q n) hand is = sym is.0
matched-owned (counted q n c) hand is = sym is.0
matched-owned (full q n) hand is = sym is.0
matched-owned (linked q n x) hand is = sym is.0
matched-owned (placed q n x) hand is = sym is.0

-- what a store-exclusive that succeeds makes of it
taken : (hand : Hand) → hand.node ≡ 0 → (if hand.node == 0 then hand.read else 0) ≡ hand.read
taken hand none = ap (λ b. if b then hand.read else 0) (eq-eqb hand.node 0 none)

put_back : (hand : Hand) (n : ℕ) → hand.node ≡ n → n ≢ 0 → ◌≡◌ {A = ℕ} (if hand.node == 0 then hand.read else 0) 0
put_back hand n is some = ap (λ b. if b then hand.read else 0) (ne_eqb hand.node 0 (λ none. some (sym is ∙ none)))

-- and it goes on to do so
pub still_matched : (m : Monitor) (t : ℕ) (entry : Entry) (point later : Point) (pair : Pair) (hand : Hand) → IsMade m t entry pair
    → Step point pair later → Match point hand → Match later (hand_after hand entry)
still_matched m t entry _ _ _ hand made (waits q v none) is =
    let e = read_by t entry top v made.own made.access made.are in
    subst (λ x. Match (idle (suc q)) (hand_after hand x)) (sym e) is
still_matched m t entry _ _ _ hand made (sees q v some) is =
    let e = read_by t entry top v made.own made.access made.are in
    let may : MayAccess m (Read t top v true) = subst (MayAccess m) e made.may in
    subst (λ x. Match (seen q (v % 2 ^ 32)) (hand_after hand x)) (sym e) (is, (sym (low v may.0.fits), some))
still_matched m t entry _ _ _ hand made (looks q n v) is =
    let e = load_by t entry (link_of n) v made.own made.access made.are in
    subst (λ x. Match (below q n (v % 2 ^ 32)) (hand_after hand x)) (sym e) is
still_matched m t entry _ _ _ hand made (pops q n x reply done) is =
    let e = write_by t entry top x reply made.own made.access made.are done in
    subst (λ y. Match (held q n) (hand_after hand y)) (sym e) (taken hand is.0 ∙ is.1.0, is.1.1)
still_matched m t entry _ _ _ hand made (pop_fails q n x reply other) is =
    let e = fail_by t entry top x reply made.own made.access made.are other in
    subst (λ y. Match (idle (suc q)) (hand_after hand y)) (sym e.1) is.0
still_matched m t entry _ _ _ hand made (reads q n v) is =
    let e = load_by t entry (count_at n) v made.own made.access made.are in
    subst (λ x. Match (counted q n (v % 2 ^ 32)) (hand_after hand x)) (sym e) is
still_matched m t entry _ _ _ hand made (counts q n c reply) is =
    let e = store_by t entry (count_at n) ((c + 1) % 2 ^ 32) reply made.own made.access made.are in
    subst (λ x. Match (full q n) (hand_after hand x)) (sym e) is
still_matched m t entry _ _ _ hand made (looks_up q n v) is =
    let e = read_by t entry top v made.own made.access made.are in
    subst (λ x. Match (linked q n (v % 2 ^ 32)) (hand_after hand x)) (sym e) is
still_matched m t entry _ _ _ hand made (links q n x reply) is =
    let e = store_by t entry (link_of n) x reply made.own made.access made.are in
    subst (λ y. Match (placed q n x) (hand_after hand y)) (sym e) is
still_matched m t entry _ _ _ hand made (pushes q n x reply done) is =
    let e = write_by t entry top n reply made.own made.access made.are done in
    subst (λ y. Match (idle q) (hand_after hand y)) (sym e) (put_back hand n is.0 is.1)
still_matched m t entry _ _ _ hand made (push_fails q n x reply other) is =
    let e = fail_by t entry top n reply made.own made.access made.are other in
    subst (λ y. Match (full q n) (hand_after hand y)) (sym e.1) is
