-- One access of one thread, of whichever kind.
use Rattle.std.proofs.Common.{◌≡◌, ◌≢◌, ℕ, suc, ◌+◌, ◌%◌, ◌^◌, true, false, List, refl, sym, ap, subst, ◌∙◌}
use Rattle.llsc_base.specs.Memory.{value_at}
use Rattle.llsc_base.specs.declared.access.Place.{Place}
use Rattle.history.specs.ArmLegal.{MayAccess}
use Rattle.history.specs.Monitor.{Monitor}
use Rattle.history.specs.declared.entry.Entry.{Entry}
use Rattle.history.specs.declared.entry.Entry.TheVariants.{Read, Write, Fail}
use Rattle.guest_calls.specs.Run.{Pair}
use Rattle.guest_calls.proofs.OwnAccesses.{fail_by, read_by, write_by}
use Rattle.stack_runs.specs.Guest.{count_of, link_of, top}
use Rattle.stack_runs.specs.Stacks.{IsNode, first_of}
use Rattle.stack_runs.proofs.Invariant.{Setup, Stands}
use Rattle.stack_runs.proofs.Nodes.{count_at-is, first-node}
use Rattle.guest_calls.proofs.PlainAccesses.{load_by, store_by}
use Rattle.stack_runs.proofs.Protocol.{Point, Step, below, count_at, counted, full, held, idle, linked, placed, seen, waits, sees, looks, pops, pop_fails, reads, counts, looks_up, links, pushes, push_fails}
use Rattle.guest_calls.proofs.Protocols.{IsMade}
use Rattle.stack_runs.proofs.Steps.{After, Before, added, low, popped, pushed, put, quiet, so_there}

-- what the top is, where it isn't 0, is a node
top_node : (setup : Setup) (m : Monitor) (p : ℕ → Point) (stack : List ℕ) → Stands setup m p stack
    → (n : ℕ) → value_at m.memory top ≡ n → n ≢ 0 → IsNode setup.nodes n
top_node setup m p stack stands n is some =
    let at : first_of stack ≡ n = sym stands.is.first ∙ is in
    subst (IsNode setup.nodes) at (first-node setup.nodes stack stands.all (λ none. some (sym at ∙ none)))

pub one_step : (setup : Setup) (m : Monitor) (p : ℕ → Point) (stack : List ℕ) (t : ℕ) (entry : Entry) (point later : Point) (pair : Pair)
    → Before setup m p stack t point → IsMade m t entry pair → Step point pair later → After setup m p t entry later
one_step setup m p stack t entry _ _ _ before made (waits q v none) =
    let e = read_by t entry top v made.own made.access made.are in
    let may : MayAccess m (Read t top v true) = subst (MayAccess m) e made.may in
    subst (λ x. After setup m p t x (idle (suc q))) (sym e)
    (quiet setup m p stack t (idle (suc q)) before (Read t top v true) refl may refl (idle (suc q)) refl refl tt)
one_step setup m p stack t entry _ _ _ before made (sees q v some) =
    let e = read_by t entry top v made.own made.access made.are in
    let may : MayAccess m (Read t top v true) = subst (MayAccess m) e made.may in
    subst (λ x. After setup m p t x (seen q (v % 2 ^ 32))) (sym e)
    (quiet setup m p stack t (idle (suc q)) before (Read t top v true) refl may refl (seen q (v % 2 ^ 32)) refl refl
    (top_node setup m p stack before.stands (v % 2 ^ 32) (sym may.1 ∙ sym (low v may.0.fits)) some, λ on. sym may.1 ∙ sym (low v may.0.fits)))
one_step setup m p stack t entry _ _ _ before made (looks q n v) =
    let e = load_by t entry (link_of n) v made.own made.access made.are in
    let may : MayAccess m (Read t (link_of n) v false) = subst (MayAccess m) e made.may in
    let so = so_there setup m p stack t (seen q n) before in
    subst (λ x. After setup m p t x (below q n (v % 2 ^ 32))) (sym e)
    (quiet setup m p stack t (seen q n) before (Read t (link_of n) v false) refl may refl (below q n (v % 2 ^ 32)) refl refl
    (so.0, λ on. (so.1 on, sym may.1 ∙ sym (low v may.0.fits))))
one_step setup m p stack t entry _ _ _ before made (pops q n x reply done) =
    let e = write_by t entry top x reply made.own made.access made.are done in
    let may : MayAccess m (Write t top x true) = subst (MayAccess m) e made.may in
    subst (λ y. After setup m p t y (held q n)) (sym e) (popped setup m p stack t q n x before may)
one_step setup m p stack t entry _ _ _ before made (pop_fails q n x reply other) =
    let e = fail_by t entry top x reply made.own made.access made.are other in
    let may : MayAccess m (Fail t top x e.0) = subst (MayAccess m) e.1 made.may in
    subst (λ y. After setup m p t y (idle (suc q))) (sym e.1)
    (quiet setup m p stack t (below q n x) before (Fail t top x e.0) refl may refl (idle (suc q)) refl refl tt)
one_step setup m p stack t entry _ _ _ before made (reads q n v) =
    let e = load_by t entry (count_at n) v made.own made.access made.are in
    let may : MayAccess m (Read t (count_at n) v false) = subst (MayAccess m) e made.may in
    let node = so_there setup m p stack t (held q n) before in
    let at = ap (λ (place : Place). value_at m.memory place) (count_at-is setup.nodes setup.few_nodes n node) in
    subst (λ x. After setup m p t x (counted q n (v % 2 ^ 32))) (sym e)
    (quiet setup m p stack t (held q n) before (Read t (count_at n) v false) refl may refl (counted q n (v % 2 ^ 32)) refl refl
    (node, sym at ∙ sym may.1 ∙ sym (low v may.0.fits)))
one_step setup m p stack t entry _ _ _ before made (counts q n c reply) =
    let e = store_by t entry (count_at n) ((c + 1) % 2 ^ 32) reply made.own made.access made.are in
    let so = so_there setup m p stack t (counted q n c) before in
    let at = ap (λ (place : Place). Write t place ((c + 1) % 2 ^ 32) false) (count_at-is setup.nodes setup.few_nodes n so.0) in
    let may : MayAccess m (Write t (count_of n) ((c + 1) % 2 ^ 32) false) = subst (MayAccess m) (e ∙ at) made.may in
    subst (λ y. After setup m p t y (full q n)) (sym (e ∙ at)) (added setup m p stack t q n c before may)
one_step setup m p stack t entry _ _ _ before made (looks_up q n v) =
    let e = read_by t entry top v made.own made.access made.are in
    let may : MayAccess m (Read t top v true) = subst (MayAccess m) e made.may in
    let node = so_there setup m p stack t (full q n) before in
    subst (λ x. After setup m p t x (linked q n (v % 2 ^ 32))) (sym e)
    (quiet setup m p stack t (full q n) before (Read t top v true) refl may refl (linked q n (v % 2 ^ 32)) refl refl
    (node, λ on. sym may.1 ∙ sym (low v may.0.fits)))
one_step setup m p stack t entry _ _ _ before made (links q n x reply) =
    let e = store_by t entry (link_of n) x reply made.own made.access made.are in
    let may : MayAccess m (Write t (link_of n) x false) = subst (MayAccess m) e made.may in
    subst (λ y. After setup m p t y (placed q n x)) (sym e) (put setup m p stack t q n x before may)
one_step setup m p stack t entry _ _ _ before made (pushes q n x reply done) =
    let e = write_by t entry top n reply made.own made.access made.are done in
    let may : MayAccess m (Write t top n true) = subst (MayAccess m) e made.may in
    subst (λ y. After setup m p t y (idle q)) (sym e) (pushed setup m p stack t q n x before may)
one_step setup m p stack t entry _ _ _ before made (push_fails q n x reply other) =
    let e = fail_by t entry top n reply made.own made.access made.are other in
    let may : MayAccess m (Fail t top n e.0) = subst (MayAccess m) e.1 made.may in
    let so = so_there setup m p stack t (placed q n x) before in
    subst (λ y. After setup m p t y (full q n)) (sym e.1)
    (quiet setup m p stack t (placed q n x) before (Fail t top n e.0) refl may refl (full q n) refl refl so.0)
