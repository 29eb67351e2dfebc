-- The trace of one thread: memory decides the replies to its accesses, however many they are.
use Rattle.std.proofs.Common.{◌≡◌, ℕ, List, [], ◌∷◌, ◌++◌, Some, refl, sym, ◌∙◌, ap, subst}
use Rattle.llsc_base.specs.Images.{Program}
use Rattle.llsc_base.specs.Sizes.{Numbers}
use Rattle.history.specs.Monitor.{Monitor, accessed, at_rest_by}
use Rattle.history.specs.declared.entry.Access.{Access}
use Rattle.llsc_base.specs.declared.outside.Ask.{Ask}
use Rattle.guest_calls.proofs.Decided.{AreDecided}
use Rattle.guest_calls.specs.Pairs.{pairs_in, reply_of}
use Rattle.guest_calls.specs.Run.{Pair}
use Rattle.guest_thread.specs.Accesses.{access_by, monitor_of}
use Rattle.guest_thread.proofs.Pushed.{monitor_push}
use Rattle.guest_machine.specs.Turns.{drawn, Takes, begins, makes, stops, IsTrace}
use Rattle.guest_machine.proofs.Deciding.{made, reply_to, served, by_memory, AreServed, served_decides}
use Rattle.guest_machine.proofs.OneThread.{same_turn, from_any}
use Rattle.guest_machine.proofs.Pushed.{own_push}
use Rattle.guest_core.specs.Machine.{InstructionSet}

module _ {I S : Type 0} (set : InstructionSet I S) where
  -- memory after one access more
  served_push : (m : Monitor) (pairs : List Pair) (pair : Pair) → served m (pairs ++ pair ∷ []) ≡ accessed (served m pairs) (made (served m pairs) pair.0)
  served_push m [] pair = refl
  served_push m (first ∷ pairs) pair = served_push (accessed m (made m first.0)) pairs pair

  -- one reply more of memory
  replied_push : (m : Monitor) (pairs : List Pair) (pair : Pair) → AreServed m pairs → pair.1 ≡ reply_to (served m pairs) pair.0
      → AreServed m (pairs ++ pair ∷ [])
  replied_push m [] pair all here = (here, tt)
  replied_push m (first ∷ pairs) pair all here = (all.0, replied_push (accessed m (made m first.0)) pairs pair all.1 here)

  -- the replies so far are memory's, and memory is as the accesses have left it
  record IsServedSo (program : Program) (size : Numbers) (accesses : List Access) : Type 0 where
    replies : AreServed (at_rest_by size.granule program.bytes size.threads) (pairs_in 0 accesses)
    left : served (at_rest_by size.granule program.bytes size.threads) (pairs_in 0 accesses) ≡ monitor_of program size accesses

  -- after an access of thread 0
  access_more : (program : Program) (size : Numbers) (accesses : List Access) (ask : Ask) → IsServedSo program size accesses
      → IsServedSo program size (accesses ++ access_by (monitor_of program size accesses) 0 ask ∷ [])
  access_more program size accesses ask so =
      let first : Monitor = at_rest_by size.granule program.bytes size.threads in
      let monitor : Monitor = monitor_of program size accesses in
      let access : Access = access_by monitor 0 ask in
      let pairs : List Pair = pairs_in 0 accesses in
      let pair : Pair = (ask, reply_of access) in
      let more : pairs_in 0 (accesses ++ access ∷ []) ≡ pairs ++ pair ∷ [] = own_push 0 accesses monitor ask in
      record {
        replies = subst (AreServed first) (sym more) (replied_push first pairs pair so.replies (ap (λ m. reply_to m ask) (sym so.left)));
        left = ap (served first) more
            ∙ served_push first pairs pair
            ∙ ap (λ m. accessed m (made m ask)) so.left
            ∙ sym (monitor_push program size accesses access);
      }

  -- so far
  turns_served : (program : Program) (size : Numbers) (seed budget x : ℕ) (live : List ℕ) (accesses : List Access) → size.threads ≡ 1
      → Takes set program size seed budget x live accesses → IsServedSo program size accesses
  turns_served program size seed budget _ _ _ one begins = record { replies = tt; left = refl }
  turns_served program size seed budget _ _ _ one (makes x live accesses t ask before turn asks) =
      let was = from_any set program size seed seed budget x live accesses one before in
      let first : t ≡ 0 = (same_turn (drawn x) (drawn x) t live was.alone turn).1 in
      subst (λ u. IsServedSo program size (accesses ++ access_by (monitor_of program size accesses) u ask ∷ [])) (sym first)
      (access_more program size accesses ask (turns_served program size seed budget x live accesses one before))
  turns_served program size seed budget _ _ _ one (stops x live accesses t stop steps output before turn ends) =
      turns_served program size seed budget x live accesses one before

  -- memory decides the replies of the trace of one thread
  pub trace_decided : (program : Program) (size : Numbers) (seed budget : ℕ) (accesses : List Access) → size.threads ≡ 1
      → IsTrace set program size seed budget accesses → AreDecided (by_memory size.granule program.bytes) (pairs_in 0 accesses)
  trace_decided program size seed budget accesses one trace =
      subst (λ n. AreDecided (λ front ask. Some (reply_to (served (at_rest_by size.granule program.bytes n) front) ask)) (pairs_in 0 accesses)) one
      (served_decides (at_rest_by size.granule program.bytes size.threads) (pairs_in 0 accesses)
      (turns_served program size seed budget trace.0 [] accesses one trace.1).replies)
