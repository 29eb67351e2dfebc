-- An access that is made as it is asked brings its thread and memory on.
use Rattle.std.proofs.Common.{◌≡◌, ℕ, true, List, [], ◌∷◌, ◌++◌, sym, ap, subst, ◌∙◌}
use Rattle.llsc_base.specs.Images.{Program}
use Rattle.llsc_base.specs.Sizes.{Numbers}
use Rattle.history.specs.Monitor.{Monitor, accessed}
use Rattle.history.specs.declared.entry.Access.{Access}
use Rattle.llsc_base.specs.declared.outside.Ask.{Ask}
use Rattle.guest_core.specs.Machine.{MachineOf, InstructionSet}
use Rattle.guest_calls.specs.Run.{Pair}
use Rattle.guest_calls.specs.Pairs.{pair_of, pairs_in}
use Rattle.history.specs.Accesses.{entry_of}
use Rattle.guest_thread.specs.ThreadState.{ThreadStateOf, thread_in}
use Rattle.guest_thread.specs.Start.{thread_start}
use Rattle.guest_thread.specs.Under.{HasCome, Awaits}
use Rattle.guest_thread.specs.Accesses.{monitor_of}
use Rattle.run_checker.specs.Verdict.{is_asked, AsksNext, HasWrongValue, LacksMark}
use Rattle.run_checker.specs.Sighted.{held_at}
use Rattle.run_checker.specs.declared.sightings.Sighting.{Sighting}
use Rattle.run_checker.specs.inner.Serving.{IsMadeAsRecorded}
use Rattle.run_checker.specs.inner.Positions.{BringsOn}
use Rattle.run_checker.proofs.AskedPairs.{asked_pair}
use Rattle.guest_thread.proofs.Pushed.{own_push, monitor_push}

module _ {I S : Type 0} (set : InstructionSet I S) {C : Type 0} (machine : C → MachineOf I S) where
  pub brings_on : (program : Program) (size : Numbers) (budget : ℕ) (early : List Access) (access : Access) (sighting : Sighting) (asked : Ask) (reply : ℕ) (waits goes : ThreadStateOf C) (memory after : Monitor)
      → AsksNext set program size budget early access.thread asked
      → Awaits set program budget (thread_start set program size size.threads access.thread) (pairs_in access.thread early) asked (thread_in machine waits)
      → is_asked asked access ≡ true
      → sighting.pc ≡ set.pc_of (thread_in machine waits).cpu.state → sighting.steps ≡ waits.steps → sighting.held ≡ held_at memory access
      → memory ≡ monitor_of program size early → IsMadeAsRecorded memory access after
      → reply ≡ (pair_of (entry_of access)).1
      → ((p : Program) (b : ℕ) (start : MachineOf I S) (pairs : List Pair) (ask : Ask) → Awaits set p b start pairs ask (thread_in machine waits) → HasCome set p b start (pairs ++ (ask, reply) ∷ []) (thread_in machine goes))
      → BringsOn set machine program size budget early access sighting goes after
  brings_on program size budget early access sighting asked reply waits goes memory after next awaits as_asked pc steps held was served replied given = record {
    right = record {
      ask = asked;
      next = next;
      asked = as_asked;
      value = λ has. served.value (subst (λ m. HasWrongValue m access) (sym was) has);
      reserved = λ lacks. served.reserved (subst (λ m. LacksMark m access) (sym was) lacks);
    };
    sighted = record {
      ask = asked;
      standing = thread_in machine waits;
      awaits = awaits;
      pc = pc;
      steps = steps;
      held = held ∙ ap (λ m. held_at m access) was;
    };
    brought =
        let start = thread_start set program size size.threads access.thread in
        let pairs = pairs_in access.thread early in
        let pair : (asked, reply) ≡ pair_of (entry_of access) = ap (λ r. (asked, r)) replied ∙ sym (asked_pair asked access as_asked) in
        subst (λ ps. HasCome set program budget start ps (thread_in machine goes)) (ap (λ p. pairs ++ p ∷ []) pair ∙ sym (own_push early access)) (given program budget start pairs asked awaits);
    left = served.moved ∙ ap (λ m. accessed m (entry_of access)) was ∙ sym (monitor_push program size early access);
  }
