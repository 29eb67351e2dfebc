-- How far a thread has come over a port, by whole instructions and by a part of one.
use Rattle.std.proofs.Common.{◌≡◌, ℕ, ◌+◌, ◌<◌, ◌≤◌, List, Option, Some, None, Bool, length, sym, subst, ap, ◌∙◌, arith}
use Rattle.llsc_base.specs.Images.{Program}
use Rattle.llsc_base.specs.declared.outside.Ask.{Ask}
use Rattle.guest_core.specs.Machine.{MachineOf, InstructionSet, AwaitsNothing}
use Rattle.guest_core.specs.Passages.{ComesOf, CompletesAtOf}
use Rattle.guest_core.specs.Ports.{Leads}
use Rattle.guest_calls.specs.Run.{Pair}
use Rattle.guest_thread.specs.Ports.{IsRunning}
use Rattle.guest_thread.specs.inner.Ports.{IsAtRest}
use Rattle.guest_thread.specs.Progress.{headway_of}
use Rattle.guest_thread.specs.ThreadState.{ThreadOf, IsReadyBy}
use Rattle.guest_thread.proofs.Carried.{after_one, after_part, leads_counted, replies_counted, running_at}
use Rattle.guest_thread.proofs.Ways.{no_way, Ways, way_on}

module _ {I S : Type 0} (set : InstructionSet I S) {P : Type 0} (replies : P → Ask → Option ℕ → P → Type 0) (counted : P → ℕ) where
  -- a thread has run from one place to another, no less far, and the port counts no more than it has made
  pub record HasRun (program : Program) (budget : ℕ) (first : ThreadOf I S) (from : P) (at : ThreadOf I S) (to : P) : Type 0 where
    pub running : IsRunning (length program.bytes) budget at
    pub counts : counted to ≤ headway_of at
    pub later : headway_of first ≤ headway_of at
    pub way : (stocked : Bool) → Ways set replies stocked program budget first from at to

  -- at its start
  pub not_run : (program : Program) (budget : ℕ) (first : ThreadOf I S) (from : P) → IsRunning (length program.bytes) budget first → counted from ≤ headway_of first
      → HasRun program budget first from first from
  not_run program budget first from running counts = record {
    running = running;
    counts = counts;
    later = omega arith;
    way = λ stocked. no_way set replies stocked program budget first from;
  }

  -- one run after another
  pub run_on : (program : Program) (budget : ℕ) (first old new : ThreadOf I S) (from at to : P) → HasRun program budget first from old at → HasRun program budget old at new to
      → HasRun program budget first from new to
  run_on program budget first old new from at to run more = record {
    running = more.running;
    counts = more.counts;
    later = omega (arith, run.later, more.later);
    way = λ stocked. way_on set replies stocked program budget first old new from at to (run.way stocked) (more.way stocked);
  }

  module _ (program : Program) (budget : ℕ) (first : ThreadOf I S) (from : P) (old new : ThreadOf I S) (at to : P) (rest : IsAtRest old) (within : old.steps < budget)
      (same : new.output ≡ old.output) (still : new.printing ≡ None) (run : HasRun program budget first from old at) (machine : MachineOf I S) (pairs : List Pair)
      (leads : Leads replies at pairs to) (comes : ComesOf set program old.cpu pairs machine) (few : length new.cpu.replies ≤ 16) where
    none_before : length old.cpu.replies ≡ 0
    none_before = ap (λ (m : MachineOf I S). length m.replies) rest.between

    short : length new.output ≡ length old.output
    short = ap (λ (o : List ℕ). length o) same

    -- an instruction was complete
    pub run_one : CompletesAtOf set program machine new.cpu → new.steps ≡ old.steps + 1 → counted to ≤ counted at + 16 → HasRun program budget first from new to
    run_one ends more counts = record {
      running = running_at set (length program.bytes) budget new still (subst (λ (m : MachineOf I S). AwaitsNothing m.phase) (sym ends.3) tt) (omega (arith, within, more)) few
          (omega (arith, run.running.bounded.output, short));
      counts = omega (arith, run.counts, counts, none_before, more, short);
      later = omega (arith, run.later, none_before, more, short);
      way = λ stocked. way_on set replies stocked program budget first old new from at to (run.way stocked)
          (after_one set replies program budget old new at to rest within same still machine pairs leads comes ends more stocked);
    }

    -- it wasn't
    pub run_part : (new.cpu ≡ machine) × AwaitsNothing machine.phase → new.steps ≡ old.steps
        → ((old : P) (ask : Ask) (reply : ℕ) (new : P) → replies old ask (Some reply) new → counted new ≤ counted old + 1)
        → ((old : P) (ask : Ask) (new : P) → replies old ask None new → counted new ≤ counted old) → HasRun program budget first from new to
    run_part ends steps one none =
        let made : counted to ≤ counted at + length pairs = leads_counted replies counted at to pairs one none leads in
        let had : length new.cpu.replies ≡ length pairs = ap (λ (m : MachineOf I S). length m.replies) ends.0 ∙ replies_counted set program old.cpu machine pairs rest.between comes in
        record {
          running = running_at set (length program.bytes) budget new still (subst (λ (m : MachineOf I S). AwaitsNothing m.phase) (sym ends.0) ends.1) (omega (arith, within, steps)) few
              (omega (arith, run.running.bounded.output, short));
          counts = omega (arith, run.counts, made, had, none_before, steps, short);
          later = omega (arith, run.later, none_before, steps, short);
          way = λ stocked. way_on set replies stocked program budget first old new from at to (run.way stocked)
              (after_part set replies program budget old new at to rest within same still machine pairs leads comes ends.0 steps stocked);
        }

-- a thread between two instructions has made no more steps than the budget
pub within_budget : {I S : Type 0} {mem budget : ℕ} (standing : ThreadOf I S) → IsRunning mem budget standing → IsAtRest standing → standing.steps ≤ budget
within_budget {mem = mem} {budget} standing running rest = (subst (IsReadyBy mem budget standing) rest.printing running.ready).1
