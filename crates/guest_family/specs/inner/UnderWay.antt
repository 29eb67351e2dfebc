-- Only proofs and inner contracts need these words.
-- How a guest thread stands between two pieces of its run, on a memory on which threads start others, and how it ended.
use Rattle.std.specs.Prelude.{◌≡◌, ℕ, ◌+◌, ◌*◌, ◌<◌, ◌≤◌, ◌^◌, Bool, true, List, length}
use Rattle.std.specs.Option.{is_some}
use Rattle.atomic_table.specs.Seated.{TableId}
use Rattle.llsc_base.specs.Images.{Program}
use Rattle.history.specs.Started.{MayAct}
use Rattle.history.specs.Starts.{made_by, starts_in}
use Rattle.history.specs.declared.entry.Entry.{Entry}
use Rattle.shared_memory.specs.Origin.{Origin}
use Rattle.shared_memory.specs.Seen.{IsFront, IsSingle}
use Rattle.llsc_base.specs.declared.outside.CallAsk.{CallAsk}
use Rattle.llsc_base.specs.declared.outside.Stop.TheVariants.{TagLimit}
use Rattle.llsc_base.specs.Effects.{calls}
use Rattle.a32_step.specs.Machine.{Machine, next_effect, after_next, a32}
use Rattle.guest_core.specs.Machine.{IsCalling, between}
use Rattle.guest_calls.specs.Calls.{is_start_call}
use Rattle.guest_calls.specs.Pairs.{pairs_of}
use Rattle.guest_thread.specs.Begun.{stock_of}
use Rattle.guest_thread.specs.BegunOutcome.{IsStockEndOn}
use Rattle.guest_thread.specs.Counting.{AreCounts, accesses_counted, counts_in}
use Rattle.guest_thread.specs.StockRun.{Comes}
use Rattle.guest_thread.specs.declared.ends.GuestEnd.{GuestEnd}
use Rattle.guest_thread.specs.declared.running.Finished.{Finished}
use Rattle.guest_thread.specs.Pieces.{CountFew, counts_by}
use Rattle.guest_thread.specs.inner.Pieces.{point_of}
use Rattle.guest_thread.specs.declared.pieces.Part.{Part}

-- how a thread ended in a history, that began at a state; where it was stopped at a store, the memory counts a class's writes
pub record IsEndFrom (program : Program) (origin : Origin) (budget t : ℕ) (start : Machine) (history : List Entry) (end : GuestEnd) : Type 0 where
  pub thread : end.thread ≡ t
  pub on : IsStockEndOn a32 (stock_of origin.first origin.spare t) program origin.size budget start history end
  pub spends : (addr : ℕ) → end.stop ≡ TagLimit addr → origin.spends ≡ true
  pub few : accesses_counted (counts_in end) < 2 ^ 45

-- what a memory says of a pass: which memory made it, which numbers it holds, and what it has seen
module _ {P : Type 0} (home : P → TableId) (numbers : P → ℕ → Bool) (seen : P → List Entry) where
  -- a thread that may act is between two instructions: it came there from its start by the accesses and the starts that its pass has seen
  pub record IsPartUnderWay (mem : TableId) (origin : Origin) (program : Program) (budget t : ℕ) (start : Machine) (part : Part P Machine) : Type 0 where
    pub memory : home part.pass ≡ mem
    pub single : IsSingle t (numbers part.pass)
    pub may_act : MayAct origin.first t (seen part.pass)
    pub between : part.cpu ≡ between part.cpu.state
    pub comes : Comes a32 (stock_of origin.first origin.spare t) program budget start (pairs_of t (seen part.pass)) (starts_in t (seen part.pass)) (point_of a32 (λ m. m) part)
    pub counts : AreCounts t (seen part.pass) (counts_by part)
    pub accesses : made_by t (seen part.pass) ≤ 16 * part.steps + length part.out
    pub few : CountFew (counts_by part) part.steps part.out
    pub within : part.steps ≤ budget

  -- it has gone on to a call that starts a thread, at an address and with an argument, and has started none on its way
  pub record HasCalled (mem : TableId) (origin : Origin) (program : Program) (budget t : ℕ) (start : Machine) (old : P) (part : Part P Machine) (entry arg : ℕ) : Type 0 where
    pub memory : home part.pass ≡ mem
    pub single : IsSingle t (numbers part.pass)
    pub may_act : MayAct origin.first t (seen part.pass)
    pub front : IsFront (seen old) (seen part.pass)
    pub same : starts_in t (seen part.pass) ≡ starts_in t (seen old)
    pub counts : AreCounts t (seen part.pass) (counts_by part)
    pub accesses : made_by t (seen part.pass) ≤ 16 * (part.steps + 1) + length part.out
    pub few : CountFew (counts_by part) (part.steps + 1) part.out
    pub within : part.steps < budget
    pub calling : IsCalling part.cpu.phase
    pub stocked : is_some (stock_of origin.first origin.spare t) ≡ true
    pub machine : Machine
    pub call : CallAsk
    pub comes : Comes a32 (stock_of origin.first origin.spare t) program budget start (pairs_of t (seen part.pass)) (starts_in t (seen part.pass))
        (record { machine = machine; steps = part.steps; output = part.out })
    pub called : next_effect program machine ≡ calls call
    pub starts : is_start_call call ≡ true
    pub cpu_is : part.cpu ≡ after_next program machine
    pub entry_is : entry ≡ call.a
    pub arg_is : arg ≡ call.b

  -- it has gone on to its end, and has started none on its way
  pub record HasReachedEnd (mem : TableId) (origin : Origin) (program : Program) (budget t : ℕ) (start : Machine) (old : P) (done : Finished P) : Type 0 where
    pub memory : home done.pass ≡ mem
    pub single : IsSingle t (numbers done.pass)
    pub front : IsFront (seen old) (seen done.pass)
    pub same : starts_in t (seen done.pass) ≡ starts_in t (seen old)
    pub end : IsEndFrom program origin budget t start (seen done.pass) done.end
