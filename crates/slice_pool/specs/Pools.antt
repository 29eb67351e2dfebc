-- A pool whose guests are at their start, and one whose guests have ended.
use Rattle.std.specs.Prelude.{◌≡◌, ◌<◌, ◌≤◌, ℕ, All, Bool, List, [], vec_len, vec_capacity}
use Rattle.atomic_table.specs.Seated.{TableId}
use Rattle.llsc_base.specs.Images.{Program}
use Rattle.history.specs.Parts.{entries_of}
use Rattle.history.specs.declared.entry.Entry.{Entry}
use Rattle.shared_memory.specs.Origin.{Origin}
use Rattle.shared_memory.specs.Seen.{IsSingle}
use Rattle.guest_thread.specs.Start.{thread_start}
use Rattle.crossbeam_queue.specs.Passes.{view, IsPassOf}
use Rattle.slice_pool.specs.AtWork.{IsFree}
use Rattle.slice_pool.specs.Hands.{downto, hand, no_key}
use Rattle.slice_pool.specs.Rule.{last_first}
use Rattle.slice_pool.specs.declared.pool.Pool.{Pool}
use Rattle.slice_pool.specs.declared.queue.Waiting.{Waiting}
use Rattle.a32_step.specs.Machine.{a32}

module _ {P : Type 0} (home : P → TableId) (numbers : P → ℕ → Bool) (seen : P → List Entry) where
  -- a guest is at its start, and has a pass that holds its number alone, with no access
  pub record IsFreshGuest (mem : TableId) (origin : Origin) (program : Program) (x : Waiting P) : Type 0 where
    pub memory : home x.part.pass ≡ mem
    pub single : IsSingle x.thread (numbers x.part.pass)
    pub known : x.thread < origin.size.threads
    pub none : entries_of x.thread (seen x.part.pass) ≡ []
    pub start : x.part.cpu ≡ thread_start a32 program origin.size origin.size.threads x.thread
    pub empty : x.part.out ≡ []
    pub steps : x.part.steps ≡ 0
    pub uncounted : (x.part.reads ≡ 0) × (x.part.writes ≡ 0) × (x.part.fails ≡ 0)
    pub turns : x.turns ≡ 0

  -- a pool that may be run: all threads of the memory begin by themselves, and their guests are at their start; the queue is empty,
  -- and its one seat has all parts; there are at most four workers; and there is room for every guest's end
  pub record IsReadyPool {M Story : Type 0} (mem : TableId) (origin : Origin) (program : Program) (pool : Pool M P Story) : Type 0 where
    pub begin : origin.first ≡ origin.size.threads
    pub guests : All (IsFreshGuest mem origin program) pool.guests.items
    pub numbers_are : last_first pool.guests.items [] ≡ downto origin.size.threads
    pub queue : IsPassOf pool.line pool.seat
    pub seat : view pool.seat ≡ hand 8 [] no_key
    pub desks : All (IsFree program origin.size.threads) pool.desks.items
    pub few : vec_len pool.desks ≤ 4
    pub empty : (pool.workers.items ≡ []) × (vec_len pool.workers ≡ 0)
    pub room : vec_len pool.desks ≤ vec_capacity pool.workers
    pub own : IsFree program origin.size.threads pool.own
    pub no_ends : (pool.ends.items ≡ []) × (vec_len pool.ends ≡ 0) × (pool.turns.items ≡ []) × (vec_len pool.turns ≡ 0)
    pub ends_room : (origin.size.threads ≤ vec_capacity pool.ends) × (origin.size.threads ≤ vec_capacity pool.turns)
