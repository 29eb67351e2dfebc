-- Only proofs and inner contracts need these words beside those of `specs/AtWork`.
-- A worker of a pool.
use Rattle.std.specs.Prelude.{◌≡◌, ◌≤◌, ℕ, All, Bool, List, Option, vec_capacity}
use Rattle.atomic_table.specs.Seated.{TableId}
use Rattle.history.specs.declared.entry.Entry.{Entry}
use Rattle.shared_memory.specs.Origin.{Origin}
use Rattle.crossbeam_queue.specs.declared.array_queue.Doing.{Doing}
use Rattle.crossbeam_queue.specs.declared.array_queue.Slotted.{Slotted}
use Rattle.crossbeam_queue.specs.Passes.{view, IsPassOf}
use Rattle.slice_pool.specs.inner.Over.{AreNumbersOf, IsGone}
use Rattle.slice_pool.specs.inner.Hands.{IsSeated}
use Rattle.slice_pool.specs.declared.queue.Waiting.{Waiting}
use Rattle.slice_pool.specs.declared.working.Worker.{Worker}
use Rattle.slice_pool.specs.declared.turns.Gone.{Gone}
use Rattle.slice_pool.specs.declared.views.Hand.{Hand}
use Rattle.slice_pool.specs.declared.views.Key.{Key}

module _ {P : Type 0} (home : P → TableId) (numbers : P → ℕ → Bool) (seen : P → List Entry) where
  -- between two guests: what its seat holds are the guests that have ended with it, and there is room for all
  pub record IsAtWork (origin : Origin) (key : Key) (v : Hand) (done : List (Gone P)) (capacity : ℕ) : Type 0 where
    pub seated : IsSeated key v
    pub held : AreNumbersOf v.held done
    pub gone : All (IsGone home numbers seen origin key) done
    pub room : key.size.threads ≤ capacity

  -- a worker of a queue has so many parts of its rule
  pub record IsWorker {Q A : Type 0} (line : Slotted (Option (Waiting P)) (Doing (Waiting P) Hand) Q A) (origin : Origin) (key : Key) (parts : ℕ) (worker : Worker P) : Type 0 where
    pub code : worker.code.program ≡ key.program
    pub queue : IsPassOf line worker.seat
    pub parts_are : (view worker.seat).parts ≡ parts
    pub at_work : IsAtWork origin key (view worker.seat) worker.done.items (vec_capacity worker.done)
