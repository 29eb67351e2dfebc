-- What a piece of a thread's run makes of it: its end, or a call that starts another.
use Rattle.std.proofs.Common.{◌≡◌, ℕ, zero, suc, ◌≤◌, Bool, List, [], ◌++◌, nat_lt, refl, sym, subst, ap, ◌∙◌, append-nil, append_assoc, arith}
use Rattle.std.specs.Option.{is_some}
use Rattle.atomic_table.specs.Seated.{TableId}
use Rattle.llsc_base.specs.Images.{Program}
use Rattle.llsc_base.specs.Limits.{most_budget}
use Rattle.history.specs.Starts.{Started, starts_in}
use Rattle.history.specs.declared.entry.Entry.{Entry}
use Rattle.shared_memory.specs.Origin.{Origin}
use Rattle.shared_memory.specs.Seen.{IsFront}
use Rattle.a32_step.specs.Machine.{Machine, a32}
use Rattle.guest_calls.specs.Pairs.{pairs_of}
use Rattle.guest_calls.specs.Run.{Pair, PointOf, begins}
use Rattle.guest_thread.specs.Begun.{stock_of}
use Rattle.guest_thread.specs.Counting.{AreCounts, counts_in}
use Rattle.guest_thread.specs.StockRun.{Comes, piece, IsStockRun}
use Rattle.guest_thread.specs.declared.running.Finished.{Finished}
use Rattle.guest_thread.proofs.Counted.{still_counts}
use Rattle.guest_thread.proofs.FewAccesses.{counted_within}
use Rattle.guest_family.specs.inner.Next.{after_answer}
use Rattle.guest_thread.specs.Pieces.{IsPiece, counts_by}
use Rattle.guest_thread.specs.inner.Pieces.{point_of}
use Rattle.guest_family.specs.inner.UnderWay.{HasCalled, HasReachedEnd, IsPartUnderWay}
use Rattle.guest_thread.specs.declared.pieces.Part.{Part}
use Rattle.guest_thread.specs.declared.pieces.Paused.TheVariants.{Ended, Start, Pause}
use Rattle.a32_instr.specs.declared.instructions.Instr.{Instr}
use Rattle.a32_instr.specs.State.{State}

pub front_on : (first at last : List Entry) → IsFront first at → IsFront at last → IsFront first last
front_on first at last early late =
    (early.0 ++ late.0, late.1 ∙ ap (λ (l : List Entry). l ++ late.0) early.1 ∙ append_assoc first early.0 late.0)

-- a thread has a stock where some are spare
pub has_stock : (first spare t : ℕ) → nat_lt 0 spare ≡ is_some (stock_of first spare t)
has_stock first zero t = refl
has_stock first (suc spare) t = grind arith

module _ {P : Type 0} (home : P → TableId) (numbers : P → ℕ → Bool) (seen : P → List Entry) (mem : TableId) (origin : Origin) (program : Program) (budget t : ℕ)
    (start : Machine) (part : Part P Machine) (goes : IsPartUnderWay home numbers seen mem origin program budget t start part) where
  -- to its end
  pub to_end : (done : Finished P) → budget ≤ most_budget
      → IsPiece a32 (λ m. m) home numbers seen mem origin program (is_some (stock_of origin.first origin.spare t)) budget budget t part (Ended done)
      → HasReachedEnd home numbers seen mem origin program budget t start part.pass done
  to_end done small is =
      let stock = stock_of origin.first origin.spare t in
      let run : IsStockRun a32 stock program budget start (pairs_of t (seen done.pass)) (starts_in t (seen done.pass)) done.end.stop done.end.steps done.end.out =
      record {
        before = pairs_of t (seen part.pass);
        more = is.pairs;
        from = point_of a32 (λ m. m) part;
        comes = subst (λ (starts : List Started). Comes a32 stock program budget start (pairs_of t (seen part.pass)) starts (point_of a32 (λ m. m) part)) (sym is.unstarted) goes.comes;
        ends = is.comes (point_of a32 (λ m. m) part) [] begins;
        are = is.added;
      } in
      let thread = is.stands.thread in
      let counts = still_counts t (seen part.pass) (seen done.pass) (counts_by part) (counts_in done.end) is.front is.counts goes.counts in
      let made = is.accesses goes.accesses in
      let most = is.stands.most in
      let few = counted_within t (seen done.pass) done.end counts in
      record {
        memory = is.memory;
        single = is.single;
        front = is.front;
        same = is.unstarted;
        end = record {
          thread = thread;
          on = record {
            ends = subst (λ (u : ℕ). IsStockRun a32 stock program budget start (pairs_of u (seen done.pass)) (starts_in u (seen done.pass)) done.end.stop done.end.steps done.end.out) (sym thread) run;
            spent = is.stands.spent;
            counts = subst (λ (u : ℕ). AreCounts u (seen done.pass) (counts_in done.end)) (sym thread) counts;
          };
          spends = is.stands.spends;
          few = omega (arith, small, made, most, few);
        };
      }

  -- to a call
  pub to_call : (new : Part P Machine) (entry arg : ℕ)
      → IsPiece a32 (λ m. m) home numbers seen mem origin program (is_some (stock_of origin.first origin.spare t)) budget budget t part (Start new entry arg)
      → HasCalled home numbers seen mem origin program budget t start part.pass new entry arg × (part.steps ≤ new.steps)
  to_call new entry arg is =
      let stock = stock_of origin.first origin.spare t in
      let called = is.comes (point_of a32 (λ m. m) part) [] begins in
      let at : PointOf Instr State = record { machine = called.1.machine; steps = new.steps; output = new.out } in
      let comes : Comes a32 stock program budget start (pairs_of t (seen part.pass) ++ is.pairs) (starts_in t (seen part.pass)) at =
      piece (pairs_of t (seen part.pass)) is.pairs (starts_in t (seen part.pass)) (point_of a32 (λ m. m) part) at goes.comes called.1.reached in (
        record {
          memory = is.memory;
          single = is.single;
          may_act = is.may_act;
          front = is.front;
          same = is.unstarted;
          counts = still_counts t (seen part.pass) (seen new.pass) (counts_by part) (counts_by new) is.front is.counts goes.counts;
          accesses = is.accesses goes.accesses;
          few = is.stands.few;
          within = is.stands.within;
          calling = is.stands.calling;
          stocked = is.stands.asked;
          machine = called.1.machine;
          call = called.0;
          comes = subst (λ (starts : List Started). Comes a32 stock program budget start (pairs_of t (seen new.pass)) starts at) (sym is.unstarted)
              (subst (λ (pairs : List Pair). Comes a32 stock program budget start pairs (starts_in t (seen part.pass)) at) (sym is.added) comes);
          called = called.1.called;
          starts = called.1.starts;
          cpu_is = called.1.cpu_is;
          entry_is = called.2;
          arg_is = called.3;
        },
        is.stands.least,
      )

  -- it doesn't pause, since it is to go on up to its budget
  pub no_pause : (new : Part P Machine)
      → IsPiece a32 (λ m. m) home numbers seen mem origin program (is_some (stock_of origin.first origin.spare t)) budget budget t part (Pause new) → ⊥
  no_pause new is = let less = is.stands.within in omega (arith, less)

module _ {P : Type 0} (home : P → TableId) (numbers : P → ℕ → Bool) (seen : P → List Entry) where
  -- by calls that were refused a thread has gone on, and has started none
  abbrev pub HasGone : TableId → Origin → Program → (budget t : ℕ) → Machine → (first now : Part P Machine) → Type 0
  HasGone mem origin program budget t start first now =
      IsPartUnderWay home numbers seen mem origin program budget t start now × IsFront (seen first.pass) (seen now.pass)
      × (starts_in t (seen now.pass) ≡ starts_in t (seen first.pass)) × (first.steps ≤ now.steps)

  abbrev pub HasGoneOn : TableId → Origin → Program → (budget : ℕ) → (first now : Part P Machine) → Type 0
  HasGoneOn mem origin program budget first now = (t : ℕ) (start : Machine) → IsPartUnderWay home numbers seen mem origin program budget t start first
      → HasGone mem origin program budget t start first now

  pub gone_none : (mem : TableId) (origin : Origin) (program : Program) (budget : ℕ) (first : Part P Machine) → HasGoneOn mem origin program budget first first
  gone_none mem origin program budget first t start goes = (goes, ([], sym (append-nil (seen first.pass))), refl, omega arith)

  pub gone_more : (mem : TableId) (origin : Origin) (program : Program) (budget t : ℕ) (start : Machine) (first now called : Part P Machine) (entry arg value : ℕ)
      → HasGone mem origin program budget t start first now
      → HasCalled home numbers seen mem origin program budget t start now.pass called entry arg × (now.steps ≤ called.steps)
      → IsPartUnderWay home numbers seen mem origin program budget t start (after_answer called value)
      → HasGone mem origin program budget t start first (after_answer called value)
  gone_more mem origin program budget t start first now called entry arg value gone is goes =
      let before = gone.3 in
      let later = is.1 in
      (goes, front_on (seen first.pass) (seen now.pass) (seen called.pass) gone.1 is.0.front, is.0.same ∙ gone.2, omega (arith, before, later))

  -- and has come to its end from there, by a program that is the same
  pub gone_to_end : (mem : TableId) (origin : Origin) (program at : Program) (budget t : ℕ) (start : Machine) (first now : Part P Machine) (done : Finished P)
      → HasGone mem origin program budget t start first now → at ≡ program
      → (IsPartUnderWay home numbers seen mem origin at budget t start now → HasReachedEnd home numbers seen mem origin at budget t start now.pass done)
      → HasReachedEnd home numbers seen mem origin program budget t start first.pass done
  gone_to_end mem origin program at budget t start first now done gone same ends =
      let there = subst (λ (p : Program). IsPartUnderWay home numbers seen mem origin p budget t start now) (sym same) gone.0 in
      let is = subst (λ (p : Program). HasReachedEnd home numbers seen mem origin p budget t start now.pass done) same (ends there) in
      record {
        memory = is.memory;
        single = is.single;
        front = front_on (seen first.pass) (seen now.pass) (seen done.pass) gone.1 is.front;
        same = is.same ∙ gone.2;
        end = is.end;
      }

  -- or to a call
  pub gone_to_call : (mem : TableId) (origin : Origin) (program : Program) (budget t : ℕ) (start : Machine) (first now called : Part P Machine) (entry arg : ℕ)
      → IsFront (seen first.pass) (seen now.pass) → starts_in t (seen now.pass) ≡ starts_in t (seen first.pass)
      → HasCalled home numbers seen mem origin program budget t start now.pass called entry arg
      → HasCalled home numbers seen mem origin program budget t start first.pass called entry arg
  gone_to_call mem origin program budget t start first now called entry arg front same is = record {
    memory = is.memory;
    single = is.single;
    may_act = is.may_act;
    front = front_on (seen first.pass) (seen now.pass) (seen called.pass) front is.front;
    same = is.same ∙ same;
    counts = is.counts;
    accesses = is.accesses;
    few = is.few;
    within = is.within;
    calling = is.calling;
    stocked = is.stocked;
    machine = is.machine;
    call = is.call;
    comes = is.comes;
    called = is.called;
    starts = is.starts;
    cpu_is = is.cpu_is;
    entry_is = is.entry_is;
    arg_is = is.arg_is;
  }
