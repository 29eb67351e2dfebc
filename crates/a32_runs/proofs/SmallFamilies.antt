-- A history of one start, and what the two threads in it come to.
use Rattle.std.proofs.Common.{◌≡◌, ◌==◌, ℕ, zero, suc, true, false, List, [], ◌∷◌, refl, lit<, arith}
use Rattle.std.proofs.lemmas.List.Elements.{All-cons, All-nil}
use Rattle.history.specs.Cause.{HasCause}
use Rattle.history.specs.Operation.{AreFinished, AreOperations, start}
use Rattle.history.specs.Parts.{entries_of}
use Rattle.history.specs.Started.{MayStand}
use Rattle.history.specs.declared.entry.Entry.{Entry}
use Rattle.history.specs.declared.entry.Entry.TheVariants.{Start}
use Rattle.history.proofs.Cuts.{each-more, each-none}
use Rattle.llsc_base.specs.Sizes.{Numbers}
use Rattle.llsc_base.specs.declared.outside.Stop.TheVariants.{Budget, Exit}
use Rattle.guest_calls.specs.Run.{by_itself, first_point}
use Rattle.guest_thread.specs.Begun.{by_itself as of_the_first, by_start, child_start}
use Rattle.guest_thread.specs.BegunOutcome.{IsBegunEnd, IsOutcomeFrom}
use Rattle.guest_thread.specs.Start.{thread_start}
use Rattle.guest_thread.specs.StockRun.{begins_so}
use Rattle.guest_thread.specs.Worked.{end_of, machine_of}
use Rattle.guest_thread.specs.declared.ends.GuestEnd.{GuestEnd}
use Rattle.a32_step.specs.Machine.{a32}
use Rattle.a32_runs.specs.Leaving.{leaving, starting}
use Rattle.a32_runs.proofs.LeavingRuns.{left_by}
use Rattle.a32_runs.proofs.StartingRuns.{start_spent}

-- two threads, the second of which is started
abbrev size : Numbers
size = machine_of 2 1 1

-- ---- the thread that starts none

leaving_end : IsBegunEnd a32 leaving size 1 1 2 [] (end_of 0 (Exit 0) 2 0 0 0)
leaving_end = record {
  start = thread_start a32 leaving size 1 0;
  begins = of_the_first (lit< tt);
  ends = record {
    ends = record {
      before = [];
      more = [];
      from = first_point (thread_start a32 leaving size 1 0);
      comes = begins_so;
      ends = by_itself [] (Exit 0) 2 [] (left_by true size 1 0);
      are = refl;
    };
    spent = λ addr same. absurd cc;
    counts = record { reads = refl; writes = refl; fails = refl };
  };
}

pub of_one : IsOutcomeFrom a32 leaving size 1 1 2 [] (end_of 0 (Exit 0) 2 0 0 0 ∷ [])
of_one = record {
  legal = record {
    accesses = tt;
    operations = λ thread. record { missing = []; finished = record { operations = []; are = refl } };
    causes = each-none (HasCause size);
  };
  complete = λ thread. record { operations = []; are = refl };
  born = each-none (MayStand 1 1);
  ends = record { threads = refl; each = let is = IsBegunEnd a32 leaving size 1 1 2 [] in All-cons is (end_of 0 (Exit 0) 2 0 0 0) [] leaving_end (All-nil is) };
}

-- ---- the thread that starts another

abbrev history : List Entry
history = Start 0 1 0 1 ∷ []

finished : (thread : ℕ) → AreFinished thread (entries_of thread history)
finished zero = record { operations = start 1 0 1 ∷ []; are = refl }
finished (suc thread) =
    let another : (0 == suc thread) ≡ false = grind arith in
    record { operations = []; are = rw another refl }

operations : (thread : ℕ) → AreOperations thread (entries_of thread history)
operations zero = record { missing = []; finished = record { operations = start 1 0 1 ∷ []; are = refl } }
operations (suc thread) =
    let another : (0 == suc thread) ≡ false = grind arith in
    record { missing = []; finished = record { operations = []; are = rw another refl } }

starter_end : IsBegunEnd a32 starting size 1 1 3 history (end_of 0 Budget 3 0 0 0)
starter_end = record {
  start = thread_start a32 starting size 1 0;
  begins = of_the_first (lit< tt);
  ends = record {
    ends = start_spent (record { first = 1; count = 1 }) 0 1 61440;
    spent = λ addr same. absurd cc;
    counts = record { reads = refl; writes = refl; fails = refl };
  };
}

started_end : IsBegunEnd a32 starting size 1 1 3 history (end_of 1 Budget 3 0 0 0)
started_end = record {
  start = child_start a32 size 1 0 1;
  begins = by_start 0 0 1 (0, lit< tt, refl);
  ends = record {
    ends = start_spent (record { first = 0; count = 0 }) 1 1 65536;
    spent = λ addr same. absurd cc;
    counts = record { reads = refl; writes = refl; fails = refl };
  };
}

abbrev starter : GuestEnd
starter = end_of 0 Budget 3 0 0 0

abbrev started : GuestEnd
started = end_of 1 Budget 3 0 0 0

pub of_two : IsOutcomeFrom a32 starting size 1 1 3 history (starter ∷ started ∷ [])
of_two = record {
  legal = record {
    accesses = tt;
    operations = operations;
    causes = each-more (HasCause size) [] (Start 0 1 0 1) (each-none (HasCause size)) tt;
  };
  complete = finished;
  born = each-more (MayStand 1 1) [] (Start 0 1 0 1) (each-none (MayStand 1 1)) (lit< tt, lit< tt, refl);
  ends = record {
    threads = refl;
    each = let is = IsBegunEnd a32 starting size 1 1 3 history in All-cons is starter (started ∷ []) starter_end (All-cons is started [] started_end (All-nil is));
  };
}
