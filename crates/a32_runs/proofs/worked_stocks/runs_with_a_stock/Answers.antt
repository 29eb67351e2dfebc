use Rattle.std.proofs.Common.{◌≡◌, ℕ, Some, List, [], ◌∷◌, lit<, refl, subst}
use Rattle.history.specs.Starts.{Started}
use Rattle.a32_step.specs.Machine.{Machine, a32}
use Rattle.llsc_base.specs.declared.outside.Stop.TheVariants.{Budget}
use Rattle.guest_calls.specs.Run.{PointOf, begins, by_itself, first_point, spends}
use Rattle.guest_calls.specs.Worked.{call}
use Rattle.a32_runs.specs.OneWord.{calling, thread_at}
use Rattle.a32_runs.proofs.SmallRuns.{call_next, call_returned}
use Rattle.guest_thread.specs.StockRun.{Comes, Stock, begins_so, starts_one}
use Rattle.guest_thread.proofs.StockRun.{stockless_run}
use Rattle.a32_runs.proofs.worked_stocks.runs_with_a_stock.Goals as goal
use Rattle.a32_instr.specs.declared.instructions.Instr.{Instr}
use Rattle.a32_instr.specs.State.{State}

-- the thread calls, and is answered so
abbrev start : Machine
start = thread_at 0 4096 7 0 983041

abbrev answered_with : ℕ → PointOf Instr State
answered_with answer = record { machine = thread_at 4 answer 7 0 983041; steps = 1; output = [] }

abbrev one : List Started
one = record { child = 2; entry = 4096; arg = 7; place = 0 } ∷ []

-- with one number left, and with none
abbrev some_left : Stock
some_left = record { first = 2; count = 1 }

abbrev none_left : Stock
none_left = record { first = 2; count = 0 }

starts : Comes a32 (Some some_left) calling 1 start [] one (answered_with 2)
starts =
    subst (λ (m : Machine). Comes a32 (Some some_left) calling 1 start [] one (record { machine = m; steps = 1; output = [] })) (call_returned 4096 7 0 983041 2)
    (starts_one [] [] (first_point start) (call 983041 4096 7 0) some_left begins_so refl (lit< tt) (call_next 4096 7 0 983041) refl)

starts_none : Comes a32 (Some none_left) calling 1 start [] [] (answered_with 4294967285)
starts_none =
    subst (λ (m : Machine). Comes a32 (Some none_left) calling 1 start [] [] (record { machine = m; steps = 1; output = [] })) (call_returned 4096 7 0 983041 4294967285)
    (starts_one [] [] (first_point start) (call 983041 4096 7 0) none_left begins_so refl (lit< tt) (call_next 4096 7 0 983041) refl)

pub returns-clause-starts : goal.returns-clause-starts
returns-clause-starts c = starts

pub returns-clause-ends : goal.returns-clause-ends
returns-clause-ends c = record {
  before = [];
  more = [];
  from = answered_with 2;
  comes = starts;
  ends = by_itself [] Budget 1 [] (spends [] (thread_at 4 2 7 0 983041) [] begins);
  are = refl;
}

pub returns-clause-none_left : goal.returns-clause-none_left
returns-clause-none_left c = record {
  before = [];
  more = [];
  from = answered_with 4294967285;
  comes = starts_none;
  ends = by_itself [] Budget 1 [] (spends [] (thread_at 4 4294967285 7 0 983041) [] begins);
  are = refl;
}

pub returns-clause-without : goal.returns-clause-without
returns-clause-without c = λ run. let wrong : one ≡ [] = (stockless_run a32 calling 1 start [] one Budget 1 [] run).0 in let f : ⊥ = cc in f
