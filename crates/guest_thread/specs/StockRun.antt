-- A run of one guest thread that has a stock of numbers for threads that it starts, or has none. This project's own.
use Rattle.std.specs.Prelude.{◌≡◌, ℕ, ◌+◌, ◌%◌, ◌<◌, ◌==◌, not, nat_lt, if◌then◌else◌, true, Option, Some, List, [], ◌∷◌, ◌++◌, length}
use Rattle.std.specs.Option.{is_some}
use Rattle.llsc_base.specs.Images.{Program}
use Rattle.history.specs.Starts.{Started}
use Rattle.llsc_base.specs.declared.outside.CallAsk.{CallAsk}
use Rattle.llsc_base.specs.declared.outside.Stop.{Stop}
use Rattle.llsc_base.specs.Effects.{calls}
use Rattle.guest_core.specs.Machine.{MachineOf, next_of, after_of, returned_of, InstructionSet}
use Rattle.guest_calls.specs.Calls.{is_start_call}
use Rattle.guest_calls.specs.Run.{Pair, first_point, ReachesBy, EndsOnFrom, PointOf}

-- a stock: so many numbers, from one up
pub record Stock : Type 0 where
  pub first : ℕ
  pub count : ℕ

-- the errors of a start, as answers: an address that no word has (minus 22), and no number left (minus 11)
abbrev pub bad_entry : ℕ
bad_entry = 0xFFFFFFEA

abbrev pub none_left : ℕ
none_left = 0xFFFFFFF5

-- what a call that starts a thread answers, where so many were started before: the first rule that fits
abbrev pub start_answer : Stock → (started : ℕ) → CallAsk → ℕ
start_answer stock started call =
    if not (call.a % 4 == 0) then bad_entry else
    if nat_lt started stock.count then stock.first + started else none_left

-- the threads that a thread has started, after such a call behind so many of its accesses
abbrev pub starts_after : Stock → (place : ℕ) → List Started → CallAsk → List Started
starts_after stock place starts call =
    if not (call.a % 4 == 0) then starts else
    if nat_lt (length starts) stock.count
    then starts ++ record { child = stock.first + length starts; entry = call.a; arg = call.b; place = place } ∷ [] else starts

module _ {I S : Type 0} (set : InstructionSet I S) where
  -- how far a run has come behind a call that starts a thread, which is answered and is a step
  abbrev pub start_point : Program → Stock → List Started → CallAsk → PointOf I S → PointOf I S
  start_point program stock starts call from = record {
    machine = returned_of set (after_of set program from.machine) (start_answer stock (length starts) (set.call_of call));
    steps = from.steps + 1;
    output = from.output;
  }

  -- With a stock, or with none, a thread comes from its start to a point, with these accesses and replies and these threads started:
  -- by pieces, in which it starts none, and by calls that start one, each a step.
  pub data Comes (stock : Option Stock) (program : Program) (budget : ℕ) (start : MachineOf I S) : List Pair → List Started → PointOf I S → Type 0 where
    begins_so : Comes stock program budget start [] [] (first_point start)
    piece : (pairs more : List Pair) (starts : List Started) (from to : PointOf I S)
        → Comes stock program budget start pairs starts from
        → ReachesBy set (is_some stock) program budget from more to.machine to.steps to.output
        → Comes stock program budget start (pairs ++ more) starts to
    starts_one : (pairs : List Pair) (starts : List Started) (from : PointOf I S) (call : CallAsk) (numbers : Stock)
        → Comes stock program budget start pairs starts from
        → stock ≡ Some numbers
        → from.steps < budget
        → next_of set program from.machine ≡ calls call
        → is_start_call (set.call_of call) ≡ true
        → Comes stock program budget start pairs (starts_after numbers (length pairs) starts (set.call_of call)) (start_point program numbers starts call from)

  -- a run: it comes to a point, and ends from there without a start
  pub record IsStockRun (stock : Option Stock) (program : Program) (budget : ℕ) (start : MachineOf I S) (pairs : List Pair) (starts : List Started) (stop : Stop) (steps : ℕ) (output : List ℕ) : Type 0 where
    pub before : List Pair
    pub more : List Pair
    pub from : PointOf I S
    pub comes : Comes stock program budget start before starts from
    pub ends : EndsOnFrom set (is_some stock) program budget from more stop steps output
    pub are : pairs ≡ before ++ more
