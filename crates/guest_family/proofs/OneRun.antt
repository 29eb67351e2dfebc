-- A run with a stock has one end, and starts the same threads, by its accesses and replies.
use Rattle.std.proofs.Common.{◌≡◌, inl, inr, ℕ, zero, suc, ◌+◌, ◌<◌, ◌≤◌, ◌&&◌, ◌==◌, eqb-true, Bool, true, false, nat_lt, if◌then◌else◌, Option, Some, None, List, [], ◌∷◌, ◌++◌, length, refl, sym, subst, ap, ◌∙◌, append-nil, append_assoc, arith}
use Rattle.std.specs.Option.{is_some, option_map}
use Rattle.std.proofs.lemmas.Bool.{and_parts, cases_Bool, lt-ltb, le-ltb}
use Rattle.llsc_base.specs.Images.{Program}
use Rattle.history.specs.Starts.{Started}
use Rattle.llsc_base.specs.declared.outside.Ask.{Ask}
use Rattle.llsc_base.specs.declared.outside.Ask.TheVariants.{Store}
use Rattle.llsc_base.specs.declared.outside.CallAsk.{CallAsk}
use Rattle.llsc_base.specs.declared.outside.Stop.{Stop}
use Rattle.llsc_base.specs.declared.outside.Stop.TheVariants.{Exit, Budget, TagLimit}
use Rattle.a32_instr.specs.State.{Effect, State}
use Rattle.llsc_base.specs.Effects.{asks, calls, completes, stops}
use Rattle.a32_step.specs.Machine.{Machine, next_effect, after_next, a32}
use Rattle.guest_core.specs.Machine.{given, returned_of}
use Rattle.guest_calls.specs.Calls.{CallEffect, exits, answers, writes_bytes, call_effect, is_start_call, no_call}
use Rattle.guest_calls.specs.Run.{Pair, PointOf, first_point, byte_load, byte_loads, begins, accesses, steps_on, returns, prints, halts, leaves, spends, by_itself, by_limit, EndsOnFrom, effect_of_call, ReachesBy}
use Rattle.guest_calls.proofs.Decided.{AreDecided, Replies, bytes_by, decided_front, first_found, loads_on}
use Rattle.guest_calls.proofs.Listed.{list_decides, list_ends, reply_after}
use Rattle.guest_thread.specs.StockRun.{Stock, Comes, begins_so, piece, starts_one, IsStockRun, start_answer, starts_after}
use Rattle.a32_instr.specs.declared.instructions.Instr.{Instr}

-- ---- turns of any kind

times : {A : Type 0} → (A → A) → ℕ → A → A
times f zero x = x
times f (suc count) x = times f count (f x)

module _ {A : Type 0} (f : A → A) where
  times_none : (x : A) → times f zero x ≡ x
  unfolding times
  times_none x = refl

  times_one : (x : A) → times f 1 x ≡ f x
  unfolding times
  times_one x = refl

  times_more : (count more : ℕ) (x : A) → times f more (times f count x) ≡ times f (count + more) x
  unfolding times
  times_more zero more x = let all : more ≡ zero + more = omega arith in ap (λ (n : ℕ). times f n x) all
  times_more (suc count) more x =
      let all : suc (count + more) ≡ suc count + more = omega arith in
      times_more count more (f x) ∙ ap (λ (n : ℕ). times f n x) all

  times_stay : (count : ℕ) (x : A) → f x ≡ x → times f count x ≡ x
  unfolding times
  times_stay zero x stays = refl
  times_stay (suc count) x stays = ap (times f count) stays ∙ times_stay count x stays

  -- where it stays after so many turns and after so many others, it is the same
  one_rest : (count other : ℕ) (x : A) → f (times f count x) ≡ times f count x → f (times f other x) ≡ times f other x → times f count x ≡ times f other x
  unfolding times
  one_rest zero other x stays rests = sym (times_stay other x stays)
  one_rest (suc count) zero x stays rests = times_stay (suc count) x rests
  one_rest (suc count) (suc other) x stays rests = one_rest count other (f x) stays rests

-- ---- where a run is

-- its machine and steps, its accesses, replies and output so far, and the threads that it has started
record Spot : Type 0 where
  machine : Machine
  steps : ℕ
  pairs : List Pair
  output : List ℕ
  starts : List Started

abbrev spot_at : List Pair → List Started → PointOf Instr State → Spot
spot_at pairs starts at = record { machine = at.machine; steps = at.steps; pairs = pairs; output = at.output; starts = starts }

-- a start call is one that is answered, where the thread has no stock
start_is_none : (call : CallAsk) (mem written : ℕ) → is_start_call call ≡ true → call_effect call mem written ≡ answers no_call
start_is_none call mem written starts =
    let both = and_parts (call.number == 0xF0001) (call.imm == 0) starts in
    let number : call.number ≡ 0xF0001 = eqb-true call.number 0xF0001 both.0 in
    let imm : call.imm ≡ 0 = eqb-true call.imm 0 both.1 in
    rw (number, imm) refl

module _ (stock : Option Stock) (replies : Replies) (program : Program) (budget : ℕ) where
  abbrev replied : Spot → Ask → Option ℕ → Spot
  replied spot ask (Some reply) = record spot { machine = given (after_next program spot.machine) reply; pairs = spot.pairs ++ (ask, reply) ∷ [] }
  replied spot ask None = spot

  abbrev printed : Spot → ℕ → ℕ → Option (List ℕ) → Spot
  printed spot from count (Some bytes) = record spot {
    machine = returned_of a32 (after_next program spot.machine) count;
    steps = spot.steps + 1;
    pairs = spot.pairs ++ byte_loads from bytes;
    output = spot.output ++ bytes;
  }
  printed spot from count None = spot

  abbrev answered : Spot → CallEffect → Spot
  answered spot (exits code) = spot
  answered spot (answers answer) = record spot { machine = returned_of a32 (after_next program spot.machine) answer; steps = spot.steps + 1 }
  answered spot (writes_bytes from count) = printed spot from count (bytes_by replies spot.pairs from count)

  abbrev started : Spot → CallAsk → Stock → Spot
  started spot call numbers = record spot {
    machine = returned_of a32 (after_next program spot.machine) (start_answer numbers (length spot.starts) call);
    steps = spot.steps + 1;
    starts = starts_after numbers (length spot.pairs) spot.starts call;
  }

  abbrev called : Spot → CallAsk → Option Stock → Bool → Spot
  called spot call (Some numbers) true = started spot call numbers
  called spot call (Some numbers) false = answered spot (effect_of_call a32 program call (length spot.output))
  called spot call None starts = answered spot (effect_of_call a32 program call (length spot.output))

  abbrev moved : Spot → Effect → Spot
  moved spot (asks ask) = replied spot ask (replies spot.pairs ask)
  moved spot (calls call) = called spot call stock (is_start_call call)
  moved spot (completes state) = record spot { machine = after_next program spot.machine; steps = spot.steps + 1 }
  moved spot (stops stop) = spot

  turn : Spot → Spot
  turn spot = if nat_lt spot.steps budget then moved spot (next_effect program spot.machine) else spot

  turn_by : (spot : Spot) (effect : Effect) → spot.steps < budget → next_effect program spot.machine ≡ effect → turn spot ≡ moved spot effect
  unfolding turn
  turn_by spot effect less known =
      ap (λ (b : Bool). if b then moved spot (next_effect program spot.machine) else spot) (lt-ltb spot.steps budget less) ∙ ap (moved spot) known

  turn_spent : (spot : Spot) → budget ≤ spot.steps → turn spot ≡ spot
  unfolding turn
  turn_spent spot used = ap (λ (b : Bool). if b then moved spot (next_effect program spot.machine) else spot) (le-ltb spot.steps budget used)

  -- a call that isn't answered as a start is
  called_plainly : (spot : Spot) (call : CallAsk) (s : Option Stock) (b : Bool) → (is_some s && b) ≡ false
      → called spot call s b ≡ answered spot (effect_of_call a32 program call (length spot.output))
  called_plainly spot call None b plain = refl
  called_plainly spot call (Some numbers) false plain = refl
  called_plainly spot call (Some numbers) true plain = cc

  called_to_start : (spot : Spot) (call : CallAsk) (s : Option Stock) (b : Bool) (numbers : Stock) → s ≡ Some numbers → b ≡ true
      → called spot call s b ≡ started spot call numbers
  called_to_start spot call s b numbers is starts = ap (λ (o : Option Stock). called spot call o b) is ∙ ap (called spot call (Some numbers)) starts

  -- a call that exits or writes starts no thread
  not_start : (call : CallAsk) (written : ℕ) (effect : CallEffect) → effect_of_call a32 program call written ≡ effect → (effect ≡ answers no_call → ⊥) → is_start_call call ≡ false
  not_start call written effect is other = elim (cases_Bool (is_start_call call)) [
    | inl starts ↦ absurd (other (sym is ∙ start_is_none call (length program.bytes) written starts))
    | inr plain ↦ plain
  ]

  never : (s : Option Stock) (b : Bool) → b ≡ false → (is_some s && b) ≡ false
  never None b isnt = refl
  never (Some numbers) b isnt = isnt

  bytes_found : (pairs : List Pair) (from : ℕ) (bytes : List ℕ) → AreDecided replies (pairs ++ byte_loads from bytes) → bytes_by replies pairs from (length bytes) ≡ Some bytes
  bytes_found pairs from [] decided = refl
  bytes_found pairs from (byte ∷ bytes) decided =
      first_found replies pairs from (length bytes) byte bytes decided
      ∙ ap (option_map (λ rest. byte ∷ rest))
      (bytes_found (pairs ++ (byte_load from, byte) ∷ []) (from + 1) bytes (subst (AreDecided replies) (loads_on pairs from byte bytes) decided))

  Leads : Spot → Spot → Type 0
  Leads from to = (count : ℕ) × (times turn count from ≡ to)

  leads_none : (spot : Spot) → Leads spot spot
  unfolding Leads
  leads_none spot = (zero, times_none turn spot)

  leads_on : (from here to : Spot) → Leads from here → Leads here to → Leads from to
  unfolding Leads
  leads_on from here to first second = (first.0 + second.0, sym (times_more turn first.0 second.0 from) ∙ ap (times turn second.0) first.1 ∙ second.1)

  leads_once : (from here to : Spot) (effect : Effect) → Leads from here → here.steps < budget → next_effect program here.machine ≡ effect → moved here effect ≡ to → Leads from to
  unfolding Leads
  leads_once from here to effect first less known moves =
      leads_on from here to first (1, times_one turn here ∙ turn_by here effect less known ∙ moves)

  -- ---- a piece

  module _ (before : List Pair) (starts : List Started) (from : PointOf Instr State) where
    came : (pairs : List Pair) (machine : Machine) (steps : ℕ) (output : List ℕ) → ReachesBy a32 (is_some stock) program budget from pairs machine steps output
        → AreDecided replies (before ++ pairs)
        → Leads (spot_at before starts from) (spot_at (before ++ pairs) starts (record { machine = machine; steps = steps; output = output }))
    came _ _ _ _ begins decided =
        subst (λ (ps : List Pair). Leads (spot_at before starts from) (spot_at ps starts from)) (sym (append-nil before)) (leads_none (spot_at before starts from))
    came _ _ _ _ (accesses pairs machine steps output ask reply reached less asked) decided =
        let here : Spot = spot_at (before ++ pairs) starts (record { machine = machine; steps = steps; output = output }) in
        let parts : (before ++ pairs) ++ (ask, reply) ∷ [] ≡ before ++ (pairs ++ (ask, reply) ∷ []) = append_assoc before pairs ((ask, reply) ∷ []) in
        let known = subst (AreDecided replies) (sym parts) decided in
        subst (λ (ps : List Pair). Leads (spot_at before starts from) (spot_at ps starts (record { machine = given (after_next program machine) reply; steps = steps; output = output }))) parts
        (leads_once (spot_at before starts from) here _ (asks ask) (came pairs machine steps output reached (decided_front replies (before ++ pairs) ((ask, reply) ∷ []) known)) less asked
        (ap (replied here ask) (known (before ++ pairs) [] ask reply refl)))
    came _ _ _ _ (steps_on pairs machine steps output state reached less done) decided =
        leads_once (spot_at before starts from) (spot_at (before ++ pairs) starts (record { machine = machine; steps = steps; output = output })) _ (completes state)
        (came pairs machine steps output reached decided) less done refl
    came _ _ _ _ (returns pairs machine steps output call answer reached less is known plain) decided =
        let here : Spot = spot_at (before ++ pairs) starts (record { machine = machine; steps = steps; output = output }) in
        leads_once (spot_at before starts from) here _ (calls call) (came pairs machine steps output reached decided) less is
        (called_plainly here call stock (is_start_call call) plain ∙ ap (answered here) known)
    came _ _ _ _ (prints pairs machine steps output call addr bytes reached less is known) decided =
        let here : Spot = spot_at (before ++ pairs) starts (record { machine = machine; steps = steps; output = output }) in
        let parts : (before ++ pairs) ++ byte_loads addr bytes ≡ before ++ (pairs ++ byte_loads addr bytes) = append_assoc before pairs (byte_loads addr bytes) in
        let all = subst (AreDecided replies) (sym parts) decided in
        let plain = not_start call (length output) (writes_bytes addr (length bytes)) known (λ same. cc) in
        subst (λ (ps : List Pair). Leads (spot_at before starts from)
        (spot_at ps starts (record { machine = returned_of a32 (after_next program machine) (length bytes); steps = steps + 1; output = output ++ bytes }))) parts
        (leads_once (spot_at before starts from) here _ (calls call) (came pairs machine steps output reached (decided_front replies (before ++ pairs) (byte_loads addr bytes) all)) less is
        (called_plainly here call stock (is_start_call call) (never stock (is_start_call call) plain) ∙ ap (answered here) known
        ∙ ap (printed here addr (length bytes)) (bytes_found (before ++ pairs) addr bytes all)))

  -- ---- a run up to a point

  arrived : (start : Machine) (pairs : List Pair) (starts : List Started) (to : PointOf Instr State) → Comes a32 stock program budget start pairs starts to → AreDecided replies pairs
      → Leads (spot_at [] [] (first_point start)) (spot_at pairs starts to)
  arrived start _ _ _ begins_so decided = leads_none (spot_at [] [] (first_point start))
  arrived start _ _ _ (piece pairs more starts from to comes reached) decided =
      leads_on (spot_at [] [] (first_point start)) (spot_at pairs starts from) (spot_at (pairs ++ more) starts to)
      (arrived start pairs starts from comes (decided_front replies pairs more decided)) (came pairs starts from more to.machine to.steps to.output reached decided)
  arrived start _ _ _ (starts_one pairs starts from call numbers comes is less known begun) decided =
      leads_once (spot_at [] [] (first_point start)) (spot_at pairs starts from) _ (calls call) (arrived start pairs starts from comes decided) less known
      (called_to_start (spot_at pairs starts from) call stock (is_start_call call) numbers is begun)

  -- ---- how it rests

  record Rested : Type 0 where
    stop : Stop
    steps : ℕ
    output : List ℕ

  -- what comes of a spot that moves no further; of any other it counts for nothing
  abbrev by_call : Spot → CallEffect → Rested
  by_call spot (exits code) = record { stop = Exit code; steps = spot.steps + 1; output = spot.output }
  by_call spot (answers answer) = record { stop = Budget; steps = spot.steps; output = spot.output }
  by_call spot (writes_bytes from count) = record { stop = Budget; steps = spot.steps; output = spot.output }

  abbrev by_ask : Spot → Ask → Rested
  by_ask spot (Store place value) = record { stop = TagLimit place.addr; steps = spot.steps; output = spot.output }
  by_ask spot _ = record { stop = Budget; steps = spot.steps; output = spot.output }

  abbrev by_effect : Spot → Effect → Rested
  by_effect spot (asks ask) = by_ask spot ask
  by_effect spot (calls call) = by_call spot (effect_of_call a32 program call (length spot.output))
  by_effect spot (completes state) = record { stop = Budget; steps = spot.steps; output = spot.output }
  by_effect spot (stops stop) = record { stop = stop; steps = spot.steps; output = spot.output }

  rest_of : Spot → Rested
  rest_of spot = if nat_lt spot.steps budget then by_effect spot (next_effect program spot.machine) else record { stop = Budget; steps = spot.steps; output = spot.output }

  rest_by : (spot : Spot) (effect : Effect) → spot.steps < budget → next_effect program spot.machine ≡ effect → rest_of spot ≡ by_effect spot effect
  unfolding rest_of
  rest_by spot effect less known =
      ap (λ (b : Bool). if b then by_effect spot (next_effect program spot.machine) else record { stop = Budget; steps = spot.steps; output = spot.output }) (lt-ltb spot.steps budget less)
      ∙ ap (by_effect spot) known

  rest_spent : (spot : Spot) → budget ≤ spot.steps → rest_of spot ≡ record { stop = Budget; steps = spot.steps; output = spot.output }
  unfolding rest_of
  rest_spent spot used =
      ap (λ (b : Bool). if b then by_effect spot (next_effect program spot.machine) else record { stop = Budget; steps = spot.steps; output = spot.output }) (le-ltb spot.steps budget used)

  -- a run leads to a spot that moves no further, with these threads started, and rests so
  record Rests (start : Machine) (starts : List Started) (stop : Stop) (steps : ℕ) (output : List ℕ) : Type 0 where
    spot : Spot
    leads : Leads (spot_at [] [] (first_point start)) spot
    stays : turn spot ≡ spot
    starts_are : spot.starts ≡ starts
    rests : rest_of spot ≡ record { stop = stop; steps = steps; output = output }

  module _ (start : Machine) (before : List Pair) (starts : List Started) (from : PointOf Instr State)
      (comes : Leads (spot_at [] [] (first_point start)) (spot_at before starts from)) where
    led : (pairs : List Pair) (machine : Machine) (steps : ℕ) (output : List ℕ) → ReachesBy a32 (is_some stock) program budget from pairs machine steps output
        → AreDecided replies (before ++ pairs)
        → Leads (spot_at [] [] (first_point start)) (spot_at (before ++ pairs) starts (record { machine = machine; steps = steps; output = output }))
    led pairs machine steps output reached decided =
        leads_on (spot_at [] [] (first_point start)) (spot_at before starts from) (spot_at (before ++ pairs) starts (record { machine = machine; steps = steps; output = output })) comes
        (came before starts from pairs machine steps output reached decided)

    ends_rest : (pairs : List Pair) (stop : Stop) (steps : ℕ) (output : List ℕ) → EndsOnFrom a32 (is_some stock) program budget from pairs stop steps output
        → AreDecided replies (before ++ pairs) → ((ask : Ask) → replies (before ++ pairs) ask ≡ None) → Rests start starts stop steps output
    ends_rest _ _ _ _ (by_itself _ _ _ _ (halts pairs machine steps output stop reached less known)) decided none =
        let here : Spot = spot_at (before ++ pairs) starts (record { machine = machine; steps = steps; output = output }) in
        record { spot = here; leads = led pairs machine steps output reached decided; stays = turn_by here (stops stop) less known; starts_are = refl; rests = rest_by here (stops stop) less known }
    ends_rest _ _ _ _ (by_itself _ _ _ _ (leaves pairs machine steps output call code reached less known is)) decided none =
        let here : Spot = spot_at (before ++ pairs) starts (record { machine = machine; steps = steps; output = output }) in
        let plain = not_start call (length output) (exits code) is (λ same. cc) in
        record {
          spot = here;
          leads = led pairs machine steps output reached decided;
          stays = turn_by here (calls call) less known ∙ called_plainly here call stock (is_start_call call) (never stock (is_start_call call) plain) ∙ ap (answered here) is;
          starts_are = refl;
          rests = rest_by here (calls call) less known ∙ ap (by_call here) is;
        }
    ends_rest _ _ _ _ (by_itself _ _ _ _ (spends pairs machine output reached)) decided none =
        let here : Spot = spot_at (before ++ pairs) starts (record { machine = machine; steps = budget; output = output }) in
        record { spot = here; leads = led pairs machine budget output reached decided; stays = turn_spent here (omega arith); starts_are = refl; rests = rest_spent here (omega arith) }
    ends_rest _ _ _ _ (by_limit pairs machine steps output place value reached less known) decided none =
        let here : Spot = spot_at (before ++ pairs) starts (record { machine = machine; steps = steps; output = output }) in
        record {
          spot = here;
          leads = led pairs machine steps output reached decided;
          stays = turn_by here (asks (Store place value)) less known ∙ ap (replied here (Store place value)) (none (Store place value));
          starts_are = refl;
          rests = rest_by here (asks (Store place value)) less known;
        }

  abbrev rested : Stop → ℕ → List ℕ → Rested
  rested stop steps output = record { stop = stop; steps = steps; output = output }

  same_rested : (stop other : Stop) (steps count : ℕ) (output text : List ℕ) → rested stop steps output ≡ rested other count text
      → (stop ≡ other) × (steps ≡ count) × (output ≡ text)
  same_rested stop other steps count output text same =
      (ap (λ (r : Rested). r.stop) same, ap (λ (r : Rested). r.steps) same, ap (λ (r : Rested). r.output) same)

  one_way : (start : Machine) (starts others : List Started) (stop other : Stop) (steps count : ℕ) (output text : List ℕ)
      → Rests start starts stop steps output → Rests start others other count text → (starts ≡ others) × (stop ≡ other) × (steps ≡ count) × (output ≡ text)
  unfolding Leads
  one_way start starts others stop other steps count output text one two =
      let first = spot_at [] [] (first_point start) in
      let same : one.spot ≡ two.spot =
      sym one.leads.1
      ∙ one_rest turn one.leads.0 two.leads.0 first (ap turn one.leads.1 ∙ one.stays ∙ sym one.leads.1) (ap turn two.leads.1 ∙ two.stays ∙ sym two.leads.1)
      ∙ two.leads.1 in
      let rests = same_rested stop other steps count output text (sym one.rests ∙ ap rest_of same ∙ two.rests) in
      (sym one.starts_are ∙ ap (λ (s : Spot). s.starts) same ∙ two.starts_are, rests.0, rests.1, rests.2)

-- two runs with the same accesses and replies are one
pub one_stock_run : (stock : Option Stock) (program : Program) (budget : ℕ) (start : Machine) (pairs : List Pair) (starts others : List Started) (stop other : Stop) (steps count : ℕ) (output text : List ℕ)
    → IsStockRun a32 stock program budget start pairs starts stop steps output → IsStockRun a32 stock program budget start pairs others other count text
    → (starts ≡ others) × (stop ≡ other) × (steps ≡ count) × (output ≡ text)
one_stock_run stock program budget start pairs starts others stop other steps count output text one two =
    let replies : Replies = λ front ask. reply_after pairs front in
    one_way stock replies program budget start starts others stop other steps count output text (rests starts stop steps output one) (rests others other count text two)
  where
    rests : (ss : List Started) (s : Stop) (n : ℕ) (o : List ℕ) → IsStockRun a32 stock program budget start pairs ss s n o
        → Rests stock (λ front ask. reply_after pairs front) program budget start ss s n o
    rests ss s n o run =
        let decided = subst (AreDecided (λ front ask. reply_after pairs front)) run.are (list_decides pairs) in
        ends_rest stock (λ front ask. reply_after pairs front) program budget start run.before ss run.from
        (arrived stock (λ front ask. reply_after pairs front) program budget start run.before ss run.from run.comes
        (decided_front (λ front ask. reply_after pairs front) run.before run.more decided))
        run.more s n o run.ends decided (λ ask. subst (λ (ps : List Pair). reply_after pairs ps ≡ None) run.are (list_ends pairs))
