-- Runs whose replies are decided by what came before them: such a run rests at one place at most, so it has one end at most.
use Rattle.std.proofs.Common.{◌≡◌, ℕ, zero, suc, ◌+◌, ◌-◌, ◌<◌, ◌≤◌, nat_lt, if◌then◌else◌, Option, Some, None, List, [], ◌∷◌, ◌++◌, length, refl, sym, ap, subst, ◌∙◌, append_assoc, arith}
use Rattle.std.specs.Option.{option_map}
use Rattle.std.proofs.lemmas.Bool.{lt-ltb, le-ltb}
use Rattle.llsc_base.specs.Images.{Program}
use Rattle.llsc_base.specs.declared.outside.Ask.{Ask}
use Rattle.llsc_base.specs.declared.outside.Stop.{Stop}
use Rattle.llsc_base.specs.declared.outside.Stop.TheVariants.{Exit, Budget}
use Rattle.llsc_base.specs.Effects.{EffectOf, asks, calls, completes, stops}
use Rattle.guest_core.specs.Machine.{MachineOf, InstructionSet, next_of, after_of, given, returned_of}
use Rattle.guest_calls.specs.Calls.{CallEffect, exits, answers, writes_bytes}
use Rattle.guest_calls.specs.Run.{Pair, byte_load, byte_loads, effect_of_call, Reaches, begins, accesses, steps_on, returns, prints, Ends, halts, leaves, spends}

-- what is replied to an access after these accesses and replies, if anything is
abbrev pub Replies : Type 0
Replies = List Pair → Ask → Option ℕ

-- each reply is the one that is decided where it stands
abbrev pub AreDecided : Replies → List Pair → Type 0
AreDecided replies pairs = (front back : List Pair) (ask : Ask) (reply : ℕ) → pairs ≡ front ++ (ask, reply) ∷ back → replies front ask ≡ Some reply

-- where a run is: its machine and steps, and its accesses, replies and output so far
pub record Spot (I S : Type 0) : Type 0 where
  pub machine : MachineOf I S
  pub steps : ℕ
  pub pairs : List Pair
  pub output : List ℕ

-- a byte that was replied, before those that follow it
abbrev pub followed : Option ℕ → (ℕ → Option (List ℕ)) → Option (List ℕ)
followed (Some byte) more = option_map (λ bytes. byte ∷ bytes) (more byte)
followed None more = None

-- the replies to the loads of so many bytes from an address up, where each is replied to
abbrev pub bytes_by : Replies → List Pair → ℕ → ℕ → Option (List ℕ)
bytes_by replies pairs from zero = Some []
bytes_by replies pairs from (suc count) =
    followed (replies pairs (byte_load from)) (λ byte. bytes_by replies (pairs ++ (byte_load from, byte) ∷ []) (from + 1) count)

-- the replies of the beginning of a run are decided too
pub decided_front : (replies : Replies) (pairs more : List Pair) → AreDecided replies (pairs ++ more) → AreDecided replies pairs
decided_front replies pairs more decided front back ask reply parts =
    decided front (back ++ more) ask reply (ap (λ l. l ++ more) parts ∙ append_assoc front ((ask, reply) ∷ back) more)

-- the loads of some bytes are that of the first, and then those of the others
pub loads_on : (pairs : List Pair) (from byte : ℕ) (bytes : List ℕ)
    → pairs ++ byte_loads from (byte ∷ bytes) ≡ (pairs ++ (byte_load from, byte) ∷ []) ++ byte_loads (from + 1) bytes
loads_on pairs from byte bytes = sym (append_assoc pairs ((byte_load from, byte) ∷ []) (byte_loads (from + 1) bytes))

-- where the load of a byte is decided, the byte is the first of those that are replied
pub first_found : (replies : Replies) (pairs : List Pair) (from count byte : ℕ) (bytes : List ℕ)
    → AreDecided replies (pairs ++ byte_loads from (byte ∷ bytes))
    → bytes_by replies pairs from (suc count) ≡ option_map (λ rest. byte ∷ rest) (bytes_by replies (pairs ++ (byte_load from, byte) ∷ []) (from + 1) count)
first_found replies pairs from count byte bytes decided =
    ap (λ r. followed r (λ b. bytes_by replies (pairs ++ (byte_load from, b) ∷ []) (from + 1) count))
    (decided pairs (byte_loads (from + 1) bytes) (byte_load from) byte refl)

-- decided replies to the loads of bytes are the bytes
bytes_found : (replies : Replies) (pairs : List Pair) (from : ℕ) (bytes : List ℕ)
    → AreDecided replies (pairs ++ byte_loads from bytes) → bytes_by replies pairs from (length bytes) ≡ Some bytes
bytes_found replies pairs from [] decided = refl
bytes_found replies pairs from (byte ∷ bytes) decided =
    first_found replies pairs from (length bytes) byte bytes decided
    ∙ ap (option_map (λ rest. byte ∷ rest))
    (bytes_found replies (pairs ++ (byte_load from, byte) ∷ []) (from + 1) bytes (subst (AreDecided replies) (loads_on pairs from byte bytes) decided))

-- how a run rests: it has ended, with its accesses and replies, its stop, its steps and its output; or it asks an access,
-- with its steps and its output before the instruction
pub data Rest : Type 0 where
  ended : List Pair → Stop → ℕ → List ℕ → Rest
  asking : Ask → ℕ → List ℕ → Rest

-- two ends are the same only by the same accesses and replies, stop, steps and output
same_ended : (pairs others : List Pair) (stop other : Stop) (steps count : ℕ) (output text : List ℕ)
    → ended pairs stop steps output ≡ ended others other count text → (pairs ≡ others) × (stop ≡ other) × (steps ≡ count) × (output ≡ text)
same_ended pairs others stop other steps count output text same = (cc, cc, cc, cc)

module _ {I S : Type 0} (set : InstructionSet I S) where
  -- the spot with these accesses and replies, this machine, so many steps and this output
  abbrev pub spot_at : List Pair → MachineOf I S → ℕ → List ℕ → Spot I S
  spot_at pairs machine steps output = record { machine = machine; steps = steps; pairs = pairs; output = output }

  -- a run at its start
  abbrev pub begun : MachineOf I S → Spot I S
  begun start = spot_at [] start 0 []

  -- after an access, where it is replied to
  abbrev pub replied : Program → Spot I S → Ask → Option ℕ → Spot I S
  replied program spot ask (Some reply) = spot_at (spot.pairs ++ (ask, reply) ∷ []) (given (after_of set program spot.machine) reply) spot.steps spot.output
  replied program spot ask None = spot

  -- after a write, where each of its bytes is replied
  abbrev pub printed : Program → Spot I S → ℕ → ℕ → Option (List ℕ) → Spot I S
  printed program spot from count (Some bytes) =
      spot_at (spot.pairs ++ byte_loads from bytes) (returned_of set (after_of set program spot.machine) count) (spot.steps + 1) (spot.output ++ bytes)
  printed program spot from count None = spot

  -- after a guest call, where it is answered
  abbrev pub answered_so : Replies → Program → Spot I S → CallEffect → Spot I S
  answered_so replies program spot (exits code) = spot
  answered_so replies program spot (answers answer) =
      spot_at spot.pairs (returned_of set (after_of set program spot.machine) answer) (spot.steps + 1) spot.output
  answered_so replies program spot (writes_bytes from count) = printed program spot from count (bytes_by replies spot.pairs from count)

  -- after an effect
  abbrev pub moved : Replies → Program → Spot I S → EffectOf S → Spot I S
  moved replies program spot (asks ask) = replied program spot ask (replies spot.pairs ask)
  moved replies program spot (calls call) = answered_so replies program spot (effect_of_call set program call (length spot.output))
  moved replies program spot (completes state) = spot_at spot.pairs (after_of set program spot.machine) (spot.steps + 1) spot.output
  moved replies program spot (stops stop) = spot

  -- what is given for the next effect where the steps aren't used up, and what where they are
  abbrev by_effect : {A : Type 0} → Program → ℕ → Spot I S → (EffectOf S → A) → A → A
  by_effect program budget spot of_effect spent = if nat_lt spot.steps budget then of_effect (next_of set program spot.machine) else spent

  -- one turn of a run: where the run is over, or nothing is replied, it stays where it is
  pub turn : Replies → Program → ℕ → Spot I S → Spot I S
  turn replies program budget spot = by_effect program budget spot (moved replies program spot) spot

  -- so many turns
  pub turns : Replies → Program → ℕ → ℕ → Spot I S → Spot I S
  turns replies program budget zero spot = spot
  turns replies program budget (suc count) spot = turns replies program budget count (turn replies program budget spot)

  -- so many turns lead a run to a spot
  abbrev pub Comes : Replies → Program → ℕ → MachineOf I S → Spot I S → Type 0
  Comes replies program budget start spot = (count : ℕ) × (turns replies program budget count (begun start) ≡ spot)

  -- ---- turns

  -- no turns
  turns_none : (replies : Replies) (program : Program) (budget : ℕ) (spot : Spot I S) → turns replies program budget zero spot ≡ spot
  unfolding turns
  turns_none replies program budget spot = refl

  -- the last of some turns is a turn too
  turns_last : (replies : Replies) (program : Program) (budget count : ℕ) (spot : Spot I S)
      → turns replies program budget (suc count) spot ≡ turn replies program budget (turns replies program budget count spot)
  unfolding turns
  turns_last replies program budget zero spot = refl
  turns_last replies program budget (suc count) spot = turns_last replies program budget count (turn replies program budget spot)

  -- a run that stays where it is stays there
  turns_stay : (replies : Replies) (program : Program) (budget count : ℕ) (spot : Spot I S)
      → turn replies program budget spot ≡ spot → turns replies program budget count spot ≡ spot
  unfolding turns
  turns_stay replies program budget zero spot stays = refl
  turns_stay replies program budget (suc count) spot stays =
      ap (turns replies program budget count) stays ∙ turns_stay replies program budget count spot stays

  -- where a run stays after so many turns and after so many others, it is the same
  one_rest : (replies : Replies) (program : Program) (budget count other : ℕ) (spot : Spot I S)
      → turn replies program budget (turns replies program budget count spot) ≡ turns replies program budget count spot
      → turn replies program budget (turns replies program budget other spot) ≡ turns replies program budget other spot
      → turns replies program budget count spot ≡ turns replies program budget other spot
  unfolding turns
  one_rest replies program budget zero other spot stays rests = sym (turns_stay replies program budget other spot stays)
  one_rest replies program budget (suc count) zero spot stays rests = turns_stay replies program budget (suc count) spot rests
  one_rest replies program budget (suc count) (suc other) spot stays rests =
      one_rest replies program budget count other (turn replies program budget spot) stays rests

  -- ---- the next effect

  -- what is given for a known effect
  at_effect : {A : Type 0} (program : Program) (budget : ℕ) (spot : Spot I S) (of_effect : EffectOf S → A) (spent : A) (effect : EffectOf S)
      → spot.steps < budget → next_of set program spot.machine ≡ effect → by_effect program budget spot of_effect spent ≡ of_effect effect
  at_effect program budget spot of_effect spent effect less known =
      ap (λ b. if b then of_effect (next_of set program spot.machine) else spent) (lt-ltb spot.steps budget less) ∙ ap of_effect known

  -- what is given where the steps are used up
  at_budget : {A : Type 0} (program : Program) (budget : ℕ) (spot : Spot I S) (of_effect : EffectOf S → A) (spent : A)
      → budget ≤ spot.steps → by_effect program budget spot of_effect spent ≡ spent
  at_budget program budget spot of_effect spent used =
      ap (λ b. if b then of_effect (next_of set program spot.machine) else spent) (le-ltb spot.steps budget used)

  -- a turn whose effect is known
  pub turn_by : (replies : Replies) (program : Program) (budget : ℕ) (spot : Spot I S) (effect : EffectOf S)
      → spot.steps < budget → next_of set program spot.machine ≡ effect → turn replies program budget spot ≡ moved replies program spot effect
  unfolding turn
  turn_by replies program budget spot = at_effect program budget spot (moved replies program spot) spot

  -- ---- a run is so many turns

  -- one turn more leads further
  goes_on : (replies : Replies) (program : Program) (budget : ℕ) (start : MachineOf I S) (here to : Spot I S) (effect : EffectOf S)
      → Comes replies program budget start here → here.steps < budget → next_of set program here.machine ≡ effect
      → moved replies program here effect ≡ to → Comes replies program budget start to
  goes_on replies program budget start here to effect comes less known moves = (
    suc comes.0,
    turns_last replies program budget comes.0 (begun start)
        ∙ ap (turn replies program budget) comes.1
        ∙ turn_by replies program budget here effect less known
        ∙ moves,
  )

  -- so many turns lead to what a run reaches
  pub came : (replies : Replies) (program : Program) (budget : ℕ) (start : MachineOf I S) (pairs : List Pair) (machine : MachineOf I S) (steps : ℕ) (output : List ℕ)
      → Reaches set program budget start pairs machine steps output → AreDecided replies pairs
      → Comes replies program budget start (spot_at pairs machine steps output)
  came replies program budget start _ _ _ _ begins decided = (zero, turns_none replies program budget (begun start))
  came replies program budget start _ _ _ _ (accesses pairs machine steps output ask reply before less asked) decided =
      let here : Spot I S = spot_at pairs machine steps output in
      goes_on replies program budget start here _ (asks ask)
      (came replies program budget start pairs machine steps output before (decided_front replies pairs ((ask, reply) ∷ []) decided))
      less asked (ap (replied program here ask) (decided pairs [] ask reply refl))
  came replies program budget start _ _ _ _ (steps_on pairs machine steps output state before less done) decided =
      goes_on replies program budget start (spot_at pairs machine steps output) _ (completes state)
      (came replies program budget start pairs machine steps output before decided) less done refl
  came replies program budget start _ _ _ _ (returns pairs machine steps output call answer before less called known plain) decided =
      let here : Spot I S = spot_at pairs machine steps output in
      goes_on replies program budget start here _ (calls call)
      (came replies program budget start pairs machine steps output before decided)
      less called (ap (answered_so replies program here) known)
  came replies program budget start _ _ _ _ (prints pairs machine steps output call from bytes before less called known) decided =
      let here : Spot I S = spot_at pairs machine steps output in
      goes_on replies program budget start here _ (calls call)
      (came replies program budget start pairs machine steps output before (decided_front replies pairs (byte_loads from bytes) decided))
      less called (ap (answered_so replies program here) known ∙ ap (printed program here from (length bytes)) (bytes_found replies pairs from bytes decided))

  -- ---- a run at rest

  -- how it rests where its steps are used up
  abbrev spent_at : Spot I S → Rest
  spent_at spot = ended spot.pairs Budget spot.steps spot.output

  -- how it rests by a guest call, where so many bytes of a write were loaded; one that is answered counts for nothing here,
  -- since no run rests by it
  abbrev pub rest_by_call : ℕ → Spot I S → CallEffect → Rest
  rest_by_call loaded spot (exits code) = ended spot.pairs (Exit code) (spot.steps + 1) spot.output
  rest_by_call loaded spot (answers answer) = spent_at spot
  rest_by_call loaded spot (writes_bytes from count) = asking (byte_load (from + loaded)) spot.steps spot.output

  -- how it rests by an effect; an instruction that is complete counts for nothing either
  abbrev pub rest_by : Program → ℕ → Spot I S → EffectOf S → Rest
  rest_by program loaded spot (asks ask) = asking ask spot.steps spot.output
  rest_by program loaded spot (calls call) = rest_by_call loaded spot (effect_of_call set program call (length spot.output))
  rest_by program loaded spot (completes state) = spent_at spot
  rest_by program loaded spot (stops stop) = ended spot.pairs stop spot.steps spot.output

  -- how it rests at a spot with these accesses and replies behind it: those beyond the spot's are the loads of a write's bytes
  abbrev rest_of : Program → ℕ → List Pair → Spot I S → Rest
  rest_of program budget behind spot = by_effect program budget spot (rest_by program (length behind - length spot.pairs) spot) (spent_at spot)

  -- a run rests in this way, with these accesses and replies behind it: turns lead it to a spot, and no further
  pub record Rests (replies : Replies) (program : Program) (budget : ℕ) (start : MachineOf I S) (behind : List Pair) (how : Rest) : Type 0 where
    spot : Spot I S
    comes : Comes replies program budget start spot
    stays : turn replies program budget spot ≡ spot
    rests_so : rest_of program budget behind spot ≡ how

  -- a run rests at a spot whose effect moves it no further
  pub rests_by : (replies : Replies) (program : Program) (budget : ℕ) (start : MachineOf I S) (behind : List Pair) (here : Spot I S) (effect : EffectOf S) (how : Rest)
      → Comes replies program budget start here → here.steps < budget → next_of set program here.machine ≡ effect
      → moved replies program here effect ≡ here → rest_by program (length behind - length here.pairs) here effect ≡ how
      → Rests replies program budget start behind how
  rests_by replies program budget start behind here effect how comes less known stays rests =
      record {
        spot = here;
        comes = comes;
        stays = turn_by replies program budget here effect less known ∙ stays;
        rests_so = at_effect program budget here (rest_by program (length behind - length here.pairs) here) (spent_at here) effect less known ∙ rests;
      }

  -- a run rests where its steps are used up
  rests_spent : (replies : Replies) (program : Program) (budget : ℕ) (start : MachineOf I S) (behind : List Pair) (here : Spot I S)
      → Comes replies program budget start here → budget ≤ here.steps → Rests replies program budget start behind (spent_at here)
  unfolding turn
  rests_spent replies program budget start behind here comes used =
      record {
        spot = here;
        comes = comes;
        stays = at_budget program budget here (moved replies program here) here used;
        rests_so = at_budget program budget here (rest_by program (length behind - length here.pairs) here) (spent_at here) used;
      }

  -- a run rests at one spot
  pub one_spot : (replies : Replies) (program : Program) (budget : ℕ) (start : MachineOf I S) (one two : Spot I S)
      → Comes replies program budget start one → turn replies program budget one ≡ one
      → Comes replies program budget start two → turn replies program budget two ≡ two → one ≡ two
  one_spot replies program budget start one two comes stays comes_too stays_too =
      sym comes.1
      ∙ one_rest replies program budget comes.0 comes_too.0 (begun start)
      (ap (turn replies program budget) comes.1 ∙ stays ∙ sym comes.1)
      (ap (turn replies program budget) comes_too.1 ∙ stays_too ∙ sym comes_too.1)
      ∙ comes_too.1

  -- a run rests in one way
  pub one_way : (replies : Replies) (program : Program) (budget : ℕ) (start : MachineOf I S) (behind : List Pair) (how other : Rest)
      → Rests replies program budget start behind how → Rests replies program budget start behind other → how ≡ other
  one_way replies program budget start behind how other one two =
      let same = one_spot replies program budget start one.spot two.spot one.comes one.stays two.comes two.stays in
      sym one.rests_so ∙ ap (rest_of program budget behind) same ∙ two.rests_so

  -- ---- an end

  -- a run that has ended rests, whatever is taken to be behind it
  pub ends_rest : (replies : Replies) (program : Program) (budget : ℕ) (start : MachineOf I S) (behind pairs : List Pair) (stop : Stop) (steps : ℕ) (output : List ℕ)
      → Ends set program budget start pairs stop steps output → AreDecided replies pairs
      → Rests replies program budget start behind (ended pairs stop steps output)
  ends_rest replies program budget start behind _ _ _ _ (halts pairs machine steps output stop reached less stopped) decided =
      rests_by replies program budget start behind (spot_at pairs machine steps output) (stops stop) (ended pairs stop steps output)
      (came replies program budget start pairs machine steps output reached decided) less stopped refl refl
  ends_rest replies program budget start behind _ _ _ _ (leaves pairs machine steps output call code reached less called known) decided =
      let here : Spot I S = spot_at pairs machine steps output in
      rests_by replies program budget start behind here (calls call) (ended pairs (Exit code) (steps + 1) output)
      (came replies program budget start pairs machine steps output reached decided)
      less called (ap (answered_so replies program here) known) (ap (rest_by_call (length behind - length pairs) here) known)
  ends_rest replies program budget start behind _ _ _ _ (spends pairs machine output reached) decided =
      rests_spent replies program budget start behind (spot_at pairs machine budget output)
      (came replies program budget start pairs machine budget output reached decided) (omega arith)

  -- of two runs whose replies are decided alike, the accesses and replies, the stop, the steps and the output are the same
  pub one_end : (replies : Replies) (program : Program) (budget : ℕ) (start : MachineOf I S) (pairs others : List Pair) (stop other : Stop) (steps count : ℕ) (output text : List ℕ)
      → Ends set program budget start pairs stop steps output → AreDecided replies pairs
      → Ends set program budget start others other count text → AreDecided replies others
      → (pairs ≡ others) × (stop ≡ other) × (steps ≡ count) × (output ≡ text)
  one_end replies program budget start pairs others stop other steps count output text ends decided ends_too decided_too =
      same_ended pairs others stop other steps count output text
      (one_way replies program budget start pairs (ended pairs stop steps output) (ended others other count text)
      (ends_rest replies program budget start pairs pairs stop steps output ends decided)
      (ends_rest replies program budget start pairs others other count text ends_too decided_too))
