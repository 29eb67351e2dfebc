-- What a thread comes to by a guest call.
use Rattle.std.proofs.Common.{◌≡◌, ◌&&◌, true, false, ℕ, ◌+◌, ◌<◌, List, [], length, refl, sym, ap, ◌∙◌, subst, append-nil, add-zero, Some, None, MatchOption, Result, Ok, Err, Bool}
use Rattle.llsc_base.specs.Images.{Program}
use Rattle.llsc_base.specs.declared.outside.CallAsk.{CallAsk}
use Rattle.llsc_base.specs.declared.outside.Stop.{Stop}
use Rattle.llsc_base.specs.declared.outside.Stop.TheVariants as stop
use Rattle.llsc_base.specs.Effects.{calls}
use Rattle.guest_core.specs.declared.phases.Wanted.TheVariants as wanted
use Rattle.guest_core.specs.Phase.{PhaseOf, Between, Inside, Awaiting, Calling, Stopped}
use Rattle.guest_core.specs.Machine.{MachineOf, begins_of, moved_on, after_found_of, next_in_of, after_in_of, next_of, after_of, wanted_of, InstructionSet, returned_of}
use Rattle.guest_calls.specs.Calls.{CallEffect, exits, answers, is_start_call, writes_bytes}
use Rattle.guest_calls.specs.Run.{Pair, byte_load, effect_of_call, ReachesBy, EndsFrom, returns, leaves, PointOf}
use Rattle.guest_thread.specs.declared.guests.Called.{Called}
use Rattle.guest_thread.specs.declared.guests.Event.TheVariants as event
use Rattle.guest_thread.specs.declared.guests.Turn.TheVariants as turn
use Rattle.guest_thread.specs.ThreadState.{ThreadOf}
use Rattle.guest_thread.specs.inner.Turns.{AfterCall, BeginsWrite, turn_by, write_of}
use Rattle.guest_thread.specs.Under.{HasComeFrom, HasComeBy, IsPrintingFrom, ComesToFrom}
use Rattle.guest_thread.specs.inner.Under.{ComesToEvent}
use Rattle.guest_thread.proofs.Effects.{effect_calls}
use Rattle.guest_thread.proofs.Reached.{reached_by, come_by, reached_at}
use Rattle.guest_thread.proofs.Printed.{asking_byte}

module _ {I S : Type 0} (set : InstructionSet I S) where
  -- ---- a machine that calls waits for the answer of that call

  -- by an instruction that calls
  calling_by : (program : Program) (machine : MachineOf I S) (call : CallAsk) (instr : Result I Stop)
      → begins_of set program machine.state instr ≡ calls call → (after_found_of set program machine instr).phase ≡ Calling call
  calling_by program machine call (Ok instr) is = ap (λ e. (moved_on instr machine e).phase) is
  calling_by program machine call (Err stop) is = cc

  calling_at : (program : Program) (machine : MachineOf I S) (call : CallAsk) (phase : PhaseOf I) → machine.phase ≡ phase
      → next_in_of set program machine phase ≡ calls call → (after_in_of set program machine phase).phase ≡ Calling call
  calling_at program machine call Between at is = calling_by program machine call (set.found program machine.state) is
  calling_at program machine call (Inside instr) at is = ap (λ e. (moved_on instr machine e).phase) is
  calling_at program machine call (Awaiting instr ask) at is = cc
  calling_at program machine call (Calling other) at is = cc
  calling_at program machine call (Stopped stop) at is = cc

  pub calling_in : (program : Program) (machine moved : MachineOf I S) (call : CallAsk) → wanted.Call call ≡ wanted_of (next_of set program machine)
      → moved ≡ after_of set program machine → moved.phase ≡ Calling call
  calling_in program machine moved call wants is =
      ap (λ (m : MachineOf I S). m.phase) is ∙ calling_at program machine call machine.phase refl (effect_calls (next_of set program machine) call wants)

  -- ---- what the call comes to

  -- a thread that has come to a call: where it was, and where it is now that its core waits for the answer
  pub record HasCalled (stocked : Bool) (program : Program) (budget : ℕ) (point : PointOf I S) (pairs : List Pair) (call : CallAsk) (old moved : ThreadOf I S) : Type 0 where
    pub reached : ReachesBy set stocked program budget point pairs old.cpu old.steps old.output
    pub within : old.steps < budget
    pub called : next_of set program old.cpu ≡ calls call
    pub cpu : moved.cpu ≡ after_of set program old.cpu
    pub steps : moved.steps ≡ old.steps
    pub output : moved.output ≡ old.output
    pub printing : moved.printing ≡ None
    pub plain : (stocked && is_start_call (set.call_of call)) ≡ false

  -- the exit
  exited : (stocked : Bool) (program : Program) (budget : ℕ) (point : PointOf I S) (pairs : List Pair) (call : CallAsk) (code : ℕ) (old moved new : ThreadOf I S)
      → HasCalled stocked program budget point pairs call old moved → effect_of_call set program call (length old.output) ≡ exits code
      → new ≡ record moved { steps = moved.steps + 1 }
      → ComesToFrom set stocked program budget point pairs (turn.Ended (stop.Exit code)) new
  exited stocked program budget point pairs call code old moved new way known is =
      let steps : new.steps ≡ old.steps + 1 = ap (λ s. s.steps) is ∙ ap (λ n. n + 1) way.steps in
      let output : new.output ≡ old.output = ap (λ s. s.output) is ∙ way.output in
      subst (λ n. EndsFrom set stocked program budget point pairs (stop.Exit code) n new.output) (sym steps)
      (subst (λ o. EndsFrom set stocked program budget point pairs (stop.Exit code) (old.steps + 1) o) (sym output)
      (leaves pairs old.cpu old.steps old.output call code way.reached way.within way.called known))

  -- a call that was answered
  answered : (stocked : Bool) (program : Program) (budget : ℕ) (point : PointOf I S) (pairs : List Pair) (call : CallAsk) (value : ℕ) (old moved new : ThreadOf I S)
      → HasCalled stocked program budget point pairs call old moved → effect_of_call set program call (length old.output) ≡ answers value
      → new ≡ record moved { cpu = returned_of set moved.cpu value; steps = moved.steps + 1 }
      → HasComeFrom set stocked program budget point pairs new
  answered stocked program budget point pairs call value old moved new way known is =
      let cpu : new.cpu ≡ returned_of set (after_of set program old.cpu) value = ap (λ s. s.cpu) is ∙ ap (λ m. returned_of set m value) way.cpu in
      let steps : new.steps ≡ old.steps + 1 = ap (λ s. s.steps) is ∙ ap (λ n. n + 1) way.steps in
      let output : new.output ≡ old.output = ap (λ s. s.output) is ∙ way.output in
      come_by set stocked program budget point pairs new (ap (λ s. s.printing) is ∙ way.printing)
      (reached_at set stocked program budget point new.cpu (returned_of set (after_of set program old.cpu) value) pairs new.steps (old.steps + 1) new.output old.output cpu steps output
      (returns pairs old.cpu old.steps old.output call value way.reached way.within way.called known way.plain))

  -- a write that begins
  begun : (stocked : Bool) (program : Program) (budget : ℕ) (point : PointOf I S) (pairs : List Pair) (call : CallAsk) (mem from count : ℕ) (old moved new : ThreadOf I S) (result : Called)
      → HasCalled stocked program budget point pairs call old moved → effect_of_call set program call (length old.output) ≡ writes_bytes from count
      → BeginsWrite mem from count moved result new
      → IsPrintingFrom set stocked program budget point pairs new (write_of from count)
  begun stocked program budget point pairs call mem from count old moved new result way known writes =
      let steps : new.steps ≡ old.steps = ap (λ s. s.steps) writes.moved ∙ way.steps in
      record {
        before = pairs;
        machine = old.cpu;
        output = old.output;
        call = call;
        bytes = [];
        reached = subst (λ n. ReachesBy set stocked program budget point pairs old.cpu n old.output) (sym steps) way.reached;
        within = subst (λ n. n < budget) (sym steps) way.within;
        called = way.called;
        writes = known;
        cpu = ap (λ s. s.cpu) writes.moved ∙ way.cpu;
        pairs_are = sym (append-nil pairs);
        output_is = ap (λ s. s.output) writes.moved ∙ way.output ∙ sym (append-nil old.output);
        loaded = refl;
        left = writes.some;
      }

  wrote : (stocked : Bool) (program : Program) (budget : ℕ) (point : PointOf I S) (pairs : List Pair) (call : CallAsk) (mem from count : ℕ) (old moved new : ThreadOf I S) (result : Called)
      → HasCalled stocked program budget point pairs call old moved → effect_of_call set program call (length old.output) ≡ writes_bytes from count
      → BeginsWrite mem from count moved result new
      → ComesToFrom set stocked program budget point pairs (turn.Asks (byte_load from)) new
  wrote stocked program budget point pairs call mem from count old moved new result way known writes =
      let some : new.printing ≡ Some (write_of from count) = ap (λ s. s.printing) writes.moved in
      let come : HasComeFrom set stocked program budget point pairs new =
      subst (λ p. HasComeBy set stocked program budget point pairs new p) (sym some) (begun stocked program budget point pairs call mem from count old moved new result way known writes) in
      subst (λ a. ComesToFrom set stocked program budget point pairs (turn.Asks (byte_load a)) new) (add-zero from) (asking_byte set stocked program budget point pairs new (write_of from count) come some)

  -- each of them
  made : (stocked : Bool) (program : Program) (budget : ℕ) (point : PointOf I S) (pairs : List Pair) (call : CallAsk) (mem : ℕ) (effect : CallEffect) (old moved new : ThreadOf I S) (result : Called)
      → HasCalled stocked program budget point pairs call old moved → effect_of_call set program call (length old.output) ≡ effect
      → AfterCall set mem effect moved result new
      → MatchOption (turn_by result) (HasComeFrom set stocked program budget point pairs new) (λ turn. ComesToFrom set stocked program budget point pairs turn new)
  made stocked program budget point pairs call mem (exits code) old moved new result way known after =
      subst (λ r. MatchOption (turn_by r) (HasComeFrom set stocked program budget point pairs new) (λ turn. ComesToFrom set stocked program budget point pairs turn new)) (sym after.0)
      (exited stocked program budget point pairs call code old moved new way known after.1)
  made stocked program budget point pairs call mem (answers value) old moved new result way known after =
      subst (λ r. MatchOption (turn_by r) (HasComeFrom set stocked program budget point pairs new) (λ turn. ComesToFrom set stocked program budget point pairs turn new)) (sym after.0)
      (answered stocked program budget point pairs call value old moved new way known after.1)
  made stocked program budget point pairs call mem (writes_bytes from count) old moved new result way known after =
      subst (λ r. MatchOption (turn_by r) (HasComeFrom set stocked program budget point pairs new) (λ turn. ComesToFrom set stocked program budget point pairs turn new)) (sym after.wants)
      (wrote stocked program budget point pairs call mem from count old moved new result way known after)

  -- a thread after a call
  pub after_call : (stocked : Bool) (program : Program) (budget : ℕ) (point : PointOf I S) (pairs : List Pair) (call : CallAsk) (mem : ℕ) (old moved new : ThreadOf I S) (result : Called)
      → HasComeFrom set stocked program budget point pairs old → old.steps < budget → old.printing ≡ None
      → wanted.Call call ≡ wanted_of (next_of set program old.cpu) → moved.cpu ≡ after_of set program old.cpu
      → moved.steps ≡ old.steps → moved.output ≡ old.output → moved.printing ≡ None
      → (stocked && is_start_call (set.call_of call)) ≡ false
      → ((asked : CallAsk) → moved.cpu.phase ≡ Calling asked → AfterCall set mem (effect_of_call set program asked (length moved.output)) moved result new)
      → MatchOption (turn_by result) (HasComeFrom set stocked program budget point pairs new) (λ turn. ComesToFrom set stocked program budget point pairs turn new)
  after_call stocked program budget point pairs call mem old moved new result come less none wants cpu steps output still plain after =
      made stocked program budget point pairs call mem (effect_of_call set program call (length old.output)) old moved new result
      (record {
        reached = reached_by set stocked program budget point pairs old none come;
        within = less;
        called = effect_calls (next_of set program old.cpu) call wants;
        cpu = cpu;
        steps = steps;
        output = output;
        printing = still;
        plain = plain;
      })
      refl (subst (λ o. AfterCall set mem (effect_of_call set program call (length o)) moved result new) output
      (after call (calling_in program old.cpu moved.cpu call wants cpu)))

  -- a thread that calls for another to be started
  pub after_start : (stocked : Bool) (program : Program) (budget : ℕ) (point : PointOf I S) (pairs : List Pair) (call : CallAsk) (old new : ThreadOf I S)
      → HasComeFrom set stocked program budget point pairs old → old.steps < budget → old.printing ≡ None
      → wanted.Call call ≡ wanted_of (next_of set program old.cpu) → new.cpu ≡ after_of set program old.cpu
      → new.steps ≡ old.steps → new.output ≡ old.output → is_start_call (set.call_of call) ≡ true
      → ComesToEvent set stocked program budget point pairs event.Starts new
  after_start stocked program budget point pairs call old new come less none wants cpu steps output starts = (
    call,
    record {
      machine = old.cpu;
      reached = reached_at set stocked program budget point old.cpu old.cpu pairs new.steps old.steps new.output old.output refl steps output
          (reached_by set stocked program budget point pairs old none come);
      within = subst (λ n. n < budget) (sym steps) less;
      called = effect_calls (next_of set program old.cpu) call wants;
      starts = starts;
      cpu_is = cpu;
    },
  )
