-- All rounds of a thread of the counter guest: each is tried until its store-exclusive succeeds.
use Rattle.std.proofs.Common.{ℕ, zero, suc, ◌%◌, ◌^◌, ◌<◌, List, ◌∷◌, [], sym, ap, subst, ◌∙◌, arith}
use Rattle.a32_instr.specs.declared.conditions.Flags.{Flags}
use Rattle.llsc_base.specs.declared.outside.Ask.TheVariants as ask
use Rattle.guest_calls.specs.Run.{Pair}
use Rattle.guest_calls.proofs.Retries.{AreTurns, IsTurn, last, turns, failed as failed_turn}
use Rattle.guest_gen.specs.Counters.{counter_at, counter_place}
use Rattle.guest_gen.specs.Namings.{drawn_after, first_draw, named_by, named_in}
use Rattle.counter_runs.specs.Tries.{AreTries, none, stored, failed, one_more}
use Rattle.counter_runs.proofs.Blocks.{again, compared, left, loaded, onward, stored_so, to_loop, to_try}
use Rattle.counter_runs.proofs.States.{CounterGuest, From, looped_at, no_flags, state_at}

-- ---- one round

-- what is left of a run where a counter's word is to be loaded, whatever the flags and the two registers that a turn sets
pub record AtTry (g : CounterGuest) (x left index : ℕ) (pairs : List Pair) : Type 0 where
  pub flags : Flags
  pub r11 : ℕ
  pub r12 : ℕ
  pub on : From g (looped_at g 4156 flags x left (counter_at index) r11 r12) pairs

-- what follows a round: the tries of the next ones, wherever the registers and the flags stand
abbrev Next : CounterGuest → (x q index : ℕ) → List ℕ → Type 0
Next g x q index named = (flags : Flags) (r11 r12 : ℕ) (rest : List Pair)
    → From g (looped_at g 4136 flags x q (counter_at index) r11 r12) rest → AreTries named rest

-- one turn of the loop
turn : (g : CounterGuest) (x q index : ℕ) (named : List ℕ) → index < 16 → suc q < 2 ^ 32 → Next g x q index named
    → (pairs : List Pair) → AtTry g x (suc q) index pairs
    → IsTurn (counter_place index) one_more (AtTry g x (suc q) index) (AreTries named) pairs
turn g x q index named known few next pairs at =
    let loads = loaded g at.flags x (suc q) index at.r11 at.r12 pairs known at.on in
    let stores = stored_so g at.flags x (suc q) index (one_more loads.value) at.r12 loads.rest known loads.on in
    let flags = compared (stores.reply % 2 ^ 32) in
    record {
      value = loads.value;
      reply = stores.reply;
      rest = stores.rest;
      are = loads.are ∙ ap (λ r. (ask.LoadEx (counter_place index), loads.value) ∷ r) stores.are;
      leaves = λ zero_reply. next flags (one_more loads.value) (stores.reply % 2 ^ 32) stores.rest
          (onward g x q index (one_more loads.value) stores.reply stores.rest zero_reply few stores.on);
      again = λ other. record {
        flags = flags;
        r11 = one_more loads.value;
        r12 = stores.reply % 2 ^ 32;
        on = again g x (suc q) index (one_more loads.value) stores.reply stores.rest other stores.on;
      };
    }

-- all turns of a round are its tries
tries_of : (index : ℕ) (named : List ℕ) (pairs : List Pair) → AreTurns (counter_place index) one_more (AreTries named) pairs
    → AreTries (index ∷ named) pairs
tries_of index named _ (last value reply rest zero_reply behind) = stored index value reply named rest zero_reply behind
tries_of index named _ (failed_turn value reply rest other more) = failed index value reply named rest other (tries_of index named rest more)

-- ---- all rounds

pub all_rounds : (g : CounterGuest) (q x : ℕ) → q < 2 ^ 32 → (flags : Flags) (r10 r11 r12 : ℕ) (pairs : List Pair)
    → From g (looped_at g 4136 flags x q r10 r11 r12) pairs → AreTries (named_in x q) pairs
unfolding named_in
all_rounds g zero x few flags r10 r11 r12 pairs on = subst (AreTries []) (sym (left g flags x r10 r11 r12 pairs on)) none
all_rounds g (suc q) x few flags r10 r11 r12 pairs on =
    let y = drawn_after x in
    let index = named_by y in
    let known : index < 16 = omega arith in
    let next : Next g y q index (named_in y q) =
    λ later s11 s12 rest run. all_rounds g q y (omega (arith, few)) later (counter_at index) s11 s12 rest run in
    tries_of index (named_in y q) pairs
    (turns (counter_place index) one_more (AtTry g y (suc q) index) (AreTries (named_in y q)) (turn g y q index (named_in y q) known few next) pairs
    (record { flags = compared (suc q); r11 = r11; r12 = r12; on = to_try g flags x q r10 r11 r12 pairs few on }))

-- a thread that goes on from its start to an exit call has made its tries
pub starts_so : (g : CounterGuest) (pairs : List Pair) → From g (state_at g 4096 no_flags 0 0 0 0 0 0 0 0) pairs
    → AreTries (named_in (first_draw g.seed g.t) g.rounds) pairs
starts_so g pairs on = all_rounds g g.rounds (first_draw g.seed g.t) g.few no_flags 0 0 0 pairs (to_loop g pairs on)
