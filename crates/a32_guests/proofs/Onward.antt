-- What is left of a run, from its beginning on, whatever its end: the other way round than `ReachesFrom`, which grows at its end.
use Rattle.std.proofs.Common.{◌≡◌, ◌⊎◌, ℕ, List, [], ◌∷◌, ◌++◌, Option, Some, None, length, Ok, refl, sym, ap, subst, ◌∙◌, append-nil, append_assoc, inl, inr}
use Rattle.llsc_base.specs.Images.{Program}
use Rattle.llsc_base.specs.Effects.{asks, asks_unless, barred, calls, completes, stops}
use Rattle.llsc_base.specs.declared.access.Bar.{Bar}
use Rattle.llsc_base.specs.declared.access.Bar.TheVariants as bar
use Rattle.llsc_base.specs.declared.outside.Ask.{Ask}
use Rattle.llsc_base.specs.declared.outside.CallAsk.{CallAsk}
use Rattle.llsc_base.specs.declared.outside.Stop.{Stop}
use Rattle.llsc_base.specs.declared.outside.Stop.TheVariants.{Budget, Exit, TagLimit}
use Rattle.a32_instr.specs.Effect.{acts, effect_of}
use Rattle.a32_instr.specs.State.{Effect, State}
use Rattle.a32_instr.specs.declared.instructions.Instr.{Instr}
use Rattle.guest_core.specs.Machine.{given, between, moved_on, returned_of}
use Rattle.guest_core.specs.Phase.{Inside}
use Rattle.guest_calls.specs.Calls.{CallEffect, exits, answers, writes_bytes}
use Rattle.guest_calls.specs.Run.{Pair, byte_loads, accesses, steps_on, returns, prints, halts, leaves, spends, by_itself, by_limit, EndsOn, Ends, Reaches, effect_of_call, begins as at_start}
use Rattle.a32_step.specs.Machine.{Machine, next_effect, after_next, instr_at, a32}
use Rattle.a32_step.specs.inner.Machine.{begins, after_instr}
use Rattle.a32_guests.specs.Cuts.{MayCut, at_budget, at_limit}

-- A run goes on from a machine to a stop, with these accesses and replies. One that is cut off may be so anywhere.
pub data RunsOn (program : Program) (stop : Stop) : Machine → List Pair → Type 0 where
  cut_here : (machine : Machine) → MayCut stop → RunsOn program stop machine []
  halts_here : (machine : Machine) → next_effect program machine ≡ stops stop → RunsOn program stop machine []
  leaves_here : (machine : Machine) (call : CallAsk) (written code : ℕ)
      → next_effect program machine ≡ calls call → effect_of_call a32 program call written ≡ exits code → stop ≡ Exit code
      → RunsOn program stop machine []
  accesses_first : (machine : Machine) (pairs : List Pair) (ask : Ask) (reply : ℕ)
      → next_effect program machine ≡ asks ask
      → RunsOn program stop (given (after_next program machine) reply) pairs
      → RunsOn program stop machine ((ask, reply) ∷ pairs)
  completes_first : (machine : Machine) (pairs : List Pair) (state : State)
      → next_effect program machine ≡ completes state
      → RunsOn program stop (after_next program machine) pairs
      → RunsOn program stop machine pairs
  returns_first : (machine : Machine) (pairs : List Pair) (call : CallAsk) (written answer : ℕ)
      → next_effect program machine ≡ calls call → effect_of_call a32 program call written ≡ answers answer
      → RunsOn program stop (returned_of a32 (after_next program machine) answer) pairs
      → RunsOn program stop machine pairs
  prints_first : (machine : Machine) (pairs : List Pair) (call : CallAsk) (written addr : ℕ) (bytes : List ℕ)
      → next_effect program machine ≡ calls call → effect_of_call a32 program call written ≡ writes_bytes addr (length bytes)
      → RunsOn program stop (returned_of a32 (after_next program machine) (length bytes)) pairs
      → RunsOn program stop machine (byte_loads addr bytes ++ pairs)

-- what is left behind what was reached is all of it together
from_start : (program : Program) (budget : ℕ) (start : Machine) (stop : Stop) (rest pairs : List Pair) (machine : Machine) (steps : ℕ) (output : List ℕ)
    → Reaches a32 program budget start pairs machine steps output → RunsOn program stop machine rest
    → RunsOn program stop start (pairs ++ rest)
from_start program budget start stop rest _ _ _ _ at_start on = on
from_start program budget start stop rest _ _ _ _ (accesses pairs machine steps output ask reply before less asked) on =
    subst (RunsOn program stop start) (sym (append_assoc pairs ((ask, reply) ∷ []) rest))
    (from_start program budget start stop ((ask, reply) ∷ rest) pairs machine steps output before
    (accesses_first machine rest ask reply asked on))
from_start program budget start stop rest _ _ _ _ (steps_on pairs machine steps output state before less done) on =
    from_start program budget start stop rest pairs machine steps output before (completes_first machine rest state done on)
from_start program budget start stop rest _ _ _ _ (returns pairs machine steps output call answer before less called known plain) on =
    from_start program budget start stop rest pairs machine steps output before
    (returns_first machine rest call (length output) answer called known on)
from_start program budget start stop rest _ _ _ _ (prints pairs machine steps output call addr bytes before less called known) on =
    subst (RunsOn program stop start) (sym (append_assoc pairs (byte_loads addr bytes) rest))
    (from_start program budget start stop (byte_loads addr bytes ++ rest) pairs machine steps output before
    (prints_first machine rest call (length output) addr bytes called known on))

-- and nothing is left behind the end
to_end : (program : Program) (budget : ℕ) (start : Machine) (stop : Stop) (pairs : List Pair) (machine : Machine) (steps : ℕ) (output : List ℕ)
    → Reaches a32 program budget start pairs machine steps output → RunsOn program stop machine [] → RunsOn program stop start pairs
to_end program budget start stop pairs machine steps output reached on =
    subst (RunsOn program stop start) (append-nil pairs) (from_start program budget start stop [] pairs machine steps output reached on)

-- a run goes on from its start to its stop
ends_on : (program : Program) (budget : ℕ) (start : Machine) (pairs : List Pair) (stop : Stop) (steps : ℕ) (output : List ℕ)
    → Ends a32 program budget start pairs stop steps output → RunsOn program stop start pairs
ends_on program budget start _ _ _ _ (halts pairs machine steps output stop reached less stopped) =
    to_end program budget start stop pairs machine steps output reached (halts_here machine stopped)
ends_on program budget start _ _ _ _ (leaves pairs machine steps output call left reached less called known) =
    to_end program budget start (Exit left) pairs machine steps output reached (leaves_here machine call (length output) left called known refl)
ends_on program budget start _ _ _ _ (spends pairs machine output reached) =
    to_end program budget start Budget pairs machine budget output reached (cut_here machine at_budget)

pub runs_on : (program : Program) (budget : ℕ) (start : Machine) (pairs : List Pair) (stop : Stop) (steps : ℕ) (output : List ℕ)
    → EndsOn a32 program budget start pairs stop steps output → RunsOn program stop start pairs
runs_on program budget start _ _ _ _ (by_itself pairs stop steps output ends) = ends_on program budget start pairs stop steps output ends
runs_on program budget start _ _ _ _ (by_limit pairs machine steps output place value reached less stored) =
    to_end program budget start (TagLimit place.addr) pairs machine steps output reached (cut_here machine (at_limit place.addr))

-- ---- one effect

-- nothing more came, since the run was cut off
pub record IsCut (stop : Stop) (pairs : List Pair) : Type 0 where
  pub none : pairs ≡ []
  pub may : MayCut stop

-- an exit call is the end
abbrev IsAnswered : Stop → List Pair → CallEffect → Type 0
IsAnswered stop pairs (exits code) = (pairs ≡ []) × (stop ≡ Exit code)
IsAnswered stop pairs (answers answer) = Unit {0}
IsAnswered stop pairs (writes_bytes addr count) = Unit {0}

-- an access with its reply comes first
record AsksFirst (program : Program) (stop : Stop) (machine : Machine) (ask : Ask) (pairs : List Pair) : Type 0 where
  reply : ℕ
  rest : List Pair
  are : pairs ≡ (ask, reply) ∷ rest
  on : RunsOn program stop (given (after_next program machine) reply) rest

-- what is left, by what the machine does next
abbrev Follows : Program → Stop → Machine → List Pair → Effect → Type 0
Follows program stop machine pairs (asks ask) = AsksFirst program stop machine ask pairs
Follows program stop machine pairs (calls call) = (written : ℕ) × IsAnswered stop pairs (effect_of_call a32 program call written)
Follows program stop machine pairs (completes state) = RunsOn program stop (after_next program machine) pairs
Follows program stop machine pairs (stops other) = (pairs ≡ []) × (stop ≡ other)

follows : (program : Program) (stop : Stop) (machine : Machine) (pairs : List Pair) → RunsOn program stop machine pairs
    → Follows program stop machine pairs (next_effect program machine) ⊎ IsCut stop pairs
follows program stop _ _ (cut_here machine may) = inr (record { none = refl; may = may })
follows program stop _ _ (halts_here machine is) = inl (subst (Follows program stop machine []) (sym is) (refl, refl))
follows program stop _ _ (leaves_here machine call written code is known at) =
    inl (subst (Follows program stop machine []) (sym is) (written, subst (IsAnswered stop []) (sym known) (refl, at)))
follows program stop _ _ (accesses_first machine pairs ask reply is on) =
    inl (subst (Follows program stop machine ((ask, reply) ∷ pairs)) (sym is) (record { reply = reply; rest = pairs; are = refl; on = on }))
follows program stop _ _ (completes_first machine pairs state is on) = inl (subst (Follows program stop machine pairs) (sym is) on)
follows program stop _ _ (returns_first machine pairs call written answer is known on) =
    inl (subst (Follows program stop machine pairs) (sym is) (written, subst (IsAnswered stop pairs) (sym known) tt))
follows program stop _ _ (prints_first machine pairs call written addr bytes is known on) =
    inl (subst (Follows program stop machine (byte_loads addr bytes ++ pairs)) (sym is) (written, subst (IsAnswered stop (byte_loads addr bytes ++ pairs)) (sym known) tt))

-- the same where that is known
follows_by : (program : Program) (stop : Stop) (machine : Machine) (effect : Effect) (pairs : List Pair) → next_effect program machine ≡ effect
    → RunsOn program stop machine pairs → Follows program stop machine pairs effect ⊎ IsCut stop pairs
follows_by program stop machine effect pairs is on =
    subst (λ e. Follows program stop machine pairs e ⊎ IsCut stop pairs) is (follows program stop machine pairs on)

-- one that was cut off is so at any machine
still_cut : (program : Program) (stop : Stop) (machine : Machine) (pairs : List Pair) → IsCut stop pairs → RunsOn program stop machine pairs
still_cut program stop machine pairs cut = subst (RunsOn program stop machine) (sym cut.none) (cut_here machine cut.may)

-- what is left where an instruction is complete
at_complete : (program : Program) (stop : Stop) (machine : Machine) (state : State) (pairs : List Pair)
    → next_effect program machine ≡ completes state → RunsOn program stop machine pairs
    → RunsOn program stop (after_next program machine) pairs
at_complete program stop machine state pairs is on = elim (follows_by program stop machine (completes state) pairs is on) [
  | inl left ↦ left
  | inr cut ↦ still_cut program stop (after_next program machine) pairs cut
]

-- ---- one instruction

-- an instruction that is complete at once
pub does : (program : Program) (stop : Stop) (state to : State) (instr : Instr) (pairs : List Pair)
    → instr_at program state.pc ≡ Ok instr → effect_of instr program [] state ≡ completes to
    → RunsOn program stop (between state) pairs → RunsOn program stop (between to) pairs
does program stop state to instr pairs there so on =
    let next : next_effect program (between state) ≡ completes to = ap (begins program state) there ∙ so in
    let after : after_next program (between state) ≡ between to = ap (after_instr program (between state)) there ∙ ap (moved_on instr (between state)) so in
    subst (λ m. RunsOn program stop m pairs) after (at_complete program stop (between state) to pairs next on)

-- an instruction that makes one access
pub record HasTried (program : Program) (stop : Stop) (ask : Ask) (to : ℕ → State) (pairs : List Pair) : Type 0 where
  pub reply : ℕ
  pub rest : List Pair
  pub are : pairs ≡ (ask, reply) ∷ rest
  pub on : RunsOn program stop (between (to reply)) rest

-- the machine that has the reply to an instruction's first access
abbrev replied : State → Instr → ℕ → Machine
replied state instr reply = record { state = state; phase = Inside instr; replies = reply ∷ [] }

tried : (program : Program) (stop : Stop) (state : State) (to : ℕ → State) (instr : Instr) (ask : Ask) (pairs : List Pair)
    → instr_at program state.pc ≡ Ok instr → effect_of instr program [] state ≡ asks ask
    → ((reply : ℕ) → acts instr program (reply ∷ []) state ≡ completes (to reply))
    → AsksFirst program stop (between state) ask pairs → HasTried program stop ask to pairs
tried program stop state to instr ask pairs there so then goes =
    let after : given (after_next program (between state)) goes.reply ≡ replied state instr goes.reply =
    ap (λ m. given m goes.reply) (ap (after_instr program (between state)) there ∙ ap (moved_on instr (between state)) so) in
    let here : RunsOn program stop (replied state instr goes.reply) goes.rest = subst (λ m. RunsOn program stop m goes.rest) after goes.on in
    let done : after_next program (replied state instr goes.reply) ≡ between (to goes.reply) =
    ap (moved_on instr (replied state instr goes.reply)) (then goes.reply) in
    record {
      reply = goes.reply;
      rest = goes.rest;
      are = goes.are;
      on = subst (λ m. RunsOn program stop m goes.rest) done
          (at_complete program stop (replied state instr goes.reply) (to goes.reply) goes.rest (then goes.reply) here);
    }

-- An instruction that makes one access, which nothing bars.
pub tries_freely : (program : Program) (stop : Stop) (state : State) (to : ℕ → State) (instr : Instr) (ask : Ask) (pairs : List Pair)
    → instr_at program state.pc ≡ Ok instr → effect_of instr program [] state ≡ asks ask
    → ((reply : ℕ) → acts instr program (reply ∷ []) state ≡ completes (to reply))
    → RunsOn program stop (between state) pairs → HasTried program stop ask to pairs ⊎ IsCut stop pairs
tries_freely program stop state to instr ask pairs there so then on =
    elim (follows_by program stop (between state) (asks ask) pairs (ap (begins program state) there ∙ so) on) [
      | inl goes ↦ inl (tried program stop state to instr ask pairs there so then goes)
      | inr cut ↦ inr cut
    ]

-- why no access came: the run was cut off, or the access is barred
pub data NoneCame (stop : Stop) (addr : ℕ) : Option Bar → Type 0 where
  was_cut : (bar : Option Bar) → MayCut stop → NoneCame stop addr bar
  was_barred : (bar : Bar) → stop ≡ barred bar addr → NoneCame stop addr (Some bar)

pub record IsEnded (stop : Stop) (addr : ℕ) (bar : Option Bar) (pairs : List Pair) : Type 0 where
  pub none : pairs ≡ []
  pub why : NoneCame stop addr bar

-- One that makes an access if nothing bars that.
pub tries : (program : Program) (stop : Stop) (state : State) (to : ℕ → State) (instr : Instr) (bar : Option Bar) (addr : ℕ) (ask : Ask) (pairs : List Pair)
    → instr_at program state.pc ≡ Ok instr → effect_of instr program [] state ≡ asks_unless bar addr ask
    → ((reply : ℕ) → acts instr program (reply ∷ []) state ≡ completes (to reply))
    → RunsOn program stop (between state) pairs → HasTried program stop ask to pairs ⊎ IsEnded stop addr bar pairs
tries program stop state to instr None addr ask pairs there so then on = elim (tries_freely program stop state to instr ask pairs there so then on) [
  | inl had ↦ inl had
  | inr cut ↦ inr (record { none = cut.none; why = was_cut None cut.may })
]
tries program stop state to instr (Some bar) addr ask pairs there so then on =
    elim (follows_by program stop (between state) (stops (barred bar addr)) pairs (ap (begins program state) there ∙ so) on) [
      | inl halted ↦ inr (record { none = halted.0; why = was_barred bar halted.1 })
      | inr cut ↦ inr (record { none = cut.none; why = was_cut (Some bar) cut.may })
    ]

-- nothing is left at a stop
pub record IsAtStop (stop other : Stop) (pairs : List Pair) : Type 0 where
  pub none : pairs ≡ []
  pub why : (stop ≡ other) ⊎ MayCut stop

-- An exit call.
pub calls_exit : (program : Program) (stop : Stop) (state : State) (instr : Instr) (call : CallAsk) (code : ℕ) (pairs : List Pair)
    → instr_at program state.pc ≡ Ok instr → effect_of instr program [] state ≡ calls call
    → ((written : ℕ) → effect_of_call a32 program call written ≡ exits code)
    → RunsOn program stop (between state) pairs → IsAtStop stop (Exit code) pairs
calls_exit program stop state instr call code pairs there so exit on =
    elim (follows_by program stop (between state) (calls call) pairs (ap (begins program state) there ∙ so) on) [
      | inl called ↦
          let left : (pairs ≡ []) × (stop ≡ Exit code) = subst (IsAnswered stop pairs) (exit called.0) called.1 in
          record { none = left.0; why = inl left.1 }
      | inr cut ↦ record { none = cut.none; why = inr cut.may }
    ]

-- ---- a run that ends by an exit call

-- it is neither cut off nor stopped at a bar
pub never_cut : (stop : Stop) (code : ℕ) → MayCut stop → stop ≡ Exit code → ⊥
never_cut _ code at_budget same = cc
never_cut _ code (at_limit addr) same = cc

pub never_barred : (bar : Bar) (addr : ℕ) (stop : Stop) (code : ℕ) → stop ≡ barred bar addr → stop ≡ Exit code → ⊥
never_barred bar.Alignment addr stop code same left = cc
never_barred bar.Outside addr stop code same left = cc
never_barred bar.ReadOnly addr stop code same left = cc

-- so all of it came
pub in_full : {A : Type 0} (code : ℕ) (pairs : List Pair) → A ⊎ IsCut (Exit code) pairs → A
in_full code pairs (inl had) = had
in_full code pairs (inr cut) = absurd (never_cut (Exit code) code cut.may refl)
