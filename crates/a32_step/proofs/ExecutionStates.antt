-- An execution and the instruction that it is of, as one machine.
use Rattle.std.proofs.Common.{◌≡◌, ◌<◌, ◌∷◌, ◌++◌, ℕ, List, [], length, refl, sym, ap, subst, ◌∙◌}
use Rattle.llsc_base.specs.Images.{Program}
use Rattle.a32_instr.specs.declared.instructions.Instr.{Instr}
use Rattle.llsc_base.specs.declared.outside.CallAsk.{CallAsk}
use Rattle.a32_instr.specs.State.{Effect}
use Rattle.llsc_base.specs.Effects.{asks, calls, completes, stops}
use Rattle.a32_instr.specs.Effect.{acts}
use Rattle.a32_step.specs.declared.phases.Progress.{Progress}
use Rattle.guest_core.specs.declared.phases.Wanted.{Wanted}
use Rattle.a32_step.specs.inner.Progress.{progress_of}
use Rattle.a32_step.specs.Machine.{Machine, next_effect, after_next}
use Rattle.a32_step.specs.inner.Machine.{next_in, after_in, HasBegun}
use Rattle.guest_core.specs.Phase as phase
use Rattle.a32_step.specs.inner.ExecutionState.{ExecutionState, Stage, Between, Inside, Awaiting, Calling, Stopped, HasRoom, IsAwaited, IsCalled, moves, settled, wanted_at, phase_of, machine_in}
use Rattle.guest_core.specs.Machine.{between, given, moved_on, wanted_of, IsAwaiting, IsCalling}
use Rattle.guest_core.specs.inner.Machine.{IsBetween, IsInside}
use Rattle.guest_core.proofs.Resting.{is_between}

-- one that is awaited has room
pub room_of : (stage : Stage) (replies : List ℕ) → IsAwaited stage → HasRoom stage replies → length replies < 16
room_of Between replies awaited room = absurd awaited
room_of Inside replies awaited room = absurd awaited
room_of (Awaiting ask) replies awaited room = room
room_of (Calling call) replies awaited room = absurd awaited
room_of (Stopped stop) replies awaited room = absurd awaited

pub is_awaited : (instr : Instr) (stage : Stage) → IsAwaiting (phase_of instr stage) → IsAwaited stage
is_awaited instr Between awaiting = awaiting
is_awaited instr Inside awaiting = awaiting
is_awaited instr (Awaiting ask) awaiting = tt
is_awaited instr (Calling call) awaiting = awaiting
is_awaited instr (Stopped stop) awaiting = awaiting

pub is_called : (instr : Instr) (stage : Stage) → IsCalling (phase_of instr stage) → IsCalled stage
is_called instr Between calling = calling
is_called instr Inside calling = calling
is_called instr (Awaiting ask) calling = calling
is_called instr (Calling call) calling = tt
is_called instr (Stopped stop) calling = calling

between_at : (instr : Instr) (at : Stage) → IsBetween (phase_of instr at) → at ≡ Between
between_at instr Between is = refl
between_at instr Inside is = absurd is
between_at instr (Awaiting ask) is = absurd is
between_at instr (Calling call) is = absurd is
between_at instr (Stopped stop) is = absurd is

-- an execution is between two instructions where its machine is
pub is_resting : (instr : Instr) (standing : ExecutionState) → machine_in instr standing ≡ between standing.state → standing.stage ≡ Between
is_resting instr standing is = between_at instr standing.stage (is_between (machine_in instr standing) is)

pub called : (instr : Instr) (stage : Stage) (call : CallAsk) → stage ≡ Calling call → phase_of instr stage ≡ phase.Calling call
called instr stage call is = ap (phase_of instr) is

replied_at : (instr : Instr) (standing : ExecutionState) (reply : ℕ) (stage : Stage) → IsAwaiting (phase_of instr stage)
    → machine_in instr (record standing { stage = Inside; replies = standing.replies ++ reply ∷ [] }) ≡ given (machine_in instr (record standing { stage = stage })) reply
replied_at instr standing reply Between awaiting = absurd awaiting
replied_at instr standing reply Inside awaiting = absurd awaiting
replied_at instr standing reply (Awaiting ask) awaiting = refl
replied_at instr standing reply (Calling call) awaiting = absurd awaiting
replied_at instr standing reply (Stopped stop) awaiting = absurd awaiting

-- the machine after a reply
pub replied : (instr : Instr) (standing : ExecutionState) (reply : ℕ) → IsAwaiting (phase_of instr standing.stage)
    → machine_in instr (record standing { stage = Inside; replies = standing.replies ++ reply ∷ [] }) ≡ given (machine_in instr standing) reply
replied instr standing reply awaiting = replied_at instr standing reply standing.stage awaiting

-- how an execution stands after an effect, once one that is complete is over
abbrev settles : ExecutionState → Effect → ExecutionState
settles standing effect = settled (progress_of effect) (moves standing effect)

-- the machine after an effect of the instruction in hand
moves_is : (instr : Instr) (standing : ExecutionState) (effect : Effect) → machine_in instr (settles standing effect) ≡ moved_on instr (machine_in instr standing) effect
moves_is instr standing (asks ask) = refl
moves_is instr standing (calls call) = refl
moves_is instr standing (completes state) = refl
moves_is instr standing (stops stop) = refl

effect_wants : (standing : ExecutionState) (effect : Effect) → wanted_at (progress_of effect) (moves standing effect).stage ≡ wanted_of effect
effect_wants standing (asks ask) = refl
effect_wants standing (calls call) = refl
effect_wants standing (completes state) = refl
effect_wants standing (stops stop) = refl

inside_acts : (program : Program) (instr : Instr) (standing : ExecutionState) (stage : Stage) → IsInside (phase_of instr stage)
    → next_in program (machine_in instr standing) (phase_of instr stage) ≡ acts instr program standing.replies standing.state
inside_acts program instr standing Between inside = absurd inside
inside_acts program instr standing Inside inside = refl
inside_acts program instr standing (Awaiting ask) inside = absurd inside
inside_acts program instr standing (Calling call) inside = absurd inside
inside_acts program instr standing (Stopped stop) inside = absurd inside

inside_moves : (program : Program) (instr : Instr) (standing : ExecutionState) (stage : Stage) → IsInside (phase_of instr stage)
    → after_in program (machine_in instr standing) (phase_of instr stage) ≡ moved_on instr (machine_in instr standing) (acts instr program standing.replies standing.state)
inside_moves program instr standing Between inside = absurd inside
inside_moves program instr standing Inside inside = refl
inside_moves program instr standing (Awaiting ask) inside = absurd inside
inside_moves program instr standing (Calling call) inside = absurd inside
inside_moves program instr standing (Stopped stop) inside = absurd inside

-- What is wanted once the instruction in hand has acted, and the machine then.

pub acted_wants : (program : Program) (old now : Machine) (slot instr : Instr) (before after : ExecutionState) (p : Progress) (w : Wanted)
    → now ≡ machine_in slot before → HasBegun program old now → instr ≡ slot
    → p ≡ progress_of (acts instr program before.replies before.state) → wanted_at p after.stage ≡ wanted_at p (moves before (acts instr program before.replies before.state)).stage
    → w ≡ wanted_at p after.stage → w ≡ wanted_of (next_effect program old)
acted_wants program old now slot instr before after p w same begun held same_p same_after same_w =
    let known : HasBegun program old (machine_in instr before) = subst (λ m. HasBegun program old m) (same ∙ ap (λ i. machine_in i before) (sym held)) begun in
    let effect : Effect = acts instr program before.replies before.state in
    same_w ∙ same_after ∙ ap (λ q. wanted_at q (moves before effect).stage) same_p ∙ effect_wants before effect
    ∙ ap wanted_of (sym (inside_acts program instr before before.stage known.0) ∙ known.1)

pub acted_stands : (program : Program) (old now : Machine) (slot instr : Instr) (before after new : ExecutionState) (p : Progress)
    → now ≡ machine_in slot before → HasBegun program old now → instr ≡ slot
    → p ≡ progress_of (acts instr program before.replies before.state) → settled p after ≡ settled p (moves before (acts instr program before.replies before.state)) → new ≡ settled p after
    → machine_in slot new ≡ after_next program old
acted_stands program old now slot instr before after new p same begun held same_p same_after same_new =
    let known : HasBegun program old (machine_in instr before) = subst (λ m. HasBegun program old m) (same ∙ ap (λ i. machine_in i before) (sym held)) begun in
    let effect : Effect = acts instr program before.replies before.state in
    let over : new ≡ settles before effect = same_new ∙ same_after ∙ ap (λ q. settled q (moves before effect)) same_p in
    ap (λ i. machine_in i new) (sym held) ∙ ap (machine_in instr) over
    ∙ moves_is instr before effect ∙ sym (inside_moves program instr before before.stage known.0) ∙ known.2
