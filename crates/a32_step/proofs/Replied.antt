-- What a machine does after replies in turn is what its instruction does with all of them at once.
use Rattle.std.proofs.Common.{◌≡◌, ℕ, Bool, true, false, if◌then◌else◌, List, [], ◌∷◌, ◌++◌, Ok, refl, sym, ap, subst, ◌∙◌, append-nil, append_assoc}
use Rattle.llsc_base.specs.Images.{Program}
use Rattle.a32_instr.specs.declared.instructions.Instr.{Instr}
use Rattle.a32_instr.specs.Condition.{passes}
use Rattle.a32_instr.specs.State.{State, Effect, advanced}
use Rattle.llsc_base.specs.Effects.{asks, calls, completes, stops}
use Rattle.a32_instr.specs.Effect.{acts, condition_of, effect_of}
use Rattle.guest_core.specs.Phase.{Inside}
use Rattle.a32_step.specs.Machine.{Machine, instr_at, next_effect, after_next}
use Rattle.a32_step.specs.inner.Machine.{begins, after_instr}
use Rattle.guest_core.specs.Machine.{between, moved_on, given}
use Rattle.a32_step.specs.Replied.{IsAsk, replied, replied_in_turn, AsksForEach, IsAskedForEach}

-- inside an instruction, with these replies
abbrev pub inside : Instr → State → List ℕ → Machine
inside instr state replies = record { state = state; phase = Inside instr; replies = replies }

-- how a machine stands that has had these replies in this instruction
record Stands (program : Program) (instr : Instr) (state : State) (replies : List ℕ) (machine : Machine) : Type 0 where
  start : machine.state ≡ state
  had : machine.replies ≡ replies
  effect : next_effect program machine ≡ effect_of instr program replies state
  after : after_next program machine ≡ moved_on instr machine (effect_of instr program replies state)

-- ---- the first reply

-- an instruction that asks has passed its condition
has_passed : (b : Bool) (effect : Effect) (state : State) → IsAsk (if b then effect else completes state) → b ≡ true
has_passed true effect state ask = refl
has_passed false effect state ask = absurd ask

pub begun : (instr : Instr) (state : State) (reply : ℕ) (effect : Effect) → IsAsk effect → given (moved_on instr (between state) effect) reply ≡ inside instr state (reply ∷ [])
begun instr state reply (asks ask) asked = refl
begun instr state reply (calls call) asked = absurd asked
begun instr state reply (completes done) asked = absurd asked
begun instr state reply (stops stop) asked = absurd asked

-- what a machine between two instructions does next
pub first_effect : (program : Program) (instr : Instr) (state : State) → instr_at program state.pc ≡ Ok instr → next_effect program (between state) ≡ effect_of instr program [] state
first_effect program instr state known = ap (begins program state) known

pub first_after : (program : Program) (instr : Instr) (state : State) → instr_at program state.pc ≡ Ok instr
    → after_next program (between state) ≡ moved_on instr (between state) (effect_of instr program [] state)
first_after program instr state known = ap (after_instr program (between state)) known

-- ---- further replies

pub goes_on : (instr : Instr) (state : State) (replies : List ℕ) (reply : ℕ) (effect : Effect) → IsAsk effect
    → given (moved_on instr (inside instr state replies) effect) reply ≡ inside instr state (replies ++ reply ∷ [])
goes_on instr state replies reply (asks ask) asked = refl
goes_on instr state replies reply (calls call) asked = absurd asked
goes_on instr state replies reply (completes done) asked = absurd asked
goes_on instr state replies reply (stops stop) asked = absurd asked

inside_on : (program : Program) (instr : Instr) (state : State) (replies more : List ℕ) → AsksForEach program (inside instr state replies) more
    → replied_in_turn program (inside instr state replies) more ≡ inside instr state (replies ++ more)
inside_on program instr state replies [] asked = ap (inside instr state) (sym (append-nil replies))
inside_on program instr state replies (reply ∷ more) asked =
    let here : replied program (inside instr state replies) reply ≡ inside instr state (replies ++ reply ∷ []) =
    goes_on instr state replies reply (acts instr program replies state) asked.0 in
    ap (λ m. replied_in_turn program m more) here
    ∙ inside_on program instr state (replies ++ reply ∷ []) more (subst (λ m. AsksForEach program m more) here asked.1)
    ∙ ap (inside instr state) (append_assoc replies (reply ∷ []) more)

-- ---- all of them

-- inside an instruction whose condition has passed
inside_stands : (program : Program) (instr : Instr) (state : State) (replies : List ℕ) → passes (condition_of instr) state.flags ≡ true
    → Stands program instr state replies (inside instr state replies)
inside_stands program instr state replies passed =
    let same : acts instr program replies state ≡ effect_of instr program replies state =
    ap (λ b. if b then acts instr program replies state else completes (advanced state)) (sym passed) in
    record { start = refl; had = refl; effect = same; after = ap (moved_on instr (inside instr state replies)) same }

stands : (program : Program) (instr : Instr) (state : State) (replies : List ℕ) → instr_at program state.pc ≡ Ok instr → AsksForEach program (between state) replies
    → Stands program instr state replies (replied_in_turn program (between state) replies)
stands program instr state [] known asked =
    record { start = refl; had = refl; effect = first_effect program instr state known; after = first_after program instr state known }
stands program instr state (reply ∷ more) known asked =
    let ask : IsAsk (effect_of instr program [] state) = subst IsAsk (first_effect program instr state known) asked.0 in
    let first : replied program (between state) reply ≡ inside instr state (reply ∷ []) =
    ap (λ m. given m reply) (first_after program instr state known) ∙ begun instr state reply (effect_of instr program [] state) ask in
    let all : replied_in_turn program (between state) (reply ∷ more) ≡ inside instr state (reply ∷ more) =
    ap (λ m. replied_in_turn program m more) first
    ∙ inside_on program instr state (reply ∷ []) more (subst (λ m. AsksForEach program m more) first asked.1) in
    subst (Stands program instr state (reply ∷ more)) (sym all)
    (inside_stands program instr state (reply ∷ more) (has_passed (passes (condition_of instr) state.flags) (acts instr program [] state) (advanced state) ask))

pub effect_after : (program : Program) (instr : Instr) (state : State) (replies : List ℕ) → instr_at program state.pc ≡ Ok instr → AsksForEach program (between state) replies
    → next_effect program (replied_in_turn program (between state) replies) ≡ effect_of instr program replies state
effect_after program instr state replies known asked = (stands program instr state replies known asked).effect

pub machine_after : (program : Program) (instr : Instr) (state : State) (replies : List ℕ) → instr_at program state.pc ≡ Ok instr → AsksForEach program (between state) replies
    → after_next program (replied_in_turn program (between state) replies)
    ≡ moved_on instr (replied_in_turn program (between state) replies) (effect_of instr program replies state)
machine_after program instr state replies known asked = (stands program instr state replies known asked).after

pub start_kept : (program : Program) (instr : Instr) (state : State) (replies : List ℕ) → instr_at program state.pc ≡ Ok instr → AsksForEach program (between state) replies
    → (replied_in_turn program (between state) replies).state ≡ state
start_kept program instr state replies known asked = (stands program instr state replies known asked).start

pub replies_kept : (program : Program) (instr : Instr) (state : State) (replies : List ℕ) → instr_at program state.pc ≡ Ok instr → AsksForEach program (between state) replies
    → (replied_in_turn program (between state) replies).replies ≡ replies
replies_kept program instr state replies known asked = (stands program instr state replies known asked).had

-- ---- which replies are asked for

-- a machine that asks for each of some replies asks for each of their beginning, and then for the next one
front_asked : (program : Program) (machine : Machine) (front : List ℕ) (reply : ℕ) (back : List ℕ) → AsksForEach program machine (front ++ reply ∷ back)
    → AsksForEach program machine front × IsAsk (next_effect program (replied_in_turn program machine front))
front_asked program machine [] reply back asked = (tt, asked.0)
front_asked program machine (first ∷ front) reply back asked =
    let later = front_asked program (replied program machine first) front reply back asked.1 in
    ((asked.0, later.0), later.1)

pub asked_of_instr : (program : Program) (instr : Instr) (state : State) (replies : List ℕ) → instr_at program state.pc ≡ Ok instr → AsksForEach program (between state) replies
    → IsAskedForEach instr program replies state
asked_of_instr program instr state replies known asked front back reply same =
    let both = front_asked program (between state) front reply back (subst (AsksForEach program (between state)) (sym same) asked) in
    subst IsAsk (effect_after program instr state front known both.0) both.1

-- one more reply is asked for
one_more : (program : Program) (machine : Machine) (front : List ℕ) (reply : ℕ) → AsksForEach program machine front
    → IsAsk (next_effect program (replied_in_turn program machine front)) → AsksForEach program machine (front ++ reply ∷ [])
one_more program machine [] reply asked ask = (ask, tt)
one_more program machine (first ∷ front) reply asked ask = (asked.0, one_more program (replied program machine first) front reply asked.1 ask)

-- behind a beginning that is asked for, the others are
asked_from : (program : Program) (instr : Instr) (state : State) (front back : List ℕ) → instr_at program state.pc ≡ Ok instr → AsksForEach program (between state) front
    → IsAskedForEach instr program (front ++ back) state → AsksForEach program (between state) (front ++ back)
asked_from program instr state front [] known asked each = subst (AsksForEach program (between state)) (sym (append-nil front)) asked
asked_from program instr state front (reply ∷ back) known asked each =
    let ask : IsAsk (effect_of instr program front state) = each front back reply refl in
    let same : (front ++ reply ∷ []) ++ back ≡ front ++ reply ∷ back = append_assoc front (reply ∷ []) back in
    subst (AsksForEach program (between state)) same
    (asked_from program instr state (front ++ reply ∷ []) back known
    (one_more program (between state) front reply asked (subst IsAsk (sym (effect_after program instr state front known asked)) ask))
    (subst (λ l. IsAskedForEach instr program l state) (sym same) each))

pub asked_by_machine : (program : Program) (instr : Instr) (state : State) (replies : List ℕ) → instr_at program state.pc ≡ Ok instr → IsAskedForEach instr program replies state
    → AsksForEach program (between state) replies
asked_by_machine program instr state replies known each = asked_from program instr state [] replies known tt each
