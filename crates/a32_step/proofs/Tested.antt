-- What a machine asks for next has passed its tests, and a stop that it comes to is an instruction's.
use Rattle.std.proofs.Common.{◌≡◌, ℕ, ◌<◌, Option, Some, None, Result, Ok, Err, List, [], length, refl, sym, subst}
use Rattle.llsc_base.specs.Images.{Program, word_at}
use Rattle.llsc_base.specs.declared.outside.Ask.{Ask}
use Rattle.llsc_base.specs.declared.outside.Stop.{Stop}
use Rattle.llsc_base.specs.declared.decoding.DecodeFault.{DecodeFault}
use Rattle.llsc_base.specs.declared.decoding.DecodeFault.TheVariants as fault
use Rattle.a32_instr.specs.declared.instructions.Instr.{Instr}
use Rattle.a32_instr.specs.State.{State, advanced}
use Rattle.llsc_base.specs.Effects.{asks, completes, stops}
use Rattle.a32_instr.specs.Condition.{passes}
use Rattle.a32_instr.specs.Effect.{acts, condition_of}
use Rattle.a32_instr.specs.Table.{table, meaning}
use Rattle.guest_core.specs.declared.phases.Wanted.{Wanted}
use Rattle.llsc_base.specs.inner.Words.{AreWords}
use Rattle.guest_core.specs.Fetched.{decoded, instr_of_word}
use Rattle.a32_step.specs.Machine.{Machine, next_effect}
use Rattle.a32_step.specs.inner.Machine.{Phase, begins, next_in}
use Rattle.guest_core.specs.Phase.{Between, Inside, Awaiting, Calling, Stopped}
pub use Rattle.guest_core.specs.Machine.{GoesOn, GoesOnWith}
use Rattle.guest_core.specs.Machine.{wanted_of, AwaitsNothing, IsTested, PassesTests, IsOwn}
use Rattle.a32_step.proofs.Effects.{IsSound, Stands, allowed, chosen}
use Rattle.a32_step.proofs.Instructions.{acts_stand}

-- the instruction that a decoded word means, or the stop at one that means none
decoded_stands : (program : Program) (state : State) (found : Result Instr DecodeFault) → Stands (AreWords state.regs) program [] (begins program state (decoded state.pc found))
decoded_stands program state (Ok instr) =
    chosen (AreWords state.regs) program [] (passes (condition_of instr) state.flags) (acts instr program [] state) (completes (advanced state)) (acts_stand program [] state instr) tt
decoded_stands program state (Err fault.Undefined) = tt
decoded_stands program state (Err fault.Unpredictable) = tt

begins_stand : (program : Program) (state : State) (word : Option ℕ) → Stands (AreWords state.regs) program [] (begins program state (instr_of_word (meaning table) state.pc word))
begins_stand program state None = tt
begins_stand program state (Some word) = decoded_stands program state (meaning table word)

-- the replies that the instruction of a machine has had
abbrev replies_in : List ℕ → Phase → List ℕ
replies_in replies Between = []
replies_in replies _ = replies

stands_in : (program : Program) (machine : Machine) (phase : Phase) → GoesOn phase
    → Stands (AreWords machine.state.regs) program (replies_in machine.replies phase) (next_in program machine phase)
stands_in program machine Between goes = begins_stand program machine.state (word_at program machine.state.pc)
stands_in program machine (Inside instr) goes = acts_stand program machine.replies machine.state instr
stands_in program machine (Awaiting instr ask) goes = absurd goes
stands_in program machine (Calling call) goes = absurd goes
stands_in program machine (Stopped stop) goes = absurd goes

-- an access that a machine asks for next is sound
next_sound : (program : Program) (machine : Machine) (asked : Ask) → GoesOn machine.phase → next_effect program machine ≡ asks asked
    → IsSound (AreWords machine.state.regs) program (replies_in machine.replies machine.phase) asked
next_sound program machine asked goes same =
    subst (Stands (AreWords machine.state.regs) program (replies_in machine.replies machine.phase)) same (stands_in program machine machine.phase goes)

-- it has passed its tests
pub next_passes : (program : Program) (machine : Machine) (asked : Ask) → GoesOn machine.phase → next_effect program machine ≡ asks asked → PassesTests program asked
next_passes program machine asked goes same = (next_sound program machine asked goes same).passes

-- a stop that a machine comes to next is an instruction's
pub next_own : (program : Program) (machine : Machine) (why : Stop) → GoesOn machine.phase → next_effect program machine ≡ stops why → IsOwn why
next_own program machine why goes same =
    subst (Stands (AreWords machine.state.regs) program (replies_in machine.replies machine.phase)) same (stands_in program machine machine.phase goes)

goes_on : (phase : Phase) (replies : List ℕ) → GoesOnWith phase replies → GoesOn phase × (replies_in replies phase ≡ replies)
goes_on Between replies none = (tt, sym none)
goes_on (Inside instr) replies goes = (tt, refl)
goes_on (Awaiting instr asked) replies goes = absurd goes
goes_on (Calling call) replies goes = absurd goes
goes_on (Stopped stop) replies goes = absurd goes

-- where such a machine asks for an access, it has had fewer than 16 replies
pub next_room : (program : Program) (machine : Machine) (asked : Ask) → GoesOnWith machine.phase machine.replies → next_effect program machine ≡ asks asked
    → length machine.replies < 16
next_room program machine asked goes same =
    let on = goes_on machine.phase machine.replies goes in
    subst (λ (l : List ℕ). length l < 16) on.1 (next_sound program machine asked on.0 same).room

tested_in : (program : Program) (machine : Machine) (phase : Phase) → AreWords machine.state.regs → (phase ≡ Between → machine.replies ≡ []) → AwaitsNothing phase
    → IsTested program machine.replies (wanted_of (next_in program machine phase))
tested_in program machine Between words none ready =
    subst (λ (l : List ℕ). IsTested program l (wanted_of (next_in program machine Between))) (sym (none refl))
    (allowed (AreWords machine.state.regs) program [] (next_in program machine Between) words (stands_in program machine Between tt))
tested_in program machine (Inside instr) words none ready =
    allowed (AreWords machine.state.regs) program machine.replies (next_in program machine (Inside instr)) words (stands_in program machine (Inside instr) tt)
tested_in program machine (Awaiting instr ask) words none ready = absurd ready
tested_in program machine (Calling call) words none ready = absurd ready
tested_in program machine (Stopped stop) words none ready = tt

-- what is wanted by what a machine does next
pub next_tested : (program : Program) (machine : Machine) (w : Wanted) → AreWords machine.state.regs → (machine.phase ≡ Between → machine.replies ≡ []) → AwaitsNothing machine.phase
    → w ≡ wanted_of (next_effect program machine) → IsTested program machine.replies w
next_tested program machine w words none ready e =
    subst (λ (v : Wanted). IsTested program machine.replies v) (sym e) (tested_in program machine machine.phase words none ready)
