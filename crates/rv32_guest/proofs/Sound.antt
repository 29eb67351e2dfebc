-- What a machine asks for next has passed its tests and is the one access of its instruction, and a stop that it comes to is an
-- instruction's.
use Rattle.std.proofs.Common.{◌≡◌, ◌≢◌, ℕ, ◌%◌, ◌<◌, ◌==◌, not, nat_lt, if◌then◌else◌, Bool, true, false, ℤ, Option, Some, None, Result, Ok, Err, List, [], ◌∷◌, length, arith, refl, sym, subst}
use Rattle.llsc_base.specs.Images.{Program, bar_of, word_at}
use Rattle.llsc_base.specs.declared.access.Bar.{Bar}
use Rattle.llsc_base.specs.declared.access.Bar.TheVariants as bar
use Rattle.llsc_base.specs.declared.access.Place.{Place}
use Rattle.llsc_base.specs.declared.access.Size.TheVariants.{B1, B2, B4}
use Rattle.llsc_base.specs.declared.decoding.DecodeFault.{DecodeFault}
use Rattle.llsc_base.specs.declared.decoding.DecodeFault.TheVariants as fault
use Rattle.llsc_base.specs.declared.outside.Ask.{Ask}
use Rattle.llsc_base.specs.declared.outside.Ask.TheVariants as ask
use Rattle.llsc_base.specs.declared.outside.Stop.{Stop}
use Rattle.llsc_base.specs.declared.outside.Stop.TheVariants as stop
use Rattle.llsc_base.specs.Effects.{barred, asks, calls, completes, stops, asks_unless}
use Rattle.guest_core.specs.Phase.{PhaseOf, Between, Inside, Awaiting, Calling, Stopped}
use Rattle.guest_core.specs.Machine.{begins_of, next_in_of, next_of, GoesOn, GoesOnWith, IsOwn, PassesTests}
use Rattle.rv32_guest.specs.declared.instructions.RvInstr.{RvInstr}
use Rattle.rv32_guest.specs.declared.instructions.RvInstr.TheVariants.{Lui, Auipc, Jal, Jalr, Beq, Bne, Blt, Bge, Bltu, Bgeu, Lb, Lh, Lw, Lbu, Lhu, Sb, Sh, Sw, Addi, Slti, Sltiu, Xori, Ori, Andi, Slli, Srli, Srai, Add, Sub, Sll, Slt, Sltu, Xor, Srl, Sra, Or, And, Fence, LrW, ScW, Ecall}
use Rattle.rv32_guest.specs.State.{RvState, Effect, register, jumps}
use Rattle.rv32_guest.specs.Computing.{moved, is_less_signed, even}
use Rattle.rv32_guest.specs.Accesses.{loads, stores, reserves, stores_conditionally, place_of}
use Rattle.rv32_guest.specs.Effect.{acts, branches}
use Rattle.guest_core.specs.Fetched.{decoded, instr_of_word}
use Rattle.rv32_guest.specs.Machine.{Machine, rv32}
use Rattle.rv32_guest.specs.Stops.{IsStop}
use Rattle.rv32_guest.specs.Table.{table, meaning}
use Rattle.rv32_guest.proofs.Meanings.{predictable}

-- a stop that one of these instructions makes
abbrev IsMade : Stop → Type 0
IsMade (stop.Undefined addr) = Unit {0}
IsMade (stop.Alignment addr) = Unit {0}
IsMade (stop.Outside addr) = Unit {0}
IsMade (stop.ReadOnly addr) = Unit {0}
IsMade _ = ⊥

-- an access has passed its tests and is the first of its instruction, and a stop is one of these instructions
abbrev Stands : Program → List ℕ → Effect → Type 0
Stands program replies (asks asked) = PassesTests program asked × (length replies < 16)
Stands program replies (calls call) = Unit {0}
Stands program replies (completes state) = Unit {0}
Stands program replies (stops stop) = IsMade stop

barred_stops : (bar : Bar) (addr : ℕ) → IsMade (barred bar addr)
barred_stops bar.Alignment addr = tt
barred_stops bar.Outside addr = tt
barred_stops bar.ReadOnly addr = tt

made_own : (why : Stop) → IsMade why → IsOwn why × IsStop why
made_own (stop.Exit code) is = absurd is
made_own (stop.Undefined addr) is = (tt, tt)
made_own (stop.Unpredictable addr) is = absurd is
made_own (stop.Thumb addr) is = absurd is
made_own (stop.Outside addr) is = (tt, tt)
made_own (stop.Alignment addr) is = (tt, tt)
made_own (stop.ReadOnly addr) is = (tt, tt)
made_own (stop.TagLimit addr) is = absurd is
made_own stop.Budget is = absurd is

module _ (program : Program) where
  chosen : (replies : List ℕ) (b : Bool) (x y : Effect) → Stands program replies x → Stands program replies y → Stands program replies (if b then x else y)
  chosen replies true x y p q = p
  chosen replies false x y p q = q

  jumps_stand : (replies : List ℕ) (state : RvState) (rd target : ℕ) → Stands program replies (jumps state rd target)
  jumps_stand replies state rd target = chosen replies (target % 4 == 0) _ _ tt tt

  branches_stand : (replies : List ℕ) (state : RvState) (taken : Bool) (distance : ℤ) → Stands program replies (branches state taken distance)
  branches_stand replies state taken distance = chosen replies taken _ _ (jumps_stand replies state 0 (moved state.pc distance)) tt

  unless_stands : (asked : Ask) (found : Option Bar) (addr : ℕ) → (found ≡ None → PassesTests program asked) → Stands program [] (asks_unless found addr asked)
  unless_stands asked None addr passed = (passed refl, omega arith)
  unless_stands asked (Some bar) addr passed = barred_stops bar addr

  loads_stand : (place : Place) (with_sign : Bool) (rd : ℕ) (replies : List ℕ) (state : RvState) → Stands program replies (loads program place with_sign rd replies state)
  loads_stand place with_sign rd [] state = unless_stands (ask.Load place) (bar_of program place false) place.addr (λ none. none)
  loads_stand place with_sign rd (reply ∷ replies) state = tt

  stores_stand : (place : Place) (value : ℕ) (replies : List ℕ) (state : RvState) → Stands program replies (stores program place value replies state)
  stores_stand place value [] state = unless_stands (ask.Store place _) (bar_of program place true) place.addr (λ none. none)
  stores_stand place value (reply ∷ replies) state = tt

  reserves_stand : (addr rd : ℕ) (replies : List ℕ) (state : RvState) → Stands program replies (reserves program addr rd replies state)
  reserves_stand addr rd [] state = unless_stands (ask.LoadEx (place_of B4 addr)) (bar_of program (place_of B4 addr) false) addr (λ none. none)
  reserves_stand addr rd (reply ∷ replies) state = tt

  conditional_stands : (addr value rd : ℕ) (replies : List ℕ) (state : RvState) → Stands program replies (stores_conditionally program addr value rd replies state)
  conditional_stands addr value rd [] state = unless_stands (ask.StoreEx (place_of B4 addr) value) (bar_of program (place_of B4 addr) true) addr (λ none. none)
  conditional_stands addr value rd (reply ∷ replies) state = tt

  acts_stand : (replies : List ℕ) (state : RvState) (instr : RvInstr) → Stands program replies (acts instr program replies state)
  acts_stand replies state (Lui rd imm) = tt
  acts_stand replies state (Auipc rd imm) = tt
  acts_stand replies state (Jal rd imm) = jumps_stand replies state rd (moved state.pc imm)
  acts_stand replies state (Jalr rd rs1 imm) = jumps_stand replies state rd (even (moved (register state rs1) imm))
  acts_stand replies state (Beq rs1 rs2 imm) = branches_stand replies state (register state rs1 == register state rs2) imm
  acts_stand replies state (Bne rs1 rs2 imm) = branches_stand replies state (not (register state rs1 == register state rs2)) imm
  acts_stand replies state (Blt rs1 rs2 imm) = branches_stand replies state (is_less_signed (register state rs1) (register state rs2)) imm
  acts_stand replies state (Bge rs1 rs2 imm) = branches_stand replies state (not (is_less_signed (register state rs1) (register state rs2))) imm
  acts_stand replies state (Bltu rs1 rs2 imm) = branches_stand replies state (nat_lt (register state rs1) (register state rs2)) imm
  acts_stand replies state (Bgeu rs1 rs2 imm) = branches_stand replies state (not (nat_lt (register state rs1) (register state rs2))) imm
  acts_stand replies state (Lb rd rs1 imm) = loads_stand (place_of B1 (moved (register state rs1) imm)) true rd replies state
  acts_stand replies state (Lh rd rs1 imm) = loads_stand (place_of B2 (moved (register state rs1) imm)) true rd replies state
  acts_stand replies state (Lw rd rs1 imm) = loads_stand (place_of B4 (moved (register state rs1) imm)) false rd replies state
  acts_stand replies state (Lbu rd rs1 imm) = loads_stand (place_of B1 (moved (register state rs1) imm)) false rd replies state
  acts_stand replies state (Lhu rd rs1 imm) = loads_stand (place_of B2 (moved (register state rs1) imm)) false rd replies state
  acts_stand replies state (Sb rs1 rs2 imm) = stores_stand (place_of B1 (moved (register state rs1) imm)) (register state rs2) replies state
  acts_stand replies state (Sh rs1 rs2 imm) = stores_stand (place_of B2 (moved (register state rs1) imm)) (register state rs2) replies state
  acts_stand replies state (Sw rs1 rs2 imm) = stores_stand (place_of B4 (moved (register state rs1) imm)) (register state rs2) replies state
  acts_stand replies state (Addi rd rs1 imm) = tt
  acts_stand replies state (Slti rd rs1 imm) = tt
  acts_stand replies state (Sltiu rd rs1 imm) = tt
  acts_stand replies state (Xori rd rs1 imm) = tt
  acts_stand replies state (Ori rd rs1 imm) = tt
  acts_stand replies state (Andi rd rs1 imm) = tt
  acts_stand replies state (Slli rd rs1 amount) = tt
  acts_stand replies state (Srli rd rs1 amount) = tt
  acts_stand replies state (Srai rd rs1 amount) = tt
  acts_stand replies state (Add rd rs1 rs2) = tt
  acts_stand replies state (Sub rd rs1 rs2) = tt
  acts_stand replies state (Sll rd rs1 rs2) = tt
  acts_stand replies state (Slt rd rs1 rs2) = tt
  acts_stand replies state (Sltu rd rs1 rs2) = tt
  acts_stand replies state (Xor rd rs1 rs2) = tt
  acts_stand replies state (Srl rd rs1 rs2) = tt
  acts_stand replies state (Sra rd rs1 rs2) = tt
  acts_stand replies state (Or rd rs1 rs2) = tt
  acts_stand replies state (And rd rs1 rs2) = tt
  acts_stand replies state Fence = tt
  acts_stand replies state (LrW rd rs1) = reserves_stand (register state rs1) rd replies state
  acts_stand replies state (ScW rd rs1 rs2) = conditional_stands (register state rs1) (register state rs2) rd replies state
  acts_stand replies state Ecall = tt

  decoded_stands : (state : RvState) (found : Result RvInstr DecodeFault) → found ≢ Err fault.Unpredictable → Stands program [] (begins_of rv32 program state (decoded state.pc found))
  decoded_stands state (Ok instr) predictable = acts_stand [] state instr
  decoded_stands state (Err fault.Undefined) predictable = tt
  decoded_stands state (Err fault.Unpredictable) predictable = absurd (predictable refl)

  begins_stand : (state : RvState) (word : Option ℕ) → Stands program [] (begins_of rv32 program state (instr_of_word (meaning table) state.pc word))
  begins_stand state None = tt
  begins_stand state (Some word) = decoded_stands state (meaning table word) (predictable table word)

  -- the replies that the instruction of a machine has had
  abbrev replies_in : List ℕ → PhaseOf RvInstr → List ℕ
  replies_in replies Between = []
  replies_in replies _ = replies

  stands_in : (machine : Machine) (phase : PhaseOf RvInstr) → GoesOn phase → Stands program (replies_in machine.replies phase) (next_in_of rv32 program machine phase)
  stands_in machine Between goes = begins_stand machine.state (word_at program machine.state.pc)
  stands_in machine (Inside instr) goes = acts_stand machine.replies machine.state instr
  stands_in machine (Awaiting instr asked) goes = absurd goes
  stands_in machine (Calling call) goes = absurd goes
  stands_in machine (Stopped stop) goes = absurd goes

  next_stands : (machine : Machine) (effect : Effect) → GoesOn machine.phase → next_of rv32 program machine ≡ effect → Stands program (replies_in machine.replies machine.phase) effect
  next_stands machine effect goes same = subst (Stands program (replies_in machine.replies machine.phase)) same (stands_in machine machine.phase goes)

  pub next_passes : (machine : Machine) (asked : Ask) → GoesOn machine.phase → next_of rv32 program machine ≡ asks asked → PassesTests program asked
  next_passes machine asked goes same = (next_stands machine (asks asked) goes same).0

  pub next_stops : (machine : Machine) (why : Stop) → GoesOn machine.phase → next_of rv32 program machine ≡ stops why → IsStop why
  next_stops machine why goes same = (made_own why (next_stands machine (stops why) goes same)).1

  pub next_own : (machine : Machine) (why : Stop) → GoesOn machine.phase → next_of rv32 program machine ≡ stops why → IsOwn why
  next_own machine why goes same = (made_own why (next_stands machine (stops why) goes same)).0

  goes_on : (phase : PhaseOf RvInstr) (replies : List ℕ) → GoesOnWith phase replies → GoesOn phase × (replies_in replies phase ≡ replies)
  goes_on Between replies none = (tt, sym none)
  goes_on (Inside instr) replies goes = (tt, refl)
  goes_on (Awaiting instr asked) replies goes = absurd goes
  goes_on (Calling call) replies goes = absurd goes
  goes_on (Stopped stop) replies goes = absurd goes

  pub next_room : (machine : Machine) (asked : Ask) → GoesOnWith machine.phase machine.replies → next_of rv32 program machine ≡ asks asked → length machine.replies < 16
  next_room machine asked goes same =
      let on = goes_on machine.phase machine.replies goes in
      subst (λ (l : List ℕ). length l < 16) on.1 (next_stands machine (asks asked) on.0 same).1
