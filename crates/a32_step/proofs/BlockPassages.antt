-- A block's words that are accessed one after another.
use Rattle.std.proofs.Common.{◌≡◌, ◌<◌, ◌≤◌, ◌+◌, ◌*◌, ◌%◌, ◌^◌, ℕ, Bool, true, false, if◌then◌else◌, not, Option, None, Some, refl, List, length, slice_index, arith, sym, ap, subst, ◌∙◌}
use Rattle.std.proofs.lemmas.Bool.{le-ltb, lt-ltb}
use Rattle.llsc_base.specs.declared.access.Size.TheVariants.{B4}
use Rattle.llsc_base.specs.Images.{Program, first_barred}
use Rattle.llsc_base.specs.declared.outside.Ask.{Ask}
use Rattle.llsc_base.specs.declared.outside.Ask.TheVariants.{Load, Store}
use Rattle.a32_instr.specs.Block.{below, block, block_ask, block_at, block_back, block_done, block_next, block_size, count_of, is_listed, lowest_address, registers_of, unless_barred}
use Rattle.a32_instr.specs.State.{State, Effect, register}
use Rattle.llsc_base.specs.Effects.{asks, stops, barred}
use Rattle.a32_step.specs.declared.execution.blocks.Transfer.{Transfer}
use Rattle.a32_step.specs.declared.phases.Progress.{Progress}
use Rattle.a32_step.specs.declared.phases.Progress.TheVariants as progress
use Rattle.a32_step.specs.inner.ExecutionState.{ExecutionState, Awaiting, Inside, Stopped, moves, resting}
use Rattle.llsc_base.specs.declared.access.BarredWord.{BarredWord}
use Rattle.a32_step.specs.inner.Progress.{progress_of}
use Rattle.a32_step.specs.inner.Acting.{IsActed, IsGiven, begins, word_ask}
use Rattle.a32_step.proofs.Acting.{acted_by, given_same, stands_over}
use Rattle.guest_core.specs.Ports.{IsAskIn}
use Rattle.llsc_base.specs.inner.Words.{AreWords}
use Rattle.a32_step.proofs.Blocks.{ask_sound}
use Rattle.a32_compute.specs.Lists.{AreLeft}
use Rattle.a32_compute.proofs.Lists.{less, next_listed}
use Rattle.guest_core.proofs.Placed.{passed_placed}
use Rattle.a32_step.proofs.Instructions.{register_fits}

-- the next word's address
pub next_at : (lowest number more addr : ℕ) → addr ≡ (lowest + 4 * number) % 2 ^ 32 → more ≡ number + 1 → (addr + 4) % 2 ^ 32 ≡ (lowest + 4 * more) % 2 ^ 32
next_at lowest number more addr at is = omega (arith, at, is)

module _ (program : Program) (load : Bool) (lowest list : ℕ) (state : State) (had : List ℕ) {r addr : ℕ} {ask : Ask} (is : ask ≡ word_ask load addr r state) (low : r < 16) (listed : is_listed list r ≡ true)
    (left : AreLeft list r (length had)) (at : addr ≡ (lowest + 4 * length had) % 2 ^ 32) (passes : first_barred program (not load) lowest (count_of list) ≡ None) where
  short : length had < count_of list
  short = less list r (length had) low listed left

  word_at : addr ≡ (lowest + 4 * below list r) % 2 ^ 32
  word_at = at ∙ ap (λ n. (lowest + 4 * n) % 2 ^ 32) left.passed

  own_ask : (b : Bool) → word_ask b addr r state ≡ block_ask b lowest list state r
  own_ask true = ap (λ a. Load (record { addr = a; size = B4 })) word_at
  own_ask false = ap (λ a. Store (record { addr = a; size = B4 }) (register state r)) word_at

  next_ask : (b : Bool) → word_ask b addr r state ≡ block_ask b lowest list state (slice_index (registers_of list) (length had))
  next_ask b = own_ask b ∙ ap (block_ask b lowest list state) (sym (next_listed list r (length had) low listed left))

  -- it is the access that the block asks for next
  pub asked : (back : State) → block_at program load lowest list back had state ≡ asks ask
  asked back =
      ap (λ b. unless_barred b (block_next load lowest list back had state)) passes
      ∙ ap (λ b. if b then asks (block_ask load lowest list state (slice_index (registers_of list) (length had))) else block_done load list had back) (lt-ltb (length had) (count_of list) short)
      ∙ ap asks (sym (is ∙ next_ask load))

  -- and may be made
  pub may : AreWords state.regs → IsAskIn (length program.bytes) ask
  may words =
      let sound = ask_sound (AreWords state.regs) program had load lowest list state (register_fits state) passes short in
      subst (IsAskIn (length program.bytes)) (sym (is ∙ next_ask load))
      (passed_placed program (block_ask load lowest list state (slice_index (registers_of list) (length had))) sound.passes, sound.fits words)

-- ---- a block, by its accesses

-- the lowest address, as it was worked out
pub lowest_by : (up before : Bool) (rn list : ℕ) (state : State) {lowest base count : ℕ} → lowest ≡ lowest_address up before base (4 * count) → base ≡ register state rn → count ≡ count_of list
    → lowest ≡ lowest_address up before (register state rn) (block_size list)
lowest_by up before rn list state {lowest} {base} {count} is base_is count_is =
    is ∙ ap (λ b. lowest_address up before b (4 * count)) base_is ∙ ap (λ n. lowest_address up before (register state rn) (4 * n)) count_is

-- the words of a block were tested
pub tested : (program : Program) (t : Transfer) (lowest : ℕ) {count : ℕ} {test last : Option BarredWord} → count ≡ count_of t.list → test ≡ first_barred program (not t.load) lowest count → test ≡ last
    → first_barred program (not t.load) lowest (count_of t.list) ≡ last
tested program t lowest count_is test_is last_is = ap (first_barred program (not t.load) lowest) (sym count_is) ∙ sym test_is ∙ last_is

module _ (program : Program) (t : Transfer) (old : ExecutionState) where
  abbrev effect : List ℕ → Effect
  effect had = block program t.load t.before t.up t.wback t.rn t.list had old.state

  abbrev back : State → State
  back state = block_back t.wback t.up t.rn (block_size t.list) state

  module _ {S : Type 0} {replies : S → Ask → Option ℕ → S → Type 0} {from : S} {lowest : ℕ} (lowest_is : lowest ≡ lowest_address t.up t.before (register old.state t.rn) (block_size t.list)) where
    -- one that is barred stops
    pub barred_acted : {new : ExecutionState} {p : Progress} {word : BarredWord} → first_barred program (not t.load) lowest (count_of t.list) ≡ Some word
        → p ≡ progress.Held → new ≡ record old { stage = Stopped (barred word.bar word.addr) } → IsActed replies effect old from p new from
    barred_acted {word = word} found same moved =
        acted_by effect old.replies (stops (barred word.bar word.addr))
        (ap (λ l. block_at program t.load l t.list (back old.state) old.replies old.state) (sym lowest_is)
        ∙ ap (λ b. unless_barred b (block_next t.load lowest t.list (back old.state) old.replies old.state)) found)
        begins same moved

    module _ (begun standing : ExecutionState) {to : S} (begun_is : begun ≡ record old { stage = Inside }) (passes : first_barred program (not t.load) lowest (count_of t.list) ≡ None)
        (given : (back : State) → IsGiven replies (λ had. block_at program t.load lowest t.list back had begun.state) begun.replies from standing.replies to) where
      effect_is : (had : List ℕ) → effect had ≡ block_at program t.load lowest t.list (back old.state) had begun.state
      effect_is had =
          ap (λ l. block_at program t.load l t.list (back old.state) had old.state) (sym lowest_is)
          ∙ ap (λ (s : ExecutionState). block_at program t.load lowest t.list (back old.state) had s.state) (sym begun_is)

      own : IsGiven replies effect old.replies from standing.replies to
      own = subst (λ first. IsGiven replies effect first from standing.replies to) (ap (λ (s : ExecutionState). s.replies) begun_is)
          (given_same effect effect_is (given (back old.state)))

      -- some of its words have had their replies
      pub part_acted : (ask : Ask) → ((back : State) → block_at program t.load lowest t.list back standing.replies begun.state ≡ asks ask)
          → standing ≡ record begun { stage = Awaiting ask; replies = standing.replies } → IsActed replies effect old from progress.Held standing to
      part_acted ask asked standing_is =
          acted_by effect standing.replies (asks ask) (effect_is standing.replies ∙ asked (back old.state)) own refl
          (standing_is ∙ ap (λ (s : ExecutionState). record s { stage = Awaiting ask; replies = standing.replies }) begun_is)

      module _ (standing_is : standing ≡ record begun { replies = standing.replies }) (all : count_of t.list ≤ length standing.replies) where
        stands_so : standing ≡ record old { stage = Inside; replies = standing.replies }
        stands_so = standing_is ∙ ap (λ (s : ExecutionState). record s { replies = standing.replies }) begun_is

        abbrev done : Effect
        done = block_done t.load t.list standing.replies (back standing.state)

        done_is : effect standing.replies ≡ done
        done_is =
            effect_is standing.replies
            ∙ ap (λ b. unless_barred b (block_next t.load lowest t.list (back old.state) standing.replies begun.state)) passes
            ∙ ap (λ b. if b then asks (block_ask t.load lowest t.list begun.state (slice_index (registers_of t.list) (length standing.replies))) else block_done t.load t.list standing.replies (back old.state))
            (le-ltb (length standing.replies) (count_of t.list) all)
            ∙ ap (λ (s : ExecutionState). block_done t.load t.list standing.replies (back s.state)) (sym stands_so)

        -- all have: it is complete, or stops
        pub all_acted : {after new : ExecutionState} {p last : Progress} → p ≡ progress_of done → after ≡ moves standing done
            → last ≡ p → (p ≡ progress.Complete → new ≡ resting after.state) → (p ≡ progress.Held → new ≡ after)
            → IsActed replies effect old from last new to
        all_acted {after} {new} {p} same moved last_is complete held =
            acted_by effect standing.replies done done_is own (last_is ∙ same) (stands_over old standing after new p done stands_so same moved complete held)
