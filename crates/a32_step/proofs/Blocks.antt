-- What a block asks for is sound.
use Rattle.std.proofs.Common.{◌≡◌, ◌≤◌, ◌<◌, ◌+◌, ◌*◌, ◌^◌, ℕ, zero, suc, Bool, true, false, not, nat_lt, List, Option, None, Some, length, slice_index, arith, refl, subst, sym, if◌then◌else◌}
use Rattle.std.proofs.lemmas.Bool.{ltb-true}
use Rattle.llsc_base.specs.Images.{Program, bar_of, first_barred, or_later, word_place}
use Rattle.llsc_base.specs.declared.access.Bar.{Bar}
use Rattle.llsc_base.specs.declared.access.BarredWord.{BarredWord}
use Rattle.a32_instr.specs.State.{State, Effect, register, advanced, jumps}
use Rattle.llsc_base.specs.Effects.{asks, completes}
use Rattle.a32_instr.specs.Block.{is_listed, registers_of, count_of, block_ask, block_loaded, block_done, block_next, block_at, unless_barred, listed_value, with_block, listed_place}
use Rattle.a32_compute.proofs.Lists.{below_is, registers_most}
use Rattle.a32_step.proofs.Effects.{IsSound, Stands, barred_own, chosen, jumps_stands}

-- where no word is barred, none is
none_barred : (program : Program) (store : Bool) (addr count i : ℕ) → first_barred program store addr count ≡ None → i < count
    → bar_of program (word_place (addr + 4 * i)) store ≡ None
unfolding first_barred
none_barred program store addr zero i none less = absurd (omega (arith, less))
none_barred program store addr (suc count) zero none less =
    let here : addr ≡ addr + 4 * 0 = omega arith in
    subst (λ (a : ℕ). bar_of program (word_place a) store ≡ None) here (first_none (bar_of program (word_place addr) store) (first_barred program store (addr + 4) count) none)
  where
    first_none : (bar : Option Bar) (later : Option BarredWord) → or_later (word_place addr).addr bar later ≡ None → bar ≡ None
    first_none None later e = refl
    first_none (Some bar) later e = cc
none_barred program store addr (suc count) (suc i) none less =
    let next : addr + 4 + 4 * i ≡ addr + 4 * suc i = omega arith in
    subst (λ (a : ℕ). bar_of program (word_place a) store ≡ None) next
    (none_barred program store (addr + 4) count i (later_none (bar_of program (word_place addr) store) (first_barred program store (addr + 4) count) none) (omega (arith, less)))
  where
    later_none : (bar : Option Bar) (later : Option BarredWord) → or_later (word_place addr).addr bar later ≡ None → later ≡ None
    later_none None later e = e
    later_none (Some bar) later e = cc

module _ (words : Type 0) (program : Program) (replies : List ℕ) where
  loaded_stands : (list : ℕ) (back : State) → Stands words program replies (block_loaded list replies back)
  loaded_stands list back =
      chosen words program replies (is_listed list 15) (jumps (with_block list replies back) (listed_value list replies 15)) (completes (advanced (with_block list replies back)))
      (jumps_stands words program replies (with_block list replies back) (listed_value list replies 15)) tt

  done_stands : (load : Bool) (list : ℕ) (back : State) → Stands words program replies (block_done load list replies back)
  done_stands load list back =
      chosen words program replies load (block_loaded list replies back) (completes (advanced back)) (loaded_stands list back) tt

  -- the word of the register that comes next isn't barred
  next_word : (store : Bool) (lowest list : ℕ) → first_barred program store lowest (count_of list) ≡ None → length replies < count_of list
      → bar_of program (listed_place lowest list (slice_index (registers_of list) (length replies))) store ≡ None
  next_word store lowest list none less =
      subst (λ n. bar_of program (word_place (lowest + 4 * n)) store ≡ None) (sym (below_is list (length replies) less))
      (none_barred program store lowest (count_of list) (length replies) none less)

  pub ask_sound : (load : Bool) (lowest list : ℕ) (state : State) → (words → (r : ℕ) → register state r < 2 ^ 32) → first_barred program (not load) lowest (count_of list) ≡ None
      → length replies < count_of list → IsSound words program replies (block_ask load lowest list state (slice_index (registers_of list) (length replies)))
  ask_sound true lowest list state small none less =
      let most : count_of list ≤ 16 = registers_most list in
      record { passes = next_word false lowest list none less; room = omega (arith, most, less); fits = λ are. tt }
  ask_sound false lowest list state small none less =
      let most : count_of list ≤ 16 = registers_most list in
      record {
        passes = next_word true lowest list none less;
        room = omega (arith, most, less);
        fits = λ are. small are (slice_index (registers_of list) (length replies));
      }

  next_stands : (load : Bool) (lowest list : ℕ) (back state : State) (more : Bool) → nat_lt (length replies) (count_of list) ≡ more
      → (words → (r : ℕ) → register state r < 2 ^ 32) → first_barred program (not load) lowest (count_of list) ≡ None
      → Stands words program replies (if more then asks (block_ask load lowest list state (slice_index (registers_of list) (length replies))) else block_done load list replies back)
  next_stands load lowest list back state true test small none = ask_sound load lowest list state small none (ltb-true (length replies) (count_of list) test)
  next_stands load lowest list back state false test small none = done_stands load list back

  unless_stands : (found : Option BarredWord) (effect : Effect) → (found ≡ None → Stands words program replies effect) → Stands words program replies (unless_barred found effect)
  unless_stands None effect p = p refl
  unless_stands (Some word) effect p = barred_own word.bar word.addr

  pub block_stands : (load : Bool) (lowest list : ℕ) (back state : State) → (words → (r : ℕ) → register state r < 2 ^ 32)
      → Stands words program replies (block_at program load lowest list back replies state)
  block_stands load lowest list back state small =
      unless_stands (first_barred program (not load) lowest (count_of list)) (block_next load lowest list back replies state)
      (next_stands load lowest list back state (nat_lt (length replies) (count_of list)) refl small)
