use Rattle.std.proofs.Common.{refl}
use Rattle.number_text.specs.Hexadecimal.{half_text, word_text}
use Rattle.a32_instr.specs.Fields.{index_of, half_kind, exclusive_size, barrier_kind, alu_op, shift_kind, long_kind, alu_fits, alu_unpredictable, one_of_2_is_pc, one_of_3_is_pc, one_of_4_is_pc, no_pair, status_clashes, index_fits, word_unpredictable, half_fits, half_unpredictable, block_unpredictable, signed24}
use Rattle.a32_instr.specs.Table.{meaning}
use Rattle.a32_instr.specs.Shift.{turned}
use Rattle.a32_instr.specs.Branch.{target_of}
use Rattle.a32_instr.specs.Block.{registers_of}
use Rattle.a32_forms.specs.Registers.{list_text}
use Rattle.a32_forms.specs.Written.{number_text, sign_text, written}
use Rattle.a32_syntax.specs.Meaning.{turned_back}
use Rattle.a32_syntax.specs.Shown.{access_numbers, half_form, operand_form, operand_numbers, showing_of, word_form}
use Rattle.a32_syntax.proofs.WorkedDecimals.{shows_0, shows_1, shows_3, shows_4, shows_8, shows_15, shows_18, shows_25, shows_28, shows_30, shows_32, shows_260, shows_8192, shows_26125}
use Rattle.a32_syntax.proofs.worked_shown.worked_showings.Goals as goal

pub returns : goal.returns
unfolding meaning index_of half_kind exclusive_size barrier_kind alu_op shift_kind long_kind alu_fits alu_unpredictable one_of_2_is_pc one_of_3_is_pc one_of_4_is_pc no_pair status_clashes index_fits word_unpredictable half_fits half_unpredictable block_unpredictable signed24 turned target_of registers_of half_text word_text list_text number_text sign_text written turned_back operand_form operand_numbers word_form half_form access_numbers showing_of
returns c = record {
  adds = rw (shows_1) refl;
  turns = rw (shows_8192) refl;
  reverses = rw (shows_1) refl;
  shifts_right = rw (shows_28) refl;
  shifts_left = rw (shows_3) refl;
  shifts_by_32 = rw (shows_32) refl;
  shifts_through_carry = refl;
  shifts_by_register = refl;
  compares = rw (shows_3) refl;
  least_turn = rw (shows_260) refl;
  other_turn = rw (shows_4, shows_30) refl;
  moves_wide = rw (shows_26125) refl;
  moves_top = rw (shows_25) refl;
  multiplies = refl;
  multiplies_long = refl;
  loads = rw (shows_3) refl;
  stores = rw (shows_3) refl;
  loads_byte = rw (shows_1) refl;
  writes_back = rw (shows_4) refl;
  takes_0 = rw (shows_0) refl;
  adds_0 = refl;
  loads_half = rw (shows_18) refl;
  loads_signed_byte = refl;
  loads_block = refl;
  stores_block = refl;
  branches = refl;
  branches_below_0 = refl;
  returns = refl;
  calls = rw (shows_0) refl;
  counts = refl;
  turns_round = refl;
  extends = rw (shows_8) refl;
  loads_exclusive = refl;
  loads_two = refl;
  stores_exclusive = refl;
  clears = refl;
  waits = rw (shows_15) refl;
}
