-- The assembler's definition, computed on each text.
use Rattle.std.proofs.Common.{refl}
use Rattle.std.specs.Fmt.{digits}
use Rattle.llsc_base.specs.Memory.{bytes_of}
use Rattle.number_text.specs.Digits.{value_in}
use Rattle.a32_instr.specs.Fields.{alu_fits, alu_op, alu_unpredictable, barrier_kind, exclusive_size, half_fits, half_kind, half_unpredictable, block_unpredictable, index_fits, index_of, long_kind, no_pair, one_of_2_is_pc, one_of_3_is_pc, one_of_4_is_pc, shift_kind, signed24, status_clashes, word_unpredictable}
use Rattle.a32_instr.specs.Table.{meaning}
use Rattle.a32_instr.specs.Shift.{turned}
use Rattle.a32_encode.specs.Encoding.{encoding_of}
use Rattle.a32_forms.specs.Text.{parts, front_word, after_word, after_blanks}
use Rattle.a32_forms.specs.Cuts.{before_code, from_code}
use Rattle.a32_forms.specs.Names.{place_from}
use Rattle.a32_forms.specs.Registers.{mask_from}
use Rattle.a32_forms.specs.Forms.{before_mark, chosen_from, from_mark, takes_at_word, takes_from, takes_sign}
use Rattle.a32_syntax.specs.Mnemonics.{as_operation, read_among, with_flags}
use Rattle.a32_syntax.specs.Meaning.{amount_of, branch_to, half_indexed, means, number_and_turn, least_immediate, second_operand, turned_back, word_indexed}
use Rattle.a32_asm.specs.Layout.{next_spot, labels_from, end_from}
use Rattle.a32_asm.specs.Assembled.{unit_from}
use Rattle.stack_runs.proofs.laws.worked_texts.Goals as goal

pub returns : goal.returns
unfolding digits meaning index_of half_kind exclusive_size barrier_kind alu_op shift_kind long_kind alu_fits alu_unpredictable one_of_2_is_pc one_of_3_is_pc one_of_4_is_pc no_pair status_clashes index_fits word_unpredictable half_fits half_unpredictable block_unpredictable signed24 value_in turned parts front_word after_word after_blanks before_code from_code place_from mask_from before_mark from_mark chosen_from takes_from takes_sign takes_at_word with_flags as_operation read_among turned_back least_immediate number_and_turn amount_of second_operand branch_to word_indexed half_indexed means encoding_of bytes_of next_spot labels_from end_from unit_from
returns c = record { fewest = refl; some = refl; most = refl }
