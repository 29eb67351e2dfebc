-- what was written and what is left are the whole list
use Rattle.std.proofs.Common.{◌≡◌, ◌+◌, ◌≤◌, ◌++◌, length}
use Rattle.a32_instr.specs.Block.{registers_of}
use Rattle.a32_forms.specs.Registers.{list_text}
use Rattle.a32_forms.proofs.ListWritten.{left_text}
use Rattle.a32_forms.proofs.shown_list.write_list.Given as goal

abbrev pub invariant-loop-register : goal.invariant-loop-register
invariant-loop-register l = record {
  whole : l.line ++ left_text l.list l.is_first l.register ≡ l.fn.line ++ list_text (registers_of l.fn.list);
  room : length l.line + length (left_text l.list l.is_first l.register) ≤ 96;
}
