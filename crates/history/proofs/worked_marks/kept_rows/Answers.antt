-- Byte 8 and byte 15 are bytes of row 1.
use Rattle.std.proofs.Common.{lit<, refl}
use Rattle.llsc_base.specs.Memory.{bytes_of, row_of}
use Rattle.history.specs.Worked.{next_row, small_memory}
use Rattle.history.proofs.Kept.{stored-keeps}
use Rattle.history.proofs.SmallMemory.{apart, sound_next_row}
use Rattle.history.proofs.worked_marks.kept_rows.Goals as goal

pub returns-clause-kept : goal.returns-clause-kept
unfolding row_of
returns-clause-kept c =
    stored-keeps 0 small_memory.memory next_row 1 1 0 2 (sound_next_row 0 (lit< tt)) (apart 2 1 refl)

pub returns-clause-first_byte : goal.returns-clause-first_byte
unfolding row_of bytes_of
returns-clause-first_byte c = λ keeps. apart 1 0 refl (keeps 8 refl)

pub returns-clause-last_byte : goal.returns-clause-last_byte
unfolding row_of bytes_of
returns-clause-last_byte c = λ keeps. apart 1 0 refl (keeps 15 refl)
