-- the header line and the lines so far are written
use Rattle.std.proofs.Common.{◌≡◌, ◌++◌, length, take}
use Rattle.std.specs.Prelude.{flat_map}
use Rattle.run_record.specs.Text.{header_text, line_text}
use Rattle.run_record.proofs.printing.print_record.Given as goal

abbrev pub invariant-loop-access : goal.invariant-loop-access
invariant-loop-access l =
    l.text.items ≡ header_text l.run.threads l.run.granule l.run.budget (length l.accesses) ++ flat_map line_text (take l.access-index l.accesses)
