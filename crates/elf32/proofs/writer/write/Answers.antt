use Rattle.elf32.proofs.Pushed.{file_by}
use Rattle.elf32.proofs.Accepted.{accepted}
use Rattle.std.proofs.Common.{◌≡◌, rules}
use Rattle.elf32.specs.Written.{written_file}
use Rattle.elf32.proofs.writer.write.Goals as goal

pub returns-clause-file : goal.returns-clause-file
returns-clause-file c =
    file_by c.args.unit.now c.in_ok-file.file.items c.push_file_header.new.file.items c.push_program_header.new.file.items
    (c.push_program_header-2).new.file.items c.push_words.new.file.items c.extend_from_slice.new.self.items c.code_header.result c.data_header.result
    (search rules) (search rules) (search rules) (search rules) (search rules) (search rules) (search rules) (search rules)

pub returns-clause-accepted : goal.returns-clause-accepted
returns-clause-accepted c = let file : c.extend_from_slice.new.self.items ≡ written_file c.args.unit.now = returns-clause-file c in
    λ size filled fits. rw file (accepted c.args.unit.now size c.requires filled fits)
