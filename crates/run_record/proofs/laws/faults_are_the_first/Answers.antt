use Rattle.run_record.proofs.RecordTexts.{fault_first, first_read}
use Rattle.run_record.proofs.laws.faults_are_the_first.Goals as goal

pub returns-clause-first : goal.returns-clause-first
returns-clause-first c = fault_first

pub returns-clause-read : goal.returns-clause-read
returns-clause-read c = first_read
