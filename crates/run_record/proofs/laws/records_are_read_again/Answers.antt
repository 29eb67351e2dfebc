use Rattle.run_record.proofs.RecordTexts.{record_again}
use Rattle.run_record.proofs.laws.records_are_read_again.Goals as goal

pub returns : goal.returns
returns c = record_again
