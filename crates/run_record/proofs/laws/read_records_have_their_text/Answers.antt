use Rattle.run_record.proofs.RecordTexts.{record_takes}
use Rattle.run_record.proofs.laws.read_records_have_their_text.Goals as goal

pub returns : goal.returns
returns c = record_takes
