use Rattle.llsc_call.proofs.RecordAnswers.{record_of_answer}
use Rattle.llsc_call.proofs.laws.records_have_one_history.Goals as goal

pub returns : goal.returns
returns c = record_of_answer
