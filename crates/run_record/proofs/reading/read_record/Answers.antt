use Rattle.run_record.proofs.LineLoops.{cause_read, text_read}
use Rattle.run_record.proofs.reading.read_record.Goals as goal

pub returns-clause-text : goal.returns-clause-text
returns-clause-text c = text_read c.args.bytes.now c.record_of.result c.record_of.ensures.read

pub returns-clause-cause : goal.returns-clause-cause
returns-clause-cause c = cause_read c.args.bytes.now c.record_of.result c.record_of.ensures.fault
