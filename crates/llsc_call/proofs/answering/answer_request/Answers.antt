use Rattle.llsc_words.specs.Request.{asked}
use Rattle.llsc_host.proofs.Kept.{reads_same}
use Rattle.llsc_call.specs.inner.Files.{files_by}
use Rattle.llsc_call.proofs.Said.{comes_answered, comes_barred, comes_unread}
use Rattle.llsc_call.proofs.answering.answer_request.Goals as goal

pub returns-in-Err-clause-comes : goal.returns-in-Err-clause-comes
returns-in-Err-clause-comes g c =
    comes_barred g.H.Host c.args.host.now (asked c.args.request) c.from.result (c.from-in-Err).result.outcome (c.from-in-Err).result.story c.in-Err.refusal (reads_same g.H.Host c.args.host.now)
    (c.from-in-Err).ensures.outcome (c.from-in-Err).ensures.story c.from.ensures c.in-Err.ensures.refused

pub returns-in-Ok-clause-comes : goal.returns-in-Ok-clause-comes
returns-in-Ok-clause-comes g c =
    let had = c.in-Ok.ensures.had in
    comes_answered g.H.Host c.args.host.now c.read_files.new.host (asked c.args.request) (files_by (asked c.args.request) c.in-Ok.files) c.answer.result.outcome c.answer.result.story
    had.0 had.1.1 c.answer.ensures

pub returns-in-Err-read_files-clause-comes : goal.returns-in-Err-read_files-clause-comes
returns-in-Err-read_files-clause-comes g c =
    let made = c.from-in-Err-read_files in
    comes_unread g.H.Host c.args.host.now c.read_files.new.host (asked c.args.request) c.unread.result made.result.outcome made.result.story c.in-Err-read_files.fault
    made.ensures.outcome made.ensures.story c.unread.ensures c.in-Err-read_files.ensures
