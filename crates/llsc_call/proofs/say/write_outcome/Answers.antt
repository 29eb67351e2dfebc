use Rattle.std.proofs.Common.{subst}
use Rattle.llsc_host.specs.Writes.{Writes}
use Rattle.llsc_report.specs.Report.{report_of}
use Rattle.llsc_call.proofs.say.write_outcome.Goals as goal

pub returns-in-NoRequest-clause-text : goal.returns-in-NoRequest-clause-text
returns-in-NoRequest-clause-text g c = rw c.in-NoRequest.is c.write.ensures

pub returns-in-Unread-clause-text : goal.returns-in-Unread-clause-text
returns-in-Unread-clause-text g c = rw c.in-Unread.is (c.write-in-Unread).ensures

pub returns-in-Beside-clause-text : goal.returns-in-Beside-clause-text
returns-in-Beside-clause-text g c =
    let wrote = c.write_report-in-Beside in
    rw c.in-Beside.is
    (subst (λ ends. Writes g.H.Host c.args.host.now wrote.new.host (report_of c.in-Beside.budget ends) wrote.result) (c.as_slice-in-Beside).ensures.value wrote.ensures)
