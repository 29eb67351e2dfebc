use Rattle.std.proofs.Common.{Ok, Err, subst}
use Rattle.llsc_words.specs.Request.{asked}
use Rattle.llsc_call.specs.inner.Files.{ReadWanted}
use Rattle.llsc_call.proofs.Had.{all_had, first_unread, second_unread, unread_passed}
use Rattle.llsc_call.proofs.files.read_files.Goals as goal

pub returns-in_err-first : goal.returns-in_err-first
returns-in_err-first g c =
    let wanted = asked c.args.request in
    let fault = c.in_err-first.field-0.0 in
    unread_passed g.H.Host c.args.host.now c.read_wanted.new.host wanted c.from_residual.result fault c.from_residual.ensures.1
    (first_unread g.H.Host c.args.host.now c.read_wanted.new.host wanted fault c.requires
    (subst (λ file. ReadWanted g.H.Host c.args.host.now c.read_wanted.new.host file (Err fault)) c.first_file.ensures c.in_err-first.ensures))

pub returns-in_err-second : goal.returns-in_err-second
returns-in_err-second g c =
    let wanted = asked c.args.request in
    let fault = c.in_err-second.field-0.0 in
    let result = c.from_residual-in_err-second in
    let mid = c.read_wanted.new.host in
    let new = (c.read_wanted-2).new.host in
    unread_passed g.H.Host c.args.host.now new wanted result.result fault result.ensures.1
    (second_unread g.H.Host c.args.host.now mid new wanted c.in_ok-first.first fault
    (subst (λ file. ReadWanted g.H.Host c.args.host.now mid file (Ok c.in_ok-first.first)) c.first_file.ensures c.in_ok-first.ensures)
    (subst (λ file. ReadWanted g.H.Host mid new file (Err fault)) c.second_file.ensures c.in_err-second.ensures))

pub returns : goal.returns
returns g c =
    let mid = c.read_wanted.new.host in
    let new = (c.read_wanted-2).new.host in
    all_had g.H.Host c.args.host.now mid new (asked c.args.request) (record { first = c.in_ok-first.first; second = c.in_ok-second.second })
    (subst (λ file. ReadWanted g.H.Host c.args.host.now mid file (Ok c.in_ok-first.first)) c.first_file.ensures c.in_ok-first.ensures)
    (subst (λ file. ReadWanted g.H.Host mid new file (Ok c.in_ok-second.second)) c.second_file.ensures c.in_ok-second.ensures)
