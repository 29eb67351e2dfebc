use Rattle.std.proofs.Common.{◌++◌, ◌∙◌, ap, subst}
use Rattle.llsc_host.specs.Writes.{Broke, Writes, Wrote}
use Rattle.llsc_report.specs.Summary.{counter_lines, counter_of, load_line, total_line, total_of}
use Rattle.llsc_host.proofs.Kept.{broke_first, broke_second, stopped, stopped_first, writes_both}
use Rattle.llsc_report.proofs.summary.write_summary.Goals as goal

pub returns-in_err-write : goal.returns-in_err-write
returns-in_err-write g c =
    let n = c.args.numbers.now in
    let held = counter_of c.args.rows.now in
    stopped_first g.H.Host c.args.host.now c.write.new.host (load_line n.seed n.threads n.rounds) (counter_lines held 16 ++ total_line (total_of held 16)) c.from_residual.result _ c.from_residual.ensures.1
    (subst (Broke g.H.Host c.args.host.now c.write.new.host) (c.bytes.ensures.text ∙ c.load_line-first.ensures) c.in_err-write.ensures)

pub returns-in_err-write_counters : goal.returns-in_err-write_counters
returns-in_err-write_counters g c =
    let n = c.args.numbers.now in
    let held = counter_of c.args.rows.now in
    let old = c.args.host.now in
    let mid = c.write.new.host in
    let new = c.write_counters.new.host in
    let result = c.from_residual-in_err-write_counters in
    stopped g.H.Host old new (load_line n.seed n.threads n.rounds ++ (counter_lines held 16 ++ total_line (total_of held 16))) result.result _ result.ensures.1
    (broke_second g.H.Host old mid new (load_line n.seed n.threads n.rounds) (counter_lines held 16 ++ total_line (total_of held 16))
    (subst (Wrote g.H.Host old mid) (c.bytes.ensures.text ∙ c.load_line-first.ensures) c.in_ok-write.ensures)
    (broke_first g.H.Host mid new (counter_lines held 16) (total_line (total_of held 16)) c.in_err-write_counters.ensures))

pub returns : goal.returns
returns g c =
    let n = c.args.numbers.now in
    let held = counter_of c.args.rows.now in
    let old = c.args.host.now in
    let mid = c.write.new.host in
    let behind = c.write_counters.new.host in
    let new = (c.write-2).new.host in
    let last = (c.write-2).result in
    writes_both g.H.Host old mid new (load_line n.seed n.threads n.rounds) (counter_lines held 16 ++ total_line (total_of held 16)) last
    (subst (Wrote g.H.Host old mid) (c.bytes.ensures.text ∙ c.load_line-first.ensures) c.in_ok-write.ensures)
    (writes_both g.H.Host mid behind new (counter_lines held 16) (total_line (total_of held 16)) last c.in_ok-write_counters.ensures
    (subst (λ t. Writes g.H.Host behind new t last) ((c.bytes-2).ensures.text ∙ c.total_line-last.ensures ∙ ap total_line c.total.ensures.value) (c.write-2).ensures))
