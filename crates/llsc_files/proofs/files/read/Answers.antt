use Rattle.std.proofs.Common.{subst}
use Rattle.llsc_files.specs.Reads.{Reads}
use Rattle.llsc_files.proofs.Answering.{had_by}
use Rattle.llsc_files.proofs.files.read.Goals as goal

pub returns : goal.returns
returns g c =
    let read = c.read_file.ensures in
    subst (λ name. Reads g.H.Host c.args.host.now c.read_file.new.self name c.args.most c.read_file.result) c.in-Ok.ensures.ok
    (record {
      had = had_by g.H.Host c.args.host.now c.read_file.new.self _ c.args.most c.read_file.result read.whole read.fits read.too_long read.cause read.other read.files;
      files = read.files;
      writes = record { written = read.written; write_faults = read.write_faults };
    })
