use Rattle.std.proofs.Common.{◌≡◌, ◌≤◌, ◌++◌, length, take, drop, true, arith, ap, ◌∙◌, length-append, rules}
use Rattle.std.specs.Result.{is_ok}
use Rattle.std.proofs.lemmas.List.{length-take-le, take-append-le}
use Rattle.llsc_host.proofs.Streams.{consumes_on, consumes_kept, longer}
use Rattle.llsc_host.proofs.real_host.read_within.Goals as goal
use Rattle.llsc_host.proofs.real_host.read_within.Goals.{in-Ok-2+else-is_err, in-Err}

pub returns-in-Ok-clause-too_long : goal.returns-in-Ok-clause-too_long
returns-in-Ok-clause-too_long g c _ =
    let within : c.in-Ok.count ≤ length c.read.new.buf = c.in-Ok.ensures.bound.0 in
    let taken : length (take c.in-Ok.count c.read.new.buf) ≡ c.in-Ok.count = length-take-le c.in-Ok.count c.read.new.buf within in
    longer (g.R.Read.remaining c.args.file.now) (g.R.Read.remaining c.loop.file) (g.R.Read.remaining c.read.new.self)
    c.loop.bytes.items (take c.in-Ok.count c.read.new.buf) c.args.most
    c.loop.invariant.1 c.in-Ok.ensures.bytes.0 (omega (arith, c.loop.bytes.ok.0))

pub loop-preserved : goal.loop-preserved
loop-preserved g c =
    elim c.match-read.branch [
      | in-Ok-2+else-is_err w ↦
          let within : w.in-Ok.count ≤ length c.read.new.buf = w.in-Ok.ensures.bound.0 in
          let taken : length (take w.in-Ok.count c.read.new.buf) ≡ w.in-Ok.count = length-take-le w.in-Ok.count c.read.new.buf within in
          let front : take w.in-Ok.count (c.read.new.buf ++ drop c.min-wanted.result c.loop.piece) ≡ take w.in-Ok.count c.read.new.buf = rw take-append-le in
          let added : is_ok w.extend_from_slice.result ≡ true = search rules in
          let pushed = rw added at w.extend_from_slice.ensures.items in
          let items : c.match-read.bytes.items ≡ c.loop.bytes.items ++ take w.in-Ok.count c.read.new.buf = cc in
          let sum = ap length items ∙ length-append c.loop.bytes.items (take w.in-Ok.count c.read.new.buf) in (
            omega (arith, sum, c.match-read.bytes.ok.0, c.loop.bytes.ok.0),
            rw items (consumes_on (g.R.Read.remaining c.args.file.now) (g.R.Read.remaining c.loop.file) (g.R.Read.remaining c.read.new.self)
                c.loop.bytes.items (take w.in-Ok.count c.read.new.buf) c.loop.invariant.1 w.in-Ok.ensures.bytes.0),
          )
      | in-Err w ↦
          rw w.bytes-is (
            c.loop.invariant.0,
            consumes_kept (g.R.Read.remaining c.args.file.now) (g.R.Read.remaining c.loop.file) (g.R.Read.remaining c.read.new.self)
                c.loop.bytes.items c.loop.invariant.1 w.in-Err.ensures.bytes,
          )
    ]
