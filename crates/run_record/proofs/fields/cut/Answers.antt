use Rattle.std.proofs.Common.{sym, arith}
use Rattle.run_record.proofs.Cuts.{cut_slice, cut_none}
use Rattle.run_record.proofs.fields.cut.Goals as goal

pub returns-then-byte-code : goal.returns-then-byte-code
returns-then-byte-code c = cut_slice c.args.code c.args.bytes.now c.loop-at.at c.loop-at-test.true c.loop-at.invariant c.if-byte-code.true

pub returns : goal.returns
returns c = sym (cut_none c.args.code c.args.bytes.now (λ k less. c.loop-at.invariant k (omega (arith, less, c.loop-at-test.false))))
