use Rattle.std.proofs.Common.{rules, ◌≡◌, slice_index, sym, ap, ◌∙◌, arith}
use Rattle.a32_instr.specs.Block.{count_of, registers_of}
use Rattle.a32_compute.proofs.Lists.{left_end, left_first, left_listed, left_unlisted, next_listed}
use Rattle.a32_compute.proofs.registers.listed.Goals as goal

pub loop-r-init : goal.loop-r-init
loop-r-init c = (left_first c.args.list, search rules)

pub loop-r-preserved-then-not-is_listed : goal.loop-r-preserved-then-not-is_listed
loop-r-preserved-then-not-is_listed c = (left_unlisted c.args.list c.loop-r.r c.loop-r.passed (search rules) (search rules) c.loop-r.invariant.0, search rules)

pub loop-r-preserved : goal.loop-r-preserved
loop-r-preserved c = (left_listed c.args.list c.loop-r.r c.loop-r.passed (search rules) (search rules) c.loop-r.invariant.0, search rules)

pub returns-then-passed-number-clause-register : goal.returns-then-passed-number-clause-register
returns-then-passed-number-clause-register c =
    c.new.ensures ∙ sym (next_listed c.args.list c.loop-r.r c.loop-r.passed (search rules) (search rules) c.loop-r.invariant.0)
    ∙ ap (slice_index (registers_of c.args.list)) (search rules)

pub unreachable-requires : goal.unreachable-requires
unreachable-requires c =
    let all : c.loop-r.passed ≡ count_of c.args.list = left_end c.args.list c.loop-r.r c.loop-r.passed c.loop-r-test.false c.loop-r.invariant.0 in
    omega (arith, all, c.requires, c.loop-r.invariant.1)
