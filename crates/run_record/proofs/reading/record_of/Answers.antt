use Rattle.std.proofs.Common.{Ok, sym, ap, ◌∙◌, arith}
use Rattle.run_record.proofs.LineLoops.{few_threads, header_fault, header_read, long_header, no_header, small_granule}
use Rattle.run_record.proofs.reading.record_of.Goals as goal

pub returns-in_default-clause-fault : goal.returns-in_default-clause-fault
returns-in_default-clause-fault c = no_header c.args.bytes.now c.in_default.ensures

pub returns-then-header-clause-fault : goal.returns-then-header-clause-fault
returns-then-header-clause-fault c =
    long_header c.args.bytes.now (c.in-Some.header, c.in-Some.rest.now) c.in-Some.ensures c.if-header.true

pub overflow_cast-threads : goal.overflow_cast-threads
overflow_cast-threads c = let few = few_threads c.args.bytes.now (c.in-Some.header, c.in-Some.rest.now) c.in-Some.ensures in omega (arith, few)

pub overflow_cast-granule : goal.overflow_cast-granule
overflow_cast-granule c =
    let small = small_granule c.args.bytes.now (c.in-Some.header, c.in-Some.rest.now) c.in-Some.ensures in omega (arith, small)

pub returns-in-Ok-clause-read : goal.returns-in-Ok-clause-read
returns-in-Ok-clause-read c =
    header_read c.args.bytes.now (c.in-Some.header, c.in-Some.rest.now) c.new.result c.in-Some.ensures c.if-header.false (c.in-Ok.ensures.read ∙ ap Ok (sym c.new.ensures))

pub returns-in-Err-clause-fault : goal.returns-in-Err-clause-fault
returns-in-Err-clause-fault c =
    header_fault c.args.bytes.now (c.in-Some.header, c.in-Some.rest.now) c.in-Err.fault c.in-Some.ensures c.if-header.false c.in-Err.ensures.fault
