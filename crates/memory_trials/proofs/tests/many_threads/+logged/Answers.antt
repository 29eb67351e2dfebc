use Rattle.memory_trials.proofs.ManyNumbers.{has_more}
use Rattle.memory_trials.proofs.tests.many_threads.+logged.Goals as goal

pub returns-clause-all : goal.returns-clause-all
returns-clause-all g t c =
    let ran = c.join-ran.ensures.first in
    let done = c.join-ran.ensures.second in
    has_more g.M.SharedMemory.numbers c.args.first.1 c.in-Some.last c.take_last.new.others.items c.args.others.items c.join-ran.result.0.pass c.join-ran.result.1.1
    c.gather.result.pass c.in-Some.ensures.items ran.1 done.1 c.gather.ensures.numbers
