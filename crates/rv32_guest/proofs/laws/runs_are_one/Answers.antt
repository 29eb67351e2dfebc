use Rattle.guest_calls.proofs.Asked.{one_ask, asks_or_ends}
use Rattle.guest_calls.proofs.Listed.{one_end_of_list}
use Rattle.rv32_guest.specs.Machine.{rv32}
use Rattle.rv32_guest.proofs.laws.runs_are_one.Goals as goal

pub returns-clause-end : goal.returns-clause-end
returns-clause-end c = one_end_of_list rv32

pub returns-clause-ask : goal.returns-clause-ask
returns-clause-ask c = one_ask rv32

pub returns-clause-ends : goal.returns-clause-ends
returns-clause-ends c = asks_or_ends rv32
