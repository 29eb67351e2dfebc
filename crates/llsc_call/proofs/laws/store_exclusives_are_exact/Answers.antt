use Rattle.llsc_call.proofs.Exclusives.{stores_exact}
use Rattle.llsc_call.proofs.laws.store_exclusives_are_exact.Goals as goal

pub returns-clause-of_all : goal.returns-clause-of_all
returns-clause-of_all c = λ program size budget history ends outcome. stores_exact size program.bytes history outcome.legal

pub returns-clause-of_risc_v : goal.returns-clause-of_risc_v
returns-clause-of_risc_v c = λ program size budget history ends outcome. stores_exact size program.bytes history outcome.legal

pub returns-clause-of_begun : goal.returns-clause-of_begun
returns-clause-of_begun c = λ program size first spare budget history ends outcome. stores_exact size program.bytes history outcome.legal
