use Rattle.std.proofs.Common.{refl, lit<}
use Rattle.llsc_base.specs.Memory.{number_of}
use Rattle.history.proofs.SmallMemory.{apart}
use Rattle.a32_runs.proofs.SmallTraces.{sound_load}
use Rattle.a32_runs.proofs.worked_turns.legal_traces.Goals as goal

pub returns-clause-loads : goal.returns-clause-loads
unfolding number_of
returns-clause-loads c = ((sound_load 2 1 (lit< tt), refl), ((sound_load 2 0 (lit< tt), refl), tt))

pub returns-clause-another_value : goal.returns-clause-another_value
unfolding number_of
returns-clause-another_value c = λ legal. apart 0 0xE5942000 refl legal.0.1
