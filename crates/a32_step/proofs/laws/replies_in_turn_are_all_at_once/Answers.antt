use Rattle.a32_step.proofs.Replied.{effect_after, machine_after, start_kept, replies_kept, asked_of_instr, asked_by_machine}
use Rattle.a32_step.proofs.laws.replies_in_turn_are_all_at_once.Goals as goal

pub returns-clause-effect : goal.returns-clause-effect
returns-clause-effect c = effect_after

pub returns-clause-after : goal.returns-clause-after
returns-clause-after c = machine_after

pub returns-clause-start : goal.returns-clause-start
returns-clause-start c = start_kept

pub returns-clause-replies : goal.returns-clause-replies
returns-clause-replies c = replies_kept

pub returns-clause-asked : goal.returns-clause-asked
returns-clause-asked c program instr state replies known =
    (asked_of_instr program instr state replies known, asked_by_machine program instr state replies known)
