use Rattle.std.proofs.Common.{◌≡◌, [], ◌∷◌}
use Rattle.llsc_base.specs.declared.outside.Ask.TheVariants.{Load, LoadEx}
use Rattle.llsc_base.specs.declared.outside.Stop.TheVariants.{Budget, Exit}
use Rattle.a32_step.specs.Machine.{a32}
use Rattle.guest_calls.specs.Worked.{word}
use Rattle.a32_runs.specs.OneWord.{calling, loading}
use Rattle.guest_calls.proofs.Asked.{asks_or_ends, one_ask}
use Rattle.a32_runs.proofs.SmallRuns.{exit_left, first_byte_asked, load_asked, second_byte_asked, spent_at_once, store_asked, store_exclusive_asked, write_spent}
use Rattle.a32_runs.proofs.worked_runs.accesses_that_are_asked.Goals as goal

pub returns-clause-load : goal.returns-clause-load
returns-clause-load c = load_asked

pub returns-clause-store : goal.returns-clause-store
returns-clause-store c = store_asked

pub returns-clause-store_exclusive : goal.returns-clause-store_exclusive
returns-clause-store_exclusive c = store_exclusive_asked

pub returns-clause-first_byte : goal.returns-clause-first_byte
returns-clause-first_byte c = first_byte_asked

pub returns-clause-second_byte : goal.returns-clause-second_byte
returns-clause-second_byte c = second_byte_asked

pub returns-clause-another : goal.returns-clause-another
returns-clause-another c = λ asked.
    let wrong : Load word ≡ LoadEx word = one_ask a32 loading 1 _ [] (Load word) (LoadEx word) load_asked asked in cc

pub returns-clause-too_late : goal.returns-clause-too_late
returns-clause-too_late c = λ ask asked. asks_or_ends a32 loading 0 _ [] ask Budget 0 [] asked (spent_at_once loading _)

pub returns-clause-behind_the_last_byte : goal.returns-clause-behind_the_last_byte
returns-clause-behind_the_last_byte c = λ ask asked. asks_or_ends a32 calling 1 _ _ ask Budget 1 (104 ∷ 105 ∷ []) asked write_spent

pub returns-clause-leaves : goal.returns-clause-leaves
returns-clause-leaves c = λ ask asked. asks_or_ends a32 calling 1 _ [] ask (Exit 5) 1 [] asked exit_left
