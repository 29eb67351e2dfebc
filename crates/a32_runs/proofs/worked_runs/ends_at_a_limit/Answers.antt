use Rattle.std.proofs.Common.{◌≡◌, ℕ, [], arith}
use Rattle.llsc_base.specs.declared.outside.Ask.TheVariants.{Load, Store, StoreEx}
use Rattle.llsc_base.specs.declared.outside.Stop.TheVariants.{Budget, Exit, TagLimit}
use Rattle.a32_step.specs.Machine.{a32}
use Rattle.guest_calls.specs.Run.{by_itself, spends}
use Rattle.guest_calls.specs.Worked.{word}
use Rattle.a32_runs.specs.OneWord.{loading, storing, storing_exclusively, thread_at}
use Rattle.guest_calls.proofs.Asked.{one_end_on}
use Rattle.a32_runs.proofs.SmallRuns.{exit_left, load_asked, refused_at, spent_at_once, store_exclusive_asked, store_reached, store_refused}
use Rattle.a32_runs.proofs.worked_runs.ends_at_a_limit.Goals as goal

-- two such stops are one only at one address
same_limit : (addr other : ℕ) → TagLimit addr ≡ TagLimit other → addr ≡ other
same_limit addr other same = cc

pub returns-clause-by_itself : goal.returns-clause-by_itself
returns-clause-by_itself c = by_itself [] (Exit 5) 1 [] exit_left

pub returns-clause-at_a_store : goal.returns-clause-at_a_store
returns-clause-at_a_store c = store_refused

pub returns-clause-elsewhere : goal.returns-clause-elsewhere
returns-clause-elsewhere c = λ ends.
    let wrong : TagLimit 8 ≡ TagLimit 12 = (one_end_on a32 storing 1 _ [] (TagLimit 8) (TagLimit 12) 0 0 [] [] store_refused ends).0 in
    absurd (omega (arith, same_limit 8 12 wrong))

pub returns-clause-a_step : goal.returns-clause-a_step
returns-clause-a_step c = λ ends.
    let wrong : 0 ≡ 1 = (one_end_on a32 storing 1 _ [] (TagLimit 8) (TagLimit 8) 0 1 [] [] store_refused ends).1 in absurd (omega (arith, wrong))

pub returns-clause-at_a_load : goal.returns-clause-at_a_load
returns-clause-at_a_load c = λ stop steps output ends.
    let at = refused_at loading 1 _ [] (Load word) stop steps output load_asked ends in
    let wrong : Load word ≡ Store at.0 at.1 = at.2 in cc

pub returns-clause-at_a_store_exclusive : goal.returns-clause-at_a_store_exclusive
returns-clause-at_a_store_exclusive c = λ stop steps output ends.
    let at = refused_at storing_exclusively 1 _ [] (StoreEx word 7) stop steps output store_exclusive_asked ends in
    let wrong : StoreEx word 7 ≡ Store at.0 at.1 = at.2 in cc

pub returns-clause-behind_it : goal.returns-clause-behind_it
returns-clause-behind_it c = λ ends.
    let spent = by_itself _ Budget 1 [] (spends _ (thread_at 4 7 8 0 0) [] store_reached) in
    let wrong : Budget ≡ TagLimit 8 = (one_end_on a32 storing 1 _ _ Budget (TagLimit 8) 1 0 [] [] spent ends).0 in cc

pub returns-clause-too_late : goal.returns-clause-too_late
returns-clause-too_late c = λ ends.
    let spent = by_itself [] Budget 0 [] (spent_at_once storing (thread_at 0 7 8 0 0)) in
    let wrong : Budget ≡ TagLimit 8 = (one_end_on a32 storing 0 _ [] Budget (TagLimit 8) 0 0 [] [] spent ends).0 in cc
