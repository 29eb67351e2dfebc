-- A thread alone has one end.
use Rattle.std.proofs.Common.{◌≡◌, ap, refl}
use Rattle.llsc_base.specs.declared.outside.Stop.TheVariants.{Exit}
use Rattle.guest_thread.specs.Start.{thread_start}
use Rattle.guest_thread.specs.declared.ends.GuestEnd.{GuestEnd}
use Rattle.history.proofs.SmallMemory.{apart}
use Rattle.guest_machine.specs.Alone.{IsSoloEnd}
use Rattle.a32_runs.specs.Turns.{leaving, loading, silent_end, small_machine}
use Rattle.guest_machine.proofs.OneEnd.{one_end_alone}
use Rattle.a32_runs.proofs.SmallTraces.{alone_after_a_load, alone_at_once}
use Rattle.a32_runs.proofs.worked_alone.ends_that_are_another_threads.Goals as goal
use Rattle.a32_step.specs.Machine.{a32}

-- the one end of a thread that leaves at once, and of one that loads before
only_at_once : (end : GuestEnd) → IsSoloEnd a32 leaving (small_machine 1) 10 end → silent_end 0 (Exit 0) 2 0 ≡ end
only_at_once end ends =
    one_end_alone a32 leaving 10 (thread_start a32 leaving (small_machine 1) 1 0) 0 leaving.bytes (silent_end 0 (Exit 0) 2 0) end alone_at_once.1 ends.1

only_after_a_load : (end : GuestEnd) → IsSoloEnd a32 loading (small_machine 1) 10 end → silent_end 0 (Exit 0) 3 1 ≡ end
only_after_a_load end ends =
    one_end_alone a32 loading 10 (thread_start a32 loading (small_machine 1) 1 0) 0 loading.bytes (silent_end 0 (Exit 0) 3 1) end alone_after_a_load.1 ends.1

pub returns-clause-another_code : goal.returns-clause-another_code
returns-clause-another_code c = λ ends.
    let same : Exit 0 ≡ Exit 1 = ap (λ (e : GuestEnd). e.stop) (only_at_once (silent_end 0 (Exit 1) 2 0) ends) in
    let codes : 0 ≡ 1 = cc in
    apart 0 1 refl codes

pub returns-clause-another_step : goal.returns-clause-another_step
returns-clause-another_step c = λ ends. apart 2 3 refl (ap (λ (e : GuestEnd). e.steps) (only_at_once (silent_end 0 (Exit 0) 3 0) ends))

pub returns-clause-no_load : goal.returns-clause-no_load
returns-clause-no_load c = λ ends. apart 1 0 refl (ap (λ (e : GuestEnd). e.reads) (only_after_a_load (silent_end 0 (Exit 0) 3 0) ends))
