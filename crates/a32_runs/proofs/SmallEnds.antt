-- The ends of the two threads of the program that leaves, and what differs from them.
use Rattle.std.proofs.Common.{◌≡◌, ℕ, zero, suc, [], ◌∷◌, Some, slice_get, refl, subst}
use Rattle.llsc_base.specs.declared.outside.Stop.TheVariants.{Exit}
use Rattle.guest_calls.specs.Run.{by_itself}
use Rattle.guest_thread.specs.End.{IsEndIn}
use Rattle.guest_thread.specs.Ends.{AreEnds}
use Rattle.guest_thread.specs.Outcome.{AreEndsOn, IsEndOn}
use Rattle.guest_thread.specs.Start.{thread_start}
use Rattle.guest_thread.specs.Worked.{end_of, machine_of}
use Rattle.a32_runs.specs.Leaving.{leaving}
use Rattle.guest_thread.specs.declared.ends.GuestEnd.{GuestEnd}
use Rattle.a32_runs.proofs.LeavingRuns.{left}
use Rattle.a32_step.specs.Machine.{a32}

-- how threads 0 and 1 leave
abbrev pub end_0 : GuestEnd
end_0 = end_of 0 (Exit 0) 2 0 0 0

abbrev pub end_1 : GuestEnd
end_1 = end_of 1 (Exit 1) 2 0 0 0

-- each is an end in a history with no access
pub is_end_0 : IsEndIn a32 leaving 2 (thread_start a32 leaving (machine_of 2 1 1) 2 0) [] end_0
is_end_0 = record { ends = left (machine_of 2 1 1) 2 0; counts = record { reads = refl; writes = refl; fails = refl } }

pub is_end_1 : IsEndIn a32 leaving 2 (thread_start a32 leaving (machine_of 2 1 1) 2 1) [] end_1
is_end_1 = record { ends = left (machine_of 2 1 1) 2 1; counts = record { reads = refl; writes = refl; fails = refl } }

-- and also where writes are limited
limited : (t code : ℕ) → IsEndIn a32 leaving 2 (thread_start a32 leaving (machine_of 2 1 1) 2 t) [] (end_of t (Exit code) 2 0 0 0)
    → IsEndOn a32 leaving (machine_of 2 1 1) 2 (thread_start a32 leaving (machine_of 2 1 1) 2 t) [] (end_of t (Exit code) 2 0 0 0)
limited t code end = record {
  ends = by_itself [] (Exit code) 2 [] end.ends;
  spent = λ addr same. absurd cc;
  counts = end.counts;
}

-- the two are the ends of all threads
pub both_ends : AreEnds a32 leaving (machine_of 2 1 1) 2 [] (end_0 ∷ end_1 ∷ [])
both_ends = record { many = refl; numbers = numbers; each = each }
  where
    numbers : (t : ℕ) (end : GuestEnd) → slice_get (end_0 ∷ end_1 ∷ []) t ≡ Some end → end.thread ≡ t
    numbers zero end got = let same : end_0 ≡ end = cc in subst (λ e. e.thread ≡ 0) same refl
    numbers (suc zero) end got = let same : end_1 ≡ end = cc in subst (λ e. e.thread ≡ 1) same refl
    numbers (suc (suc t)) end got = absurd cc

    each : (t : ℕ) (end : GuestEnd) → slice_get (end_0 ∷ end_1 ∷ []) t ≡ Some end
        → IsEndIn a32 leaving 2 (thread_start a32 leaving (machine_of 2 1 1) 2 t) [] end
    each zero end got = let same : end_0 ≡ end = cc in subst (IsEndIn a32 leaving 2 (thread_start a32 leaving (machine_of 2 1 1) 2 0) []) same is_end_0
    each (suc zero) end got = let same : end_1 ≡ end = cc in subst (IsEndIn a32 leaving 2 (thread_start a32 leaving (machine_of 2 1 1) 2 1) []) same is_end_1
    each (suc (suc t)) end got = absurd cc

pub both_ends_on : AreEndsOn a32 leaving (machine_of 2 1 1) 2 [] (end_0 ∷ end_1 ∷ [])
both_ends_on = record { many = both_ends.many; numbers = both_ends.numbers; each = each }
  where
    each : (t : ℕ) (end : GuestEnd) → slice_get (end_0 ∷ end_1 ∷ []) t ≡ Some end
        → IsEndOn a32 leaving (machine_of 2 1 1) 2 (thread_start a32 leaving (machine_of 2 1 1) 2 t) [] end
    each zero end got =
        let same : end_0 ≡ end = cc in subst (IsEndOn a32 leaving (machine_of 2 1 1) 2 (thread_start a32 leaving (machine_of 2 1 1) 2 0) []) same (limited 0 0 is_end_0)
    each (suc zero) end got =
        let same : end_1 ≡ end = cc in subst (IsEndOn a32 leaving (machine_of 2 1 1) 2 (thread_start a32 leaving (machine_of 2 1 1) 2 1) []) same (limited 1 1 is_end_1)
    each (suc (suc t)) end got = absurd cc

-- exits with two codes are two
pub same_code : (code other : ℕ) → Exit code ≡ Exit other → code ≡ other
same_code code other same = cc
