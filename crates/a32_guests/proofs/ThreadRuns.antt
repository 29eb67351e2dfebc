-- The run of each thread of an outcome, whatever its end: for any program.
use Rattle.std.proofs.Common.{◌≡◌, ℕ, zero, suc, ◌<◌, Option, Some, None, List, [], ◌∷◌, length, map, slice_get, refl, sym, ap, subst, arith}
use Rattle.llsc_base.specs.Images.{Program}
use Rattle.llsc_base.specs.Sizes.{Numbers}
use Rattle.llsc_base.specs.declared.outside.Stop.{Stop}
use Rattle.llsc_base.specs.declared.outside.Stop.TheVariants.{Exit}
use Rattle.history.specs.Parts.{accesses_of}
use Rattle.history.specs.declared.entry.Entry.{Entry}
use Rattle.history.proofs.Additions.{own_first}
use Rattle.guest_calls.specs.Pairs.{pair_of, pairs_of}
use Rattle.guest_calls.specs.Run.{EndsOn, Pair}
use Rattle.guest_calls.proofs.Protocols.{makes}
use Rattle.guest_thread.specs.Outcome.{HaveLeft, IsOutcome}
use Rattle.guest_thread.specs.Start.{thread_start}
use Rattle.guest_thread.specs.declared.ends.GuestEnd.{GuestEnd}
use Rattle.a32_step.specs.Machine.{a32}
use Rattle.a32_guests.proofs.Onward.{RunsOn, runs_on}

end_at : (ends : List GuestEnd) (t : ℕ) → t < length ends → (end : GuestEnd) × (slice_get ends t ≡ Some end)
end_at [] t less = absurd (omega (arith, less))
end_at (end ∷ ends) zero less = (end, refl)
end_at (end ∷ ends) (suc t) less = end_at ends t (omega (arith, less))

-- the stop of each thread; where there is none, the exit call's with code 0
abbrev pub stop_by : Option GuestEnd → Stop
stop_by None = Exit 0
stop_by (Some end) = end.stop

abbrev pub stops_of : List GuestEnd → ℕ → Stop
stops_of ends t = stop_by (slice_get ends t)

-- A thread goes on from its start to its stop with what it asked in the history, and the replies.
pub own_run : (program : Program) (size : Numbers) (budget : ℕ) (history : List Entry) (ends : List GuestEnd)
    → IsOutcome a32 program size budget history ends → (t : ℕ) → t < size.threads
    → RunsOn program (stops_of ends t) (thread_start a32 program size size.threads t) (pairs_of t history)
own_run program size budget history ends outcome t member =
    let start = thread_start a32 program size size.threads t in
    let many = outcome.ends.many in
    let found = end_at ends t (omega (arith, member, many)) in
    let end = found.0 in
    let own = subst (λ (k : ℕ). EndsOn a32 program budget start (pairs_of k history) end.stop end.steps end.out)
    (outcome.ends.numbers t end found.1) (outcome.ends.each t end found.1).ends in
    subst (λ stop. RunsOn program stop start (pairs_of t history)) (ap stop_by (sym found.1))
    (runs_on program budget start (pairs_of t history) end.stop end.steps end.out own)

-- where all threads have left with code 0, that is the stop of each
pub stops_left : (ends : List GuestEnd) → HaveLeft ends → (t : ℕ) → stops_of ends t ≡ Exit 0
stops_left ends left t = by_end (slice_get ends t) refl
  where
    by_end : (one : Option GuestEnd) → slice_get ends t ≡ one → stop_by one ≡ Exit 0
    by_end None at = refl
    by_end (Some end) at = left t end at

-- So does one that left.
pub left_run : (program : Program) (size : Numbers) (budget : ℕ) (history : List Entry) (ends : List GuestEnd)
    → IsOutcome a32 program size budget history ends → HaveLeft ends → (t : ℕ) → t < size.threads
    → RunsOn program (Exit 0) (thread_start a32 program size size.threads t) (pairs_of t history)
left_run program size budget history ends outcome left t member =
    subst (λ stop. RunsOn program stop (thread_start a32 program size size.threads t) (pairs_of t history)) (stops_left ends left t)
    (own_run program size budget history ends outcome t member)

-- What is so of whatever a thread's run asks and is replied is so of what the thread makes among the accesses of the history.
pub each_makes : (program : Program) (size : Numbers) (budget : ℕ) (history : List Entry) (ends : List GuestEnd) (Goes : ℕ → Stop → List Pair → Type 0)
    → ((t : ℕ) (stop : Stop) (pairs : List Pair) → RunsOn program stop (thread_start a32 program size size.threads t) pairs → Goes t stop pairs)
    → IsOutcome a32 program size budget history ends
    → (t : ℕ) → t < size.threads → Goes t (stops_of ends t) (makes t (accesses_of history))
each_makes program size budget history ends Goes by_run outcome t member =
    subst (λ entries. Goes t (stops_of ends t) (map pair_of entries)) (own_first t history)
    (by_run t (stops_of ends t) (pairs_of t history) (own_run program size budget history ends outcome t member))
