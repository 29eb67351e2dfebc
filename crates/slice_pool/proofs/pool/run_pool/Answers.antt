use Rattle.std.proofs.Common.{◌<◌, ◌≡◌, ◌^◌, ℕ, true, refl, subst, sym}
use Rattle.shared_memory.specs.Seen.{IsOneOf}
use Rattle.guest_thread.specs.Outcome.{AreEndsOn}
use Rattle.std.specs.List.{range_with_len}
use Rattle.llsc_base.specs.declared.outside.Stop.TheVariants.{TagLimit}
use Rattle.guest_thread.specs.Counting.{accesses_counted, counts_in}
use Rattle.guest_thread.specs.declared.ends.GuestEnd.{GuestEnd}
use Rattle.a32_step.specs.Machine.{a32}
use Rattle.guest_thread.proofs.Crewed.{all_ends, all_taken, are_ends}
use Rattle.slice_pool.proofs.pool.run_pool.Goals as goal

pub returns-clause-ends : goal.returns-clause-ends
returns-clause-ends g c =
    let origin = g.M.SharedMemory.origin c.args.mem.now in
    subst (λ seen. AreEndsOn a32 c.args.image.now origin.size c.args.budget seen c.in_order-pooled.result.ends.items) (sym c.vouch.ensures.seen)
    (are_ends a32 c.args.image.now origin c.args.budget (g.M.SharedMemory.seen c.in_order-pooled.result.pass) (range_with_len 0 origin.size.threads) c.in_order-pooled.result.ends.items
    c.requires.pool.begin refl c.in_order-pooled.ensures.ran.ends_are)

pub returns-clause-spends : goal.returns-clause-spends
returns-clause-spends g c =
    let origin = g.M.SharedMemory.origin c.args.mem.now in
    all_ends a32 c.args.image.now origin c.args.budget (g.M.SharedMemory.seen c.in_order-pooled.result.pass)
    (λ (end : GuestEnd). (addr : ℕ) → end.stop ≡ TagLimit addr → (g.M.SharedMemory.origin c.args.mem.now).spends ≡ true) (range_with_len 0 origin.size.threads)
    c.in_order-pooled.result.ends.items (λ t end is. is.spends) c.in_order-pooled.ensures.ran.ends_are

pub returns-clause-few : goal.returns-clause-few
returns-clause-few g c =
    let origin = g.M.SharedMemory.origin c.args.mem.now in
    all_ends a32 c.args.image.now origin c.args.budget (g.M.SharedMemory.seen c.in_order-pooled.result.pass)
    (λ (end : GuestEnd). accesses_counted (counts_in end) < 2 ^ 45) (range_with_len 0 origin.size.threads)
    c.in_order-pooled.result.ends.items (λ t end is. is.few) c.in_order-pooled.ensures.ran.ends_are

pub returns-clause-numbers : goal.returns-clause-numbers
returns-clause-numbers g c t below =
    let threads = (g.M.SharedMemory.origin c.args.mem.now).size.threads in
    subst (IsOneOf t) (sym c.vouch.ensures.numbers)
    (all_taken (g.M.SharedMemory.numbers c.in_order-pooled.result.pass) threads (range_with_len 0 threads) refl c.in_order-pooled.ensures.ran.taken t below)
