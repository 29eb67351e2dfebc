use Rattle.std.proofs.Common.{◌∷◌, ◌≡◌, ◌<◌, ◌^◌, ℕ, true, subst, sym}
use Rattle.shared_memory.specs.Seen.{IsOneOf}
use Rattle.llsc_base.specs.declared.outside.Stop.TheVariants.{TagLimit}
use Rattle.guest_thread.specs.Outcome.{AreEndsOn}
use Rattle.guest_thread.specs.Counting.{accesses_counted, counts_in}
use Rattle.guest_thread.specs.declared.ends.GuestEnd.{GuestEnd}
use Rattle.guest_thread.specs.Crews.{threads_of}
use Rattle.guest_thread.proofs.Crewed.{all_ends, all_taken, are_ends}
use Rattle.guest_thread.proofs.runs.run_all.Goals as goal

pub returns-clause-ends : goal.returns-clause-ends
returns-clause-ends g c =
    subst (λ history. AreEndsOn g.C.Core.set c.args.image.now (g.M.SharedMemory.origin c.args.mem.now).size c.args.budget history c.run_jobs-ran.result.ends.items) (sym c.vouch.ensures.seen)
    (are_ends g.C.Core.set c.args.image.now (g.M.SharedMemory.origin c.args.mem.now) c.args.budget (g.M.SharedMemory.seen c.run_jobs-ran.result.pass) (threads_of (c.args.crew.first_job ∷ c.args.crew.jobs.items))
    c.run_jobs-ran.result.ends.items c.requires.crew.begin c.requires.crew.threads c.run_jobs-ran.ensures.ended.ends)

pub returns-clause-spends : goal.returns-clause-spends
returns-clause-spends g c =
    all_ends g.C.Core.set c.args.image.now (g.M.SharedMemory.origin c.args.mem.now) c.args.budget (g.M.SharedMemory.seen c.run_jobs-ran.result.pass)
    (λ (end : GuestEnd). (addr : ℕ) → end.stop ≡ TagLimit addr → (g.M.SharedMemory.origin c.args.mem.now).spends ≡ true) (threads_of (c.args.crew.first_job ∷ c.args.crew.jobs.items))
    c.run_jobs-ran.result.ends.items (λ t end is. is.spends) c.run_jobs-ran.ensures.ended.ends

pub returns-clause-few : goal.returns-clause-few
returns-clause-few g c =
    all_ends g.C.Core.set c.args.image.now (g.M.SharedMemory.origin c.args.mem.now) c.args.budget (g.M.SharedMemory.seen c.run_jobs-ran.result.pass)
    (λ (end : GuestEnd). accesses_counted (counts_in end) < 2 ^ 45) (threads_of (c.args.crew.first_job ∷ c.args.crew.jobs.items))
    c.run_jobs-ran.result.ends.items (λ t end is. is.few) c.run_jobs-ran.ensures.ended.ends

pub returns-clause-numbers : goal.returns-clause-numbers
returns-clause-numbers g c =
    λ t below. subst (λ numbers. IsOneOf t numbers) (sym c.vouch.ensures.numbers)
    (all_taken (g.M.SharedMemory.numbers c.run_jobs-ran.result.pass) (g.M.SharedMemory.origin c.args.mem.now).size.threads (threads_of (c.args.crew.first_job ∷ c.args.crew.jobs.items))
    c.requires.crew.threads c.run_jobs-ran.ensures.ended.taken t below)
