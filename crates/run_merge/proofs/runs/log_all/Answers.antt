use Rattle.std.proofs.Common.{◌≡◌, ◌∷◌, ◌<◌, ◌^◌, ℕ, true, sym, subst}
use Rattle.llsc_base.specs.Sizes.{Numbers}
use Rattle.version_memory.specs.Memory.{memory_origin, pass_numbers, pass_seen}
use Rattle.llsc_base.specs.declared.outside.Stop.TheVariants.{TagLimit}
use Rattle.guest_thread.specs.Counting.{accesses_counted, counts_in}
use Rattle.guest_thread.specs.Crews.{threads_of}
use Rattle.guest_thread.specs.declared.ends.GuestEnd.{GuestEnd}
use Rattle.guest_thread.proofs.Crewed.{all_ends, all_taken, are_ends}
use Rattle.run_merge.specs.Runs.{KeepLogs}
use Rattle.run_merge.proofs.AllLogged.{all_logs}
use Rattle.run_merge.proofs.runs.log_all.Goals as goal

pub invariant_of-result : goal.invariant_of-result
invariant_of-result g c =
    let seen = pass_seen c.log_jobs-ran.result.ran.pass in
    record {
      kept = subst (λ (s : Numbers). KeepLogs s seen c.log_jobs-ran.result.logs.items) (sym c.size-size.ensures)
          (all_logs (memory_origin c.args.mem.now) seen (threads_of (c.args.crew.crew.first_job ∷ c.args.crew.crew.jobs.items)) c.log_jobs-ran.result.logs.items
          c.requires.crew.ready.threads c.log_jobs-ran.ensures.logged.logs c.log_jobs-ran.ensures.logged.legal);
    }

pub returns-clause-ends : goal.returns-clause-ends
returns-clause-ends g c =
    are_ends g.C.Core.set c.args.image.now (memory_origin c.args.mem.now) c.args.budget (pass_seen c.log_jobs-ran.result.ran.pass) (threads_of (c.args.crew.crew.first_job ∷ c.args.crew.crew.jobs.items))
    c.log_jobs-ran.result.ran.ends.items c.requires.crew.ready.begin c.requires.crew.ready.threads c.log_jobs-ran.ensures.logged.ended.ends

pub returns-clause-spends : goal.returns-clause-spends
returns-clause-spends g c =
    all_ends g.C.Core.set c.args.image.now (memory_origin c.args.mem.now) c.args.budget (pass_seen c.log_jobs-ran.result.ran.pass)
    (λ (end : GuestEnd). (addr : ℕ) → end.stop ≡ TagLimit addr → (memory_origin c.args.mem.now).spends ≡ true) (threads_of (c.args.crew.crew.first_job ∷ c.args.crew.crew.jobs.items))
    c.log_jobs-ran.result.ran.ends.items (λ t end is. is.spends) c.log_jobs-ran.ensures.logged.ended.ends

pub returns-clause-few : goal.returns-clause-few
returns-clause-few g c =
    all_ends g.C.Core.set c.args.image.now (memory_origin c.args.mem.now) c.args.budget (pass_seen c.log_jobs-ran.result.ran.pass)
    (λ (end : GuestEnd). accesses_counted (counts_in end) < 2 ^ 45) (threads_of (c.args.crew.crew.first_job ∷ c.args.crew.crew.jobs.items))
    c.log_jobs-ran.result.ran.ends.items (λ t end is. is.few) c.log_jobs-ran.ensures.logged.ended.ends

pub returns-clause-numbers : goal.returns-clause-numbers
returns-clause-numbers g c =
    all_taken (pass_numbers c.log_jobs-ran.result.ran.pass) (memory_origin c.args.mem.now).size.threads (threads_of (c.args.crew.crew.first_job ∷ c.args.crew.crew.jobs.items))
    c.requires.crew.ready.threads c.log_jobs-ran.ensures.logged.ended.taken
