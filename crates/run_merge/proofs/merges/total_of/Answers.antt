use Rattle.std.proofs.Common.{◌≡◌, ◌∙◌, ◌≤◌, ◌<◌, ℕ, Option, Some, None, IfNone, IfSome, length, sum_by, ap, subst}
use Rattle.history.specs.Parts.{accesses_of}
use Rattle.version_memory.specs.Memory.{pass_seen}
use Rattle.run_record.specs.Limits.{most_accesses}
use Rattle.run_merge.specs.inner.Merging.{AreLogs}
use Rattle.run_merge.specs.declared.logs.Log.{Log}
use Rattle.run_merge.proofs.Filled.{sum_counts, whole_logs}
use Rattle.run_merge.proofs.merges.total_of.Goals as goal

few_of : (found : Option ℕ) (sum all : ℕ) → sum ≡ all → IfSome found (λ total. (total ≡ sum) × (total ≤ most_accesses)) → IfSome found (λ _. all ≤ most_accesses)
few_of None sum all same told = tt
few_of (Some total) sum all same told = subst (λ n. n ≤ most_accesses) (told.0 ∙ same) told.1

all_of : {P Q : Type 0} (found : Option ℕ) → (P → Q) → IfSome found (λ _. P) → IfSome found (λ _. Q)
all_of None also told = tt
all_of (Some total) also told = also told

long_of : (found : Option ℕ) (sum all : ℕ) → sum ≡ all → IfNone found (most_accesses < sum) → IfNone found (most_accesses < all)
long_of None sum all same told = subst (λ n. most_accesses < n) same told
long_of (Some total) sum all same told = tt

pub returns-clause-some : goal.returns-clause-some
returns-clause-some c =
    let run = c.args.run.now in
    few_of c.sum_of.result (sum_by (λ (log : Log). log.count) c.as_slice.result.now) (length (accesses_of (pass_seen run.pass)))
    (ap (sum_by (λ (log : Log). log.count)) c.as_slice.ensures.value ∙ sum_counts run.size (pass_seen run.pass) run.logs.items run.kept) c.sum_of.ensures.some

pub returns-clause-logs : goal.returns-clause-logs
returns-clause-logs c =
    let run = c.args.run.now in
    all_of {P = length (accesses_of (pass_seen run.pass)) ≤ most_accesses} {Q = AreLogs run.size (pass_seen run.pass) run.logs.items} c.sum_of.result
    (λ few. whole_logs run.size (pass_seen run.pass) run.logs.items run.kept few) (returns-clause-some c)

pub returns-clause-none : goal.returns-clause-none
returns-clause-none c =
    let run = c.args.run.now in
    long_of c.sum_of.result (sum_by (λ (log : Log). log.count) c.as_slice.result.now) (length (accesses_of (pass_seen run.pass)))
    (ap (sum_by (λ (log : Log). log.count)) c.as_slice.ensures.value ∙ sum_counts run.size (pass_seen run.pass) run.logs.items run.kept) c.sum_of.ensures.none
