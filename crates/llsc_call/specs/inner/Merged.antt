-- Only proofs and inner contracts need these words.
-- What a merge of a run's logs comes to.
use Rattle.std.specs.Prelude.{◌≡◌, ℕ, List, Result, Ok, Err, Vec, codes}
use Rattle.std.specs.Global.{Global}
use Rattle.llsc_base.specs.Sizes.{Numbers}
use Rattle.history.specs.declared.entry.Access.{Access}
use Rattle.guest_thread.specs.declared.ends.GuestEnd.{GuestEnd}
use Rattle.run_record.specs.Text.{record_text}
use Rattle.run_merge.specs.declared.merges.MergeFault.{MergeFault}
use Rattle.run_merge.specs.declared.merges.MergeFault.TheVariants.{TooLong, Memory}
use Rattle.llsc_files.specs.Reads.{IsDone}
use Rattle.llsc_host.specs.Said.{refusal_text}
use Rattle.llsc_report.specs.Status.{status_of_all}
use Rattle.llsc_call.specs.inner.Outcome.{CanBeSaid, status_of, text_of}
use Rattle.llsc_call.specs.Record.{record_by}
use Rattle.llsc_call.specs.declared.outcome.Outcome.{Outcome}

-- the text of the record of a merge, with the status by the ends of the threads; or the refusal that there are too many accesses
abbrev pub Tells : Numbers → ℕ → List GuestEnd → Result (Vec Access Global) MergeFault → Outcome → Type 0
Tells size budget ends (Ok merged) outcome = (status_of outcome ≡ status_of_all ends) × (text_of outcome ≡ record_text (record_by size budget merged.items))
Tells size budget ends (Err TooLong) outcome = (status_of outcome ≡ 4) × (text_of outcome ≡ refusal_text (codes "TooLong"))
Tells size budget ends (Err Memory) outcome = ⊥

-- and it may be said
pub record TellsOf (size : Numbers) (budget : ℕ) (ends : List GuestEnd) (merged : Result (Vec Access Global) MergeFault) (outcome : Outcome) : Type 0 where
  pub sayable : CanBeSaid outcome
  pub done : IsDone (status_of outcome)
  pub tells : Tells size budget ends merged outcome
