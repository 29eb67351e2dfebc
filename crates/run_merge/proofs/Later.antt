-- A log, in a longer history that has no more of its thread.
use Rattle.std.proofs.Common.{◌≡◌, ℕ, List, [], sym, ap, ◌∙◌, append-nil}
use Rattle.llsc_base.specs.Sizes.{Numbers}
use Rattle.history.specs.Parts.{entries_of}
use Rattle.history.specs.declared.entry.Entry.{Entry}
use Rattle.history.proofs.Appends.{entries_of-append}
use Rattle.shared_memory.specs.Seen.{IsFront}
use Rattle.run_merge.specs.Logs.{log_of}
use Rattle.run_merge.proofs.Grown.{grown_by_none}
use Rattle.run_merge.proofs.Parts.{same_back}

-- it is the same
pub log_later : (size : Numbers) (t : ℕ) (old new : List Entry) → IsFront old new → entries_of t new ≡ entries_of t old → log_of size t new ≡ log_of size t old
log_later size t old new front same =
    let none : entries_of t front.0 ≡ [] =
    same_back (entries_of t old) (entries_of t front.0) []
    (sym (entries_of-append t old front.0) ∙ ap (entries_of t) (sym front.1) ∙ same ∙ sym (append-nil (entries_of t old))) in
    grown_by_none size t old new front.0 front.1 none
