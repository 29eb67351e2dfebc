-- Only proofs and inner contracts need these words.
-- What is added to a page, and how pages go on.
use Rattle.std.specs.Prelude.{◌≡◌, ℕ, ◌+◌, ◌≤◌, List, ◌++◌, length, Result, Ok, Err}
use Rattle.llsc_host.specs.Writes.{Broke}
use Rattle.llsc_host.specs.declared.host.Host.{Ghosts}
use Rattle.llsc_texts.specs.Paging.{Holds}
use Rattle.std.specs.List.{flat_map}
use Rattle.llsc_base.specs.Images.{Program}
use Rattle.run_explainer.specs.Attempts.{attempt_in, attempts_of, outcome_of}
use Rattle.run_explainer.specs.Text.{attempt_text}
use Rattle.run_explainer.specs.declared.events.Event.{Event}

-- a text was added to a page, of so many bytes at most
pub record Longer (most : ℕ) (page text next : List ℕ) : Type 0 where
  pub text_is : next ≡ page ++ text
  pub at_most : length next ≤ length page + most

-- of a text some was written, and the rest stands on a page; or a write failed, before which a front of the text was written
abbrev pub GoesOn : {S A B : Type 0} → Ghosts S → (old new : S) → (page text : List ℕ) → Result A B → Type 0
GoesOn host old new page text (Ok _) = Holds host old new page text
GoesOn host old new page text (Err _) = Broke host old new text

-- what is said of one event, and of some
abbrev pub event_text : (granule : ℕ) → Program → List Event → Event → List ℕ
event_text granule program seen event = flat_map (attempt_text program) (attempt_in event (outcome_of granule seen event))

abbrev pub failures_text : (granule : ℕ) → Program → List Event → List ℕ
failures_text granule program events = flat_map (attempt_text program) (attempts_of granule events)
