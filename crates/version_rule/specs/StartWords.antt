-- The words of a memory's table that say which threads were started. This project's own.
use Rattle.std.specs.Prelude.{◌≡◌, ◌+◌, ◌-◌, ◌<◌, ◌≤◌, ℕ, if◌then◌else◌, List, length, slice_index}
use Rattle.history.specs.Started.{is_started}
use Rattle.history.specs.declared.entry.Entry.{Entry}
use Rattle.shared_memory.specs.Layout.{words_of}
use Rattle.shared_memory.specs.declared.plans.Plan.{Plan}

-- how many words there are: behind the cells stands one for each thread that doesn't begin by itself
abbrev pub all_words : Plan → ℕ
all_words plan = words_of plan.size + (plan.size.threads - plan.first)

-- the word of such a thread, in the order of their numbers
abbrev pub start_word : Plan → ℕ → ℕ
start_word plan child = words_of plan.size + (child - plan.first)

-- it is 1 where the thread has been started, and 0 otherwise
abbrev pub start_mark : ℕ → List Entry → ℕ
start_mark child history = if is_started child history then 1 else 0

-- the words are those of a history
pub record AreStarts (plan : Plan) (words : List ℕ) (history : List Entry) : Type 0 where
  pub long : length words ≡ all_words plan
  pub marks : (child : ℕ) → plan.first ≤ child → child < plan.size.threads → slice_index words (start_word plan child) ≡ start_mark child history
