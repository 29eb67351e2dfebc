-- Only proofs and inner contracts need these words.
-- The tables of a merge, filled.
use Rattle.std.specs.Prelude.{ℕ, ◌+◌, ◌≤◌, ◌<◌, List, length, get_or, slice_index}
use Rattle.llsc_base.specs.Sizes.{Numbers}
use Rattle.run_record.specs.Limits.{most_accesses}
use Rattle.run_merge.specs.inner.Tables.{class_at}
use Rattle.run_merge.specs.declared.logs.Stamped.{Stamped}

-- how wide a class is at most
abbrev pub most_width : ℕ
most_width = most_accesses + 1

-- each stamp is below that
abbrev pub AreSmall : List Stamped → Type 0
AreSmall entries = (i : ℕ) (d : Stamped) → i < length entries → (get_or entries i d).stamp < most_width

-- each stamp of the first of a log's entries is below the width of its class
abbrev pub AreWide : Numbers → List Stamped → ℕ → List ℕ → Type 0
AreWide size entries count widths = (i : ℕ) (d : Stamped) → i < count → i < length entries → (get_or entries i d).stamp < slice_index widths (class_at size (get_or entries i d))

-- the first classes stand one behind another, and end here
pub record IsStack (widths : List ℕ) (count : ℕ) (bases : List ℕ) (end : ℕ) : Type 0 where
  pub within : (c : ℕ) → c < count → slice_index bases c + slice_index widths c ≤ end
  pub apart : (c d : ℕ) → c < d → d < count → slice_index bases c + slice_index widths c ≤ slice_index bases d
