-- A text that is written page by page.
use Rattle.std.specs.Prelude.{◌≡◌, ℕ, List, ◌++◌, Result, Ok, Err}
use Rattle.llsc_host.specs.Writes.{Broke, Wrote}
use Rattle.llsc_host.specs.declared.host.Host.{Ghosts}

-- some of a text was written, and the rest stands on a page
pub record Holds {S : Type 0} (host : Ghosts S) (old new : S) (page text : List ℕ) : Type 0 where
  pub done : List ℕ
  pub wrote : Wrote host old new done
  pub rest : done ++ page ≡ text

-- a page became another, by which a text is written or stands on it; or a write of the page failed
abbrev pub Pages : {S A B : Type 0} → Ghosts S → (old new : S) → (page next text : List ℕ) → Result A B → Type 0
Pages host old new page next text (Ok _) = Holds host old new next text
Pages host old new page next text (Err _) = Broke host old new page
