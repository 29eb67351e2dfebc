-- What was written of a text whose rest stands on a page.
use Rattle.std.proofs.Common.{◌≡◌, ℕ, ◌+◌, ◌*◌, ◌≤◌, List, [], ◌++◌, Result, Ok, Err, append-nil, refl, sym, ◌∙◌, ap, subst, append_assoc}
use Rattle.std.specs.Result.{IsErrAnd}
use Rattle.llsc_base.specs.Images.{Program}
use Rattle.llsc_host.specs.declared.host.Host.{Ghosts}
use Rattle.llsc_host.specs.Writes.{Broke, Writes, Wrote}
use Rattle.llsc_texts.specs.Disassembly.{line_at, lines_of}
use Rattle.llsc_texts.specs.Paging.{Holds, Pages}
use Rattle.llsc_host.proofs.FirstTexts.{texts_broke, texts_more}
use Rattle.llsc_host.proofs.Kept.{broke_second, writes_both, wrote_both, wrote_nothing}

-- nothing was written
pub holds_here : {S : Type 0} (host : Ghosts S) (here : S) (page : List ℕ) → Holds host here here page page
holds_here host here page = record { done = []; wrote = wrote_nothing host here; rest = refl }

-- all was written
pub holds_none : {S : Type 0} (host : Ghosts S) (old new : S) (page text : List ℕ) → page ≡ [] → Wrote host old new text → Holds host old new page text
holds_none host old new page text none wrote = record { done = text; wrote = wrote; rest = ap (λ p. text ++ p) none ∙ append-nil text }

-- more stands on the page
pub holds_pushed : {S : Type 0} (host : Ghosts S) (old new : S) (page next text more : List ℕ) → next ≡ page ++ more → Holds host old new page text
    → Holds host old new next (text ++ more)
holds_pushed host old new page next text more is held = record {
  done = held.done;
  wrote = held.wrote;
  rest = ap (λ p. held.done ++ p) is ∙ sym (append_assoc held.done page more) ∙ ap (λ t. t ++ more) held.rest;
}

-- more of the text
pub holds_more : {S : Type 0} (host : Ghosts S) (old mid new : S) (page next text more : List ℕ) → Holds host old mid page text → Holds host mid new next (page ++ more)
    → Holds host old new next (text ++ more)
holds_more host old mid new page next text more first second = record {
  done = first.done ++ second.done;
  wrote = wrote_both host old mid new first.done second.done first.wrote second.wrote;
  rest = append_assoc first.done second.done next ∙ ap (λ t. first.done ++ t) second.rest ∙ sym (append_assoc first.done page more) ∙ ap (λ t. t ++ more) first.rest;
}

-- a write of the page failed
pub holds_broke : {S : Type 0} (host : Ghosts S) (old mid new : S) (page text : List ℕ) → Holds host old mid page text → Broke host mid new page → Broke host old new text
holds_broke host old mid new page text held broke = subst (Broke host old new) held.rest (broke_second host old mid new held.done page held.wrote broke)

-- the page was written, or a write of it failed
pub holds_written : {S A B : Type 0} (host : Ghosts S) (old mid new : S) (page text : List ℕ) (result : Result A B) → Holds host old mid page text → Writes host mid new page result
    → Writes host old new text result
holds_written host old mid new page text result held writes =
    subst (λ t. Writes host old new t result) held.rest (writes_both host old mid new held.done page result held.wrote writes)

-- a write of the page failed, which is passed on
pub pages_stopped : {S A B : Type 0} (host : Ghosts S) (old new : S) (page next text : List ℕ) (result : Result A B) (Q : B → Type 0)
    → IsErrAnd result Q → Broke host old new page → Pages host old new page next text result
pages_stopped host old new page next text (Ok done) Q is broke = absurd is
pages_stopped host old new page next text (Err fault) Q is broke = broke

-- The lines of a program.

-- the line at one address more
pub lines_more : (program : Program) (i : ℕ) → lines_of program (i + 1) ≡ lines_of program i ++ line_at program (4 * i)
lines_more program i = texts_more (λ k. line_at program (4 * k)) i

-- the first lines cut short are all lines cut short
pub lines_broke : {S : Type 0} (host : Ghosts S) (program : Program) (i n : ℕ) (old new : S) → i ≤ n → Broke host old new (lines_of program i) → Broke host old new (lines_of program n)
lines_broke host program i n old new less broke = texts_broke host (λ k. line_at program (4 * k)) i n old new less broke
