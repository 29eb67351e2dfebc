-- How the text of an explanation goes on, page by page.
use Rattle.std.proofs.Common.{◌≡◌, ℕ, List, [], ◌∷◌, ◌++◌, Some, None, Result, Ok, Err, sym, ap, subst, ◌∙◌, append_assoc, append-nil}
use Rattle.std.specs.List.{flat_map}
use Rattle.std.specs.Result.{IsErrAnd}
use Rattle.std.proofs.lemmas.Grind.{flat_map-append}
use Rattle.llsc_base.specs.Images.{Program}
use Rattle.llsc_host.specs.declared.host.Host.{Ghosts}
use Rattle.llsc_host.specs.Writes.{Broke}
use Rattle.llsc_host.proofs.Kept.{broke_first, broke_second}
use Rattle.llsc_texts.specs.Paging.{Holds}
use Rattle.llsc_texts.proofs.Paging.{holds_more}
use Rattle.run_explainer.specs.Attempts.{attempt_in, attempts_from, attempts_of, outcome_of}
use Rattle.run_explainer.specs.Text.{attempt_text, outcome_text}
use Rattle.run_explainer.specs.Explaining.{HasSeen}
use Rattle.run_explainer.specs.inner.Texts.{GoesOn, event_text, failures_text}
use Rattle.run_explainer.specs.declared.attempts.Outcome.{Outcome}
use Rattle.run_explainer.specs.declared.events.Event.{Event}
use Rattle.run_explainer.specs.declared.explainer.Explainer.{Explainer}
use Rattle.run_explainer.proofs.Counting.{attempts_more, attempts_split}

-- a failed write is passed on
pub goes_stopped : {S A B : Type 0} (host : Ghosts S) (old new : S) (page text : List ℕ) (result : Result A B) (Q : B → Type 0)
    → IsErrAnd result Q → Broke host old new text → GoesOn host old new page text result
goes_stopped host old new page text (Ok done) Q is broke = absurd is
goes_stopped host old new page text (Err fault) Q is broke = broke

-- a write failed at more of the text
pub broke_more : {S : Type 0} (host : Ghosts S) (old mid new : S) (page text more : List ℕ)
    → Holds host old mid page text → Broke host mid new (page ++ more) → Broke host old new (text ++ more)
broke_more host old mid new page text more held broke =
    subst (Broke host old new) (sym (append_assoc held.done page more) ∙ ap (λ t. t ++ more) held.rest)
    (broke_second host old mid new held.done (page ++ more) held.wrote broke)

-- ---- what is said of events

-- nothing, where nothing is made
pub said_none : (program : Program) (event : Event) (page : List ℕ) → page ++ flat_map (attempt_text program) (attempt_in event None) ≡ page
said_none program event page = append-nil page

pub said_some : (program : Program) (event : Event) (outcome : Outcome) → flat_map (attempt_text program) (attempt_in event (Some outcome)) ≡ outcome_text program event outcome
said_some program event outcome = append-nil (outcome_text program event outcome)

-- one event more
pub failures_more : (granule : ℕ) (program : Program) (seen : List Event) (event : Event)
    → failures_text granule program (seen ++ event ∷ []) ≡ failures_text granule program seen ++ event_text granule program seen event
failures_more granule program seen event =
    ap (flat_map (attempt_text program)) (attempts_more granule seen event)
    ∙ flat_map-append (attempt_text program) (attempts_of granule seen) (attempt_in event (outcome_of granule seen event))

-- some events, and others behind them
failures_split : (granule : ℕ) (program : Program) (seen left : List Event)
    → failures_text granule program (seen ++ left) ≡ failures_text granule program seen ++ flat_map (attempt_text program) (attempts_from granule seen left)
failures_split granule program seen left =
    ap (flat_map (attempt_text program)) (attempts_split granule [] seen left)
    ∙ flat_map-append (attempt_text program) (attempts_of granule seen) (attempts_from granule seen left)

-- ---- amid the events

-- some events were taken in, and what is said of them is written or stands on the page behind what stood there
pub record IsAmid {S : Type 0} (host : Ghosts S) (start here : S) (program : Program) (granule : ℕ) (before page : List ℕ) (events left : List Event) (explainer : Explainer) : Type 0 where
  pub seen : List Event
  pub parts : events ≡ seen ++ left
  pub has : HasSeen explainer seen
  pub holds : Holds host start here page (before ++ failures_text granule program seen)

module _ {S : Type 0} (host : Ghosts S) (start : S) (program : Program) (granule : ℕ) (before : List ℕ) (events : List Event) where
  -- one more
  pub amid_more : (here next : S) (page after : List ℕ) (left rest : List Event) (event : Event) (old new : Explainer)
      → left ≡ event ∷ rest
      → (amid : IsAmid host start here program granule before page events left old)
      → Holds host here next after (page ++ event_text granule program amid.seen event) → HasSeen new (amid.seen ++ event ∷ [])
      → IsAmid host start next program granule before after events rest new
  amid_more here next page after left rest event old new is amid holds has =
      let said = event_text granule program amid.seen event in
      record {
        seen = amid.seen ++ event ∷ [];
        parts = amid.parts ∙ ap (λ l. amid.seen ++ l) is ∙ sym (append_assoc amid.seen (event ∷ []) rest);
        has = has;
        holds =
            subst (Holds host start next after) (append_assoc before (failures_text granule program amid.seen) said ∙ ap (λ t. before ++ t) (sym (failures_more granule program amid.seen event)))
            (holds_more host start here next page after (before ++ failures_text granule program amid.seen) said amid.holds holds);
      }

  -- a write failed at one more
  pub amid_broke : (here next : S) (page after : List ℕ) (left rest : List Event) (event : Event) (explainer : Explainer)
      → left ≡ event ∷ rest
      → (amid : IsAmid host start here program granule before page events left explainer)
      → Broke host here next (page ++ event_text granule program amid.seen event)
      → Broke host start next (before ++ failures_text granule program events)
  amid_broke here next page after left rest event explainer is amid broke =
      let said = event_text granule program amid.seen event in
      let front = before ++ failures_text granule program amid.seen in
      let more = flat_map (attempt_text program) (attempts_from granule (amid.seen ++ event ∷ []) rest) in
      let all : events ≡ (amid.seen ++ event ∷ []) ++ rest = amid.parts ∙ ap (λ l. amid.seen ++ l) is ∙ sym (append_assoc amid.seen (event ∷ []) rest) in
      let text : failures_text granule program events ≡ (failures_text granule program amid.seen ++ said) ++ more =
      ap (failures_text granule program) all ∙ failures_split granule program (amid.seen ++ event ∷ []) rest
      ∙ ap (λ t. t ++ more) (failures_more granule program amid.seen event) in
      let whole : (front ++ said) ++ more ≡ before ++ failures_text granule program events =
      ap (λ t. t ++ more) (append_assoc before (failures_text granule program amid.seen) said)
      ∙ append_assoc before (failures_text granule program amid.seen ++ said) more
      ∙ ap (λ t. before ++ t) (sym text) in
      subst (Broke host start next) whole
      (broke_first host start next (front ++ said) more
      (broke_more host start here next page front said amid.holds broke))

  -- all were taken in
  pub amid_all : (here : S) (page : List ℕ) (left : List Event) (explainer : Explainer) → left ≡ []
      → (amid : IsAmid host start here program granule before page events left explainer)
      → amid.seen ≡ events
  amid_all here page left explainer none amid = sym (amid.parts ∙ ap (λ l. amid.seen ++ l) none ∙ append-nil amid.seen)

-- ---- the three parts of the text

module _ {S : Type 0} (host : Ghosts S) (first second third last : S) (page next : List ℕ) (failures instructions all : List ℕ) where
  -- a write failed at the second, or at the last
  pub broke_second_part : Holds host first second page failures → Broke host second third (page ++ instructions) → Broke host first third (failures ++ (instructions ++ all))
  broke_second_part held broke =
      subst (Broke host first third) (append_assoc failures instructions all)
      (broke_first host first third (failures ++ instructions) all (broke_more host first second third page failures instructions held broke))

  pub holds_two : Holds host first second page failures → Holds host second third next (page ++ instructions) → Holds host first third next (failures ++ instructions)
  holds_two held more = holds_more host first second third page next failures instructions held more

  pub broke_last_part : Holds host first third next (failures ++ instructions) → Broke host third last (next ++ all) → Broke host first last (failures ++ (instructions ++ all))
  broke_last_part held broke =
      subst (Broke host first last) (append_assoc failures instructions all) (broke_more host first third last next (failures ++ instructions) all held broke)

  pub holds_all : (end : List ℕ) → Holds host first third next (failures ++ instructions) → Holds host third last end (next ++ all) → Holds host first last end (failures ++ (instructions ++ all))
  holds_all end held more =
      subst (Holds host first last end) (append_assoc failures instructions all) (holds_more host first third last next end (failures ++ instructions) all held more)
