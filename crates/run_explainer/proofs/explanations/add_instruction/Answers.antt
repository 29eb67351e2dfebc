use Rattle.std.proofs.Common.{◌≡◌, ℕ, List, [], ◌∷◌, ◌++◌, codes, refl, sym, ap, ◌∙◌}
use Rattle.std.proofs.lemmas.Bool.{eqb-false}
use Rattle.llsc_base.specs.Images.{Program}
use Rattle.llsc_host.proofs.Kept.{broke_first}
use Rattle.llsc_texts.proofs.Paging.{holds_pushed}
use Rattle.number_text.specs.Hexadecimal.{word_text}
use Rattle.run_explainer.specs.Attempts.{tally_of}
use Rattle.run_explainer.specs.Text.{instruction_text, shown_at, tally_text}
use Rattle.run_explainer.specs.inner.Steps.{sum_of}
use Rattle.run_explainer.specs.declared.attempts.Attempt.{Attempt}
use Rattle.run_explainer.proofs.Paged.{goes_stopped}
use Rattle.run_explainer.proofs.explanations.add_instruction.Goals as goal

pub returns-in_err-make_room-clause-text : goal.returns-in_err-make_room-clause-text
returns-in_err-make_room-clause-text g c attempts is =
    let said = instruction_text c.args.shown.now c.args.addr attempts in
    goes_stopped g.H.Host c.args.host.now c.make_room.new.host c.make_room.new.page (c.args.page.now ++ said) c.from_residual.result _ c.from_residual.ensures.1
    (broke_first g.H.Host c.args.host.now c.make_room.new.host c.args.page.now said c.in_err-make_room.ensures.pages)

pub returns-clause-text : goal.returns-clause-text
returns-clause-text g c attempts is =
    let said = word_text c.args.addr ++ (codes " " ++ (shown_at c.args.shown.now c.args.addr ++ tally_text c.args.tally.now)) in
    let text : said ≡ instruction_text c.args.shown.now c.args.addr attempts =
    ap (λ t. word_text c.args.addr ++ (codes " " ++ (shown_at c.args.shown.now c.args.addr ++ tally_text t))) is
    ∙ of_some c.args.shown.now c.args.addr attempts (λ none. eqb-false (sum_of c.args.tally.now) 0 (sym c.is_empty.ensures ∙ c.if-is_empty.false) (ap sum_of is ∙ none)) in
    holds_pushed g.H.Host c.args.host.now c.make_room.new.host c.make_room.new.page c.put_instruction.new.page c.args.page.now
    (instruction_text c.args.shown.now c.args.addr attempts) (c.put_instruction.ensures.text.text_is ∙ ap (λ t. c.make_room.new.page ++ t) text) c.in_ok-make_room.ensures.pages
  where
    of_some : (program : Program) (addr : ℕ) (attempts : List Attempt) → (sum_of (tally_of attempts) ≡ 0 → ⊥)
        → word_text addr ++ (codes " " ++ (shown_at program addr ++ tally_text (tally_of attempts))) ≡ instruction_text program addr attempts
    of_some program addr [] some = absurd (some refl)
    of_some program addr (attempt ∷ attempts) some = refl
