use Rattle.std.proofs.Common.{◌≡◌, ℕ, ◌*◌, ◌+◌, ◌-◌, ◌<◌, List, ◌++◌, length, refl, sym, ap, subst, ◌∙◌, append-nil, append_assoc, arith}
use Rattle.std.specs.List.{flat_map, range_with_len}
use Rattle.std.proofs.lemmas.Grind.{flat_map-append}
use Rattle.llsc_host.specs.Writes.{Broke}
use Rattle.llsc_host.proofs.FirstTexts.{range_split, texts_more}
use Rattle.llsc_host.proofs.Kept.{broke_first}
use Rattle.llsc_texts.specs.Paging.{Holds}
use Rattle.llsc_texts.proofs.Paging.{holds_here, holds_more}
use Rattle.run_explainer.specs.Attempts.{attempts_at}
use Rattle.run_explainer.specs.Text.{instruction_text, instructions_text}
use Rattle.run_explainer.proofs.Paged.{broke_more, goes_stopped}
use Rattle.run_explainer.proofs.explanations.add_instructions.Goals as goal

pub loop-word-init : goal.loop-word-init
loop-word-init g c = record {
  program = refl;
  holds = λ attempts are. subst (Holds g.H.Host c.args.host.now c.args.host.now c.args.page.now) (sym (append-nil c.args.page.now)) (holds_here g.H.Host c.args.host.now c.args.page.now);
}

pub loop-word-preserved : goal.loop-word-preserved
loop-word-preserved g c =
    let was = c.loop-word.invariant in
    let word = c.loop-word.word in
    let image = c.args.shown.now in
    record {
      program = c.in_ok-add_instruction.ensures.program ∙ was.program;
      holds = λ attempts are.
          let text : ℕ → List ℕ = λ i. instruction_text image (4 * i) (attempts_at (4 * i) attempts) in
          let known : word < length c.args.tallies.now = omega (arith, c.loop-word-test.true) in
          let before = instructions_text image attempts word in
          let one =
          subst (λ p. Holds g.H.Host c.loop-word.host c.add_instruction.new.host c.add_instruction.new.page (c.loop-word.page ++ instruction_text p (4 * word) (attempts_at (4 * word) attempts))) was.program
          (c.in_ok-add_instruction.ensures.text (attempts_at (4 * word) attempts) (are word _ known)) in
          subst (Holds g.H.Host c.args.host.now c.add_instruction.new.host c.add_instruction.new.page)
          (append_assoc c.args.page.now before (text word) ∙ ap (λ t. c.args.page.now ++ t) (sym (texts_more text word)))
          (holds_more g.H.Host c.args.host.now c.loop-word.host c.add_instruction.new.host c.loop-word.page c.add_instruction.new.page (c.args.page.now ++ before) (text word)
          (was.holds attempts are) one);
    }

pub returns-in_err-add_instruction-clause-text : goal.returns-in_err-add_instruction-clause-text
returns-in_err-add_instruction-clause-text g c attempts are =
    let image = c.args.shown.now in
    let word = c.loop-word.word in
    let text : ℕ → List ℕ = λ i. instruction_text image (4 * i) (attempts_at (4 * i) attempts) in
    let known : word < length c.args.tallies.now = omega (arith, c.loop-word-test.true) in
    let before = instructions_text image attempts word in
    let count = length c.args.tallies.now in
    let left = count - (word + 1) in
    let more = flat_map text (range_with_len (0 + (word + 1)) left) in
    let sum : count ≡ (word + 1) + left = omega (arith, known) in
    let split : instructions_text image attempts count ≡ (before ++ text word) ++ more =
    ap (λ n. flat_map text (range_with_len 0 n)) sum ∙ ap (flat_map text) (range_split 0 (word + 1) left)
    ∙ flat_map-append text (range_with_len 0 (word + 1)) (range_with_len (0 + (word + 1)) left) ∙ ap (λ t. t ++ more) (texts_more text word) in
    let whole : ((c.args.page.now ++ before) ++ text word) ++ more ≡ c.args.page.now ++ instructions_text image attempts count =
    ap (λ t. t ++ more) (append_assoc c.args.page.now before (text word)) ∙ append_assoc c.args.page.now (before ++ text word) more ∙ ap (λ t. c.args.page.now ++ t) (sym split) in
    goes_stopped g.H.Host c.args.host.now c.add_instruction.new.host c.add_instruction.new.page (c.args.page.now ++ instructions_text image attempts count) c.from_residual.result _ c.from_residual.ensures.1
    (subst (Broke g.H.Host c.args.host.now c.add_instruction.new.host) whole
    (broke_first g.H.Host c.args.host.now c.add_instruction.new.host ((c.args.page.now ++ before) ++ text word) more
    (broke_more g.H.Host c.args.host.now c.loop-word.host c.add_instruction.new.host c.loop-word.page (c.args.page.now ++ before) (text word)
    (c.loop-word.invariant.holds attempts are)
    (subst (λ p. Broke g.H.Host c.loop-word.host c.add_instruction.new.host (c.loop-word.page ++ instruction_text p (4 * word) (attempts_at (4 * word) attempts))) c.loop-word.invariant.program
    (c.in_err-add_instruction.ensures.text (attempts_at (4 * word) attempts) (are word _ known))))))
