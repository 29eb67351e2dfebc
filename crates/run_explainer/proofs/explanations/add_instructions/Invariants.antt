-- What was written and what stands on the page are the page as it was and the lines so far, by whatever attempts were tallied.
use Rattle.std.proofs.Common.{◌≡◌, List, ◌++◌}
use Rattle.llsc_texts.specs.Paging.{Holds}
use Rattle.run_explainer.specs.Explaining.{AreTallies}
use Rattle.run_explainer.specs.Text.{instructions_text}
use Rattle.run_explainer.specs.declared.attempts.Attempt.{Attempt}
use Rattle.run_explainer.proofs.explanations.add_instructions.Given as goal

abbrev pub invariant-loop-word : goal.invariant-loop-word
invariant-loop-word g l = record {
  program : l.shown ≡ l.fn.shown;
  holds : (attempts : List Attempt) → AreTallies l.tallies attempts → Holds g.H.Host l.initial.host l.host l.page (l.fn.page ++ instructions_text l.fn.shown attempts l.word);
}
