use Rattle.std.proofs.Common.{◌≡◌, ◌∙◌, true, false, inl, ap, sym, refl}
use Rattle.llsc_report.specs.Status.{have_left}
use Rattle.llsc_call.proofs.LoadAnswers.{loaded_all, loaded_some, rows_enough}
use Rattle.llsc_call.proofs.Statuses.{all_done}
use Rattle.llsc_call.proofs.commands.load.outcome_of.Goals as goal

pub returns-then-not-have_left : goal.returns-then-not-have_left
returns-then-not-have_left c = λ history ran.
    let numbers = c.args.numbers in
    let ends = c.args.ends.items in
    let off : c.have_left.result ≡ false = c.if-not-have_left.true in
    let none : have_left ends ≡ false = ap have_left (sym c.as_slice.ensures.value) ∙ sym c.have_left.ensures ∙ off in
    record {
      sayable = ran.sums;
      done = all_done ends;
      is = loaded_some numbers.seed numbers.threads numbers.rounds numbers.budget history ends c.args.rows ran none;
    }

pub returns : goal.returns
returns c = λ history ran.
    let numbers = c.args.numbers in
    let ends = c.args.ends.items in
    let on : c.have_left.result ≡ true = c.if-not-have_left.false in
    let all : have_left ends ≡ true = ap have_left (sym c.as_slice.ensures.value) ∙ sym c.have_left.ensures ∙ on in
    record {
      sayable = rows_enough numbers.seed numbers.threads numbers.rounds numbers.budget history ends c.args.rows ran;
      done = inl refl;
      is = loaded_all numbers.seed numbers.threads numbers.rounds numbers.budget history ends c.args.rows c.requires ran all;
    }
