use Rattle.std.proofs.Common.{sym, ap, ◌∙◌, ◌∷◌}
use Rattle.std.proofs.lemmas.List.{nil_from_length}
use Rattle.a32_forms.specs.Text.{Word, front_word, parts}
use Rattle.a32_forms.proofs.FrontWords.{parts_end, parts_word}
use Rattle.a32_forms.proofs.text.front_part.Goals as goal

pub returns-in_default : goal.returns-in_default
returns-in_default c =
    sym parts_end
    ∙ ap parts (sym (nil_from_length c.after_blanks-text.result.now c.in_default.ensures.cases))
    ∙ c.after_blanks-text.ensures.parts

pub returns-then-is_wordy : goal.returns-then-is_wordy
returns-then-is_wordy c =
    ap (λ word. Word word ∷ parts c.after_word.result.now) c.front_word.ensures.word
    ∙ ap (λ rest. Word (front_word c.after_blanks-text.result.now) ∷ parts rest) c.after_word.ensures
    ∙ parts_word c.after_blanks-text.result.now c.in-Some.rest.now c.in-Some.first.now c.in-Some.ensures.cases.0 (sym c.if-is_wordy.ensures)
    ∙ c.after_blanks-text.ensures.parts
