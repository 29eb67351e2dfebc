-- Only proofs and inner contracts need these words.
-- What stands at the front of a text.
use Rattle.std.specs.Prelude.{List, [], ◌∷◌}
use Rattle.a32_forms.specs.Text.{Part, Word, Mark, parts}
use Rattle.a32_forms.specs.declared.text.Front.{Front}
use Rattle.a32_forms.specs.declared.text.Front.TheVariants as front

-- the parts of a text, by what stands at its front and the text behind it
abbrev pub parts_from : Front → List Part
parts_from front.End = []
parts_from (front.Word word rest) = Word word.now ∷ parts rest.now
parts_from (front.Mark code rest) = Mark code ∷ parts rest.now
